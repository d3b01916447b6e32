use Rattle.std.proofs.Common.{◌∙◌, sym}
use Rattle.view_parts.specs.Holding.{fence_by}
use Rattle.view_parts.specs.Indexed.{accesses_at}
use Rattle.view_parts.specs.Lemmas.RowsKept.{rows-few}
use Rattle.mem_views.proofs.ThreadsMade.{made-small, entries-made}
use Rattle.view_parts.specs.Lemmas.FloorFound.{fence-parts, limit-found, limit-is}
use Rattle.mem_views.proofs.view_memory.ViewMemory.limit.Goals as goal

pub last_fence-requires-clause-few : goal.last_fence-requires-clause-few
last_fence-requires-clause-few g c =
    let memory = c.args.self.now in
    rw c.deref.ensures.value (made-small memory.rule memory.objects.values memory.tape.events memory.made.items memory.log_holds memory.made_holds)

pub last_fence-requires-clause-made : goal.last_fence-requires-clause-made
last_fence-requires-clause-made g c =
    let memory = c.args.self.now in
    rw c.deref.ensures.value (entries-made (λ n e. n) fence_by memory.rule memory.objects.values memory.tape.events memory.made.items (accesses_at memory.rows.fences.items) memory.log_holds memory.made_holds
    (λ u e t. (fence-parts memory.rule memory.tape.events c.args.thread u e t).1) memory.rows_hold.fences)

pub returns-clause-limit : goal.returns-clause-limit
returns-clause-limit g c =
    let memory = c.args.self.now in
    limit-found memory.rule memory.tape.events c.args.thread memory.rows c.args.known.now c.last_fence.result memory.rows_hold c.requires c.last_fence.ensures.found
    ∙ sym (limit-is memory.rule memory.tape.events c.args.thread c.args.order (sym c.seq_cst.ensures ∙ c.if-seq_cst.false))

pub returns-clause-cost : goal.returns-clause-cost
returns-clause-cost g c d l =
    let memory = c.args.self.now in
    rw c.deref.ensures.value at (c.last_fence.ensures.cost d (rows-few memory.rule memory.tape.events memory.rows d memory.rows_hold l))
