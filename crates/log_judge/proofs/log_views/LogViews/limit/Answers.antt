use Rattle.std.proofs.Common.{◌∙◌, sym}
use Rattle.view_parts.specs.Holding.{fence_by}
use Rattle.view_parts.specs.Indexed.{accesses_at}
use Rattle.view_parts.specs.Lemmas.FloorFound.{fence-parts, limit-found, limit-is}
use Rattle.log_judge.proofs.Listed.{threads-small, fences-listed}
use Rattle.log_judge.proofs.log_views.LogViews.limit.Goals as goal

pub last_fence-requires-clause-few : goal.last_fence-requires-clause-few
last_fence-requires-clause-few g c =
    let memory = c.args.self.now in
    rw c.deref.ensures.value (threads-small memory.threads.items memory.tape.events memory.threads_hold)

pub last_fence-requires-clause-made : goal.last_fence-requires-clause-made
last_fence-requires-clause-made g c =
    let memory = c.args.self.now in
    rw c.deref.ensures.value (fences-listed fence_by memory.threads.items memory.tape.events (accesses_at memory.rows.fences.items) memory.threads_hold
    (λ u e t. (fence-parts memory.rule memory.tape.events c.args.thread u e t).1) memory.rows_hold.fences)

pub returns : goal.returns
returns g c =
    let memory = c.args.self.now in
    limit-found memory.rule memory.tape.events c.args.thread memory.rows c.args.known.now c.last_fence.result memory.rows_hold c.requires c.last_fence.ensures.found
    ∙ sym (limit-is memory.rule memory.tape.events c.args.thread c.args.order (sym c.seq_cst.ensures ∙ c.if-seq_cst.false))
