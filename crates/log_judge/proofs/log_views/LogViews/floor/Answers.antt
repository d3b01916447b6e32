use Rattle.std.proofs.Common.{◌≡◌, ◌∙◌, sym, slice_index, false}
use Rattle.std.specs.Prelude.{replicate}
use Rattle.mem_axioms.specs.Events.{is_seq_cst}
use Rattle.mem_axioms.specs.Form.{is_only_value}
use Rattle.mem_axioms.specs.Lemmas.Relations.{coherence-is}
use Rattle.clocks.specs.Tables.{table_at}
use Rattle.clocks.specs.Zeros.{zeros-at}
use Rattle.view_parts.specs.Lemmas.NoneFound.{known-found, no-fence}
use Rattle.view_parts.specs.Lemmas.FloorFound.{untouched-floor, floor-found, before-known}
use Rattle.log_judge.proofs.Listed.{threads-small, cell-listed, thread-small}
use Rattle.log_judge.proofs.log_views.LogViews.floor.Goals as goal

pub returns-in_default : goal.returns-in_default
returns-in_default g c = untouched-floor c.args.self.now.rule c.args.self.now.tape.events c.args.thread c.args.cell c.args.order c.in_default.ensures.views

pub greatest_of_kinds-requires-clause-few : goal.greatest_of_kinds-requires-clause-few
greatest_of_kinds-requires-clause-few g c =
    let memory = c.args.self.now in
    rw c.deref-2.ensures.value (threads-small memory.threads.items memory.tape.events memory.threads_hold)

pub greatest_of_kinds-requires-clause-made : goal.greatest_of_kinds-requires-clause-made
greatest_of_kinds-requires-clause-made g c =
    let memory = c.args.self.now in
    rw c.deref-2.ensures.value (cell-listed memory.threads.items memory.tape.events c.args.cell c.in-Some.kept.now memory.threads_hold c.in-Some.ensures.views)

pub returns : goal.returns
returns g c =
    let memory = c.args.self.now in
    let log = memory.tape.events in
    floor-found memory.rule is_only_value log c.args.thread c.args.cell c.args.order c.in-Some.kept.now c.of-known.result.now c.below-below.result c.fences_before-before.result c.greatest_of_kinds.result c.limit-limit.result
    c.requires.form (coherence-is memory.rule log c.requires.coherent) c.in-Some.ensures.views (thread-small memory.threads.items log memory.threads_hold)
    (λ u. c.of-known.ensures u ∙ memory.rows_hold.threads c.args.thread u) c.limit-limit.ensures c.below-below.ensures
    (λ u. c.fences_before-before.ensures u ∙ before-known memory.rule log c.args.thread c.args.order memory.rows c.limit-limit.result memory.rows_hold c.limit-limit.ensures u)
    c.greatest_of_kinds.ensures.found

pub found_floor-requires-clause-few : goal.found_floor-requires-clause-few
found_floor-requires-clause-few g c =
    let memory = c.args.self.now in
    rw c.deref.ensures.value (threads-small memory.threads.items memory.tape.events memory.threads_hold)

pub found_floor-requires-clause-made : goal.found_floor-requires-clause-made
found_floor-requires-clause-made g c =
    let memory = c.args.self.now in
    rw c.deref.ensures.value (cell-listed memory.threads.items memory.tape.events c.args.cell c.in-Some.kept.now memory.threads_hold c.in-Some.ensures.views)

pub returns-then-not-seq_cst : goal.returns-then-not-seq_cst
returns-then-not-seq_cst g c =
    let memory = c.args.self.now in
    let log = memory.tape.events in
    let zero : c.limit-limit.result ≡ 0 = c.if-limit-eq0.true in
    let relaxed : is_seq_cst c.args.order ≡ false = sym c.if-not-seq_cst.ensures in
    floor-found memory.rule is_only_value log c.args.thread c.args.cell c.args.order c.in-Some.kept.now c.of-known.result.now (replicate 64 0) (replicate 64 0) c.found_floor.result c.limit-limit.result
    c.requires.form (coherence-is memory.rule log c.requires.coherent) c.in-Some.ensures.views (thread-small memory.threads.items log memory.threads_hold)
    (λ u. c.of-known.ensures u ∙ memory.rows_hold.threads c.args.thread u) c.limit-limit.ensures (λ u l. zeros-at 64 u ∙ sym zero)
    (λ u. zeros-at 64 u ∙ (no-fence (is_seq_cst c.args.order) c.limit-limit.result (slice_index memory.rows.joined u) (table_at memory.rows.before c.limit-limit.result u) relaxed zero
    ∙ before-known memory.rule log c.args.thread c.args.order memory.rows c.limit-limit.result memory.rows_hold c.limit-limit.ensures u))
    (known-found memory.rule log c.args.cell c.in-Some.kept.now c.of-known.result.now c.found_floor.result c.in-Some.ensures.views c.found_floor.ensures.found)
