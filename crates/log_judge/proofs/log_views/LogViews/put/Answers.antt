use Rattle.std.proofs.Common.{◌∙◌, arith}
use Rattle.mem_axioms.specs.Form.{is_only_value}
use Rattle.mem_axioms.specs.Lemmas.Positions.{form-parts, fits-next}
use Rattle.view_parts.specs.Lemmas.Gained.{gives-are}
use Rattle.view_parts.specs.Lemmas.RowsKept.{rows-more, rows-below}
use Rattle.view_parts.specs.Lemmas.CellKept.{of_cell}
use Rattle.view_parts.specs.Lemmas.CellsKept.{can-add}
use Rattle.view_parts.specs.Lemmas.ValuesKept.{newest-few}
use Rattle.log_judge.specs.CellKeys.{number_in}
use Rattle.log_judge.proofs.Listed.{threads-more, fences-more}
use Rattle.log_judge.proofs.log_views.LogViews.put.Goals as goal

pub add-requires-clause-above : goal.add-requires-clause-above
add-requires-clause-above c =
    let views = c.args.self.now in
    rw views.counted (rows-below views.rule views.tape.events views.rows c.args.event.thread views.rows_hold)

pub add_access-requires-clause-can : goal.add_access-requires-clause-can
add_access-requires-clause-can c cell a =
    let views = c.args.self.now in
    let log = views.tape.events in
    let few = newest-few log cell in
    let count = c.requires.count in
    let form = form-parts is_only_value c.args.event log c.requires.faultless.form in
    rw views.counted (can-add views.rule log c.args.event views.clocks (number_in views.places.places) views.places.owners.items views.kept.items cell 0 views.places.owned views.placed views.cells_hold (omega (arith, few, count))
    (λ m. fits-next is_only_value log c.args.event cell form.0 (of_cell c.args.event cell a ∙ m)) (c.requires.cell cell a))

pub invariant_of-self-3-clause-threads_hold : goal.invariant_of-self-3-clause-threads_hold
invariant_of-self-3-clause-threads_hold c =
    let views = c.args.self.now in
    rw c.push.ensures.events (threads-more views.threads.items c.args.event views.tape.events c.requires.listed views.threads_hold)

pub invariant_of-self-3-clause-rows_hold : goal.invariant_of-self-3-clause-rows_hold
invariant_of-self-3-clause-rows_hold c =
    let views = c.args.self.now in
    let a = (rw views.counted at c.add.ensures.added) in
    rw c.push.ensures.events (rows-more views.rule views.tape.events c.args.event views.rows c.add.new.self c.args.clock.now c.args.taken.now
    (record { threads = a.threads; left = a.left; wakes = a.wakes; fenced = a.fenced; pending = a.pending; joined = a.joined; before = a.before; fences = a.fences }) views.rows_hold c.requires.knows c.requires.taken)

pub invariant_of-self-3-clause-fences_hold : goal.invariant_of-self-3-clause-fences_hold
invariant_of-self-3-clause-fences_hold c =
    let views = c.args.self.now in
    rw c.push.ensures.events (fences-more views.rule views.tape.events c.args.event views.fences c.keep_fence.new.fences c.args.clock.now (rw views.counted at c.keep_fence.ensures) c.requires.knows views.fences_hold)

pub invariant_of-self-3-clause-cells_hold : goal.invariant_of-self-3-clause-cells_hold
invariant_of-self-3-clause-cells_hold c =
    let views = c.args.self.now in
    let given = gives-are views.rule views.tape.events c.args.event views.rows c.args.clock.now c.of.result.now c.given_by-given.result views.rows_hold c.requires.knows c.of.ensures c.given_by-given.ensures in
    rw c.push.ensures.events (c.add_access.ensures.holds views.tape.events views.counted (λ u. rw views.counted (given u)) views.cells_hold)

pub invariant_of-self-3-clause-initials_hold : goal.invariant_of-self-3-clause-initials_hold
invariant_of-self-3-clause-initials_hold c =
    let views = c.args.self.now in
    rw c.push.ensures.events (c.in_ok-keep_initial.ensures.holds views.tape.events views.initials_hold)
