use Rattle.view_parts.specs.Lemmas.RowsKept.{rows-none}
use Rattle.view_parts.specs.Lemmas.CellsKept.{cells-none}
use Rattle.log_judge.specs.CellKeys.{number_in}
use Rattle.log_judge.proofs.Listed.{threads-none, fences-none, initials-none}
use Rattle.log_judge.proofs.log_views.LogViews.new.Goals as goal

pub invariant_of-result-clause-threads_hold : goal.invariant_of-result-clause-threads_hold
invariant_of-result-clause-threads_hold c = rw (c.new-2.ensures.items, c.new.ensures) threads-none

pub invariant_of-result-clause-rows_hold : goal.invariant_of-result-clause-rows_hold
invariant_of-result-clause-rows_hold c =
    rw c.new.ensures (rows-none c.args.rule c.new-3.result c.new-3.ensures.threads c.new-3.ensures.left c.new-3.ensures.wakes c.new-3.ensures.fenced c.new-3.ensures.pending c.new-3.ensures.joined c.new-3.ensures.fences)

pub invariant_of-result-clause-fences_hold : goal.invariant_of-result-clause-fences_hold
invariant_of-result-clause-fences_hold c = rw c.new.ensures (fences-none c.args.rule c.new-4.result)

pub invariant_of-result-clause-cells_hold : goal.invariant_of-result-clause-cells_hold
invariant_of-result-clause-cells_hold c = rw (c.new.ensures, c.new-7.ensures.items) (cells-none c.args.rule c.new-5.result (number_in c.new-6.result.places) c.new-6.ensures.none)

pub invariant_of-result-clause-initials_hold : goal.invariant_of-result-clause-initials_hold
invariant_of-result-clause-initials_hold c = rw c.new.ensures (initials-none c.new-8.result c.new-8.ensures.empty)
