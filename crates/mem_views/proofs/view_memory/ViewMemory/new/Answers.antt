use Rattle.mem_views.proofs.ThreadsMade.{log-none, made-none}
use Rattle.view_parts.specs.Lemmas.RowsKept.{rows-none}
use Rattle.view_parts.specs.Lemmas.CellsKept.{cells-none}
use Rattle.mem_views.specs.Placing.{place_in}
use Rattle.mem_views.proofs.view_memory.ViewMemory.new.Goals as goal

pub invariant_of-result-clause-log_holds : goal.invariant_of-result-clause-log_holds
invariant_of-result-clause-log_holds c = rw c.new-2.ensures (log-none c.args.rule c.new.result.values)

pub invariant_of-result-clause-made_holds : goal.invariant_of-result-clause-made_holds
invariant_of-result-clause-made_holds c = rw (c.new-3.ensures.items, c.new-2.ensures) made-none

pub invariant_of-result-clause-rows_hold : goal.invariant_of-result-clause-rows_hold
invariant_of-result-clause-rows_hold c =
    rw c.new-2.ensures (rows-none c.args.rule c.new-4.result c.new-4.ensures.threads c.new-4.ensures.left c.new-4.ensures.wakes c.new-4.ensures.fenced c.new-4.ensures.pending c.new-4.ensures.joined c.new-4.ensures.fences)

pub invariant_of-result-clause-cells_hold : goal.invariant_of-result-clause-cells_hold
invariant_of-result-clause-cells_hold c = rw (c.new-2.ensures, c.new-7.ensures.items) (cells-none c.args.rule c.new-5.result (place_in c.new-6.result.objects.items) c.new-6.ensures.none)
