use Rattle.std.proofs.Common.{◌≡◌, ◌++◌, length}
use Rattle.demands.specs.Demands.{first_unmet}
use Rattle.checked_code.specs.Functions.{functions_demands, all_blocks}
use Rattle.bundle_check.proofs.functions.all_functions.Given as goal

abbrev pub invariant-each : goal.invariant-each
invariant-each l = record {
  left : first_unmet (functions_demands l.tables l.first l.left) ≡ first_unmet (functions_demands l.tables 0 l.fn.items);
  made : l.all ++ all_blocks l.tables l.at l.first l.left ≡ all_blocks l.tables 0 0 l.fn.items;
}

abbrev pub decreases-each : goal.decreases-each
decreases-each l = length l.left
