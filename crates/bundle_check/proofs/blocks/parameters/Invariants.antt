use Rattle.std.proofs.Common.{◌≡◌, length}
use Rattle.demands.specs.Demands.{first_unmet}
use Rattle.checked_code.specs.Blocks.{parameter_demands}
use Rattle.bundle_check.proofs.blocks.parameters.Given as goal

abbrev pub invariant-each : goal.invariant-each
invariant-each l = first_unmet (parameter_demands l.tables l.left) ≡ first_unmet (parameter_demands l.tables l.fn.parameters)

abbrev pub decreases-each : goal.decreases-each
decreases-each l = length l.left
