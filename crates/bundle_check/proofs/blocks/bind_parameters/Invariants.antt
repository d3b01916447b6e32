use Rattle.std.proofs.Common.{◌≡◌, length}
use Rattle.checked_code.specs.Blocks.{bound_parameters}
use Rattle.bundle_check.proofs.blocks.bind_parameters.Given as goal

abbrev pub invariant-each : goal.invariant-each
invariant-each l = bound_parameters l.tables l.locals l.left ≡ bound_parameters l.tables l.fn.locals l.fn.parameters

abbrev pub decreases-each : goal.decreases-each
decreases-each l = length l.left
