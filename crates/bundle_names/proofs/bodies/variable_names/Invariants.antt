use Rattle.std.proofs.Common.{◌≡◌, length, []}
use Rattle.bundle_names.specs.BodyUses.{with_variables}
use Rattle.bundle_names.proofs.bodies.variable_names.Given as goal

abbrev pub invariant-each : goal.invariant-each
invariant-each l = with_variables l.scope l.left ≡ with_variables [] l.fn.blocks

abbrev pub decreases-each : goal.decreases-each
decreases-each l = length l.left
