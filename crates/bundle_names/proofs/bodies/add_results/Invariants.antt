use Rattle.std.proofs.Common.{◌≡◌, length}
use Rattle.bundle_names.specs.BodyUses.{with_results}
use Rattle.bundle_names.proofs.bodies.add_results.Given as goal

abbrev pub invariant-each : goal.invariant-each
invariant-each l = with_results l.scope l.left ≡ with_results l.fn.scope l.fn.insts

abbrev pub decreases-each : goal.decreases-each
decreases-each l = length l.left
