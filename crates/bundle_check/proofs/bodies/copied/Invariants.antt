use Rattle.std.proofs.Common.{◌≡◌, ◌++◌, length}
use Rattle.bundle_check.proofs.bodies.copied.Given as goal

abbrev pub invariant-each : goal.invariant-each
invariant-each l = l.copy ++ l.left ≡ l.fn.classes

abbrev pub decreases-each : goal.decreases-each
decreases-each l = length l.left
