use Rattle.std.proofs.Common.{◌≡◌, ◌++◌, length}
use Rattle.checked_code.specs.Blocks.{parameter_classes}
use Rattle.bundle_check.proofs.bodies.classes_of.Given as goal

abbrev pub invariant-each : goal.invariant-each
invariant-each l = l.classes ++ parameter_classes l.tables l.left ≡ parameter_classes l.tables l.fn.parameters

abbrev pub decreases-each : goal.decreases-each
decreases-each l = length l.left
