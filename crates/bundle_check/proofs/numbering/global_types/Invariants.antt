use Rattle.std.proofs.Common.{◌≡◌, ◌++◌, length}
use Rattle.checked_code.specs.Answers.{global_classes}
use Rattle.bundle_check.proofs.numbering.global_types.Given as goal

abbrev pub invariant-each : goal.invariant-each
invariant-each l = l.classes ++ global_classes l.tables l.left ≡ global_classes l.tables l.items

abbrev pub decreases-each : goal.decreases-each
decreases-each l = length l.left
