use Rattle.std.proofs.Common.{◌≡◌, ◌++◌, length, reverse}
use Rattle.bundle_join.proofs.joining.reversed.Given as goal

abbrev pub invariant-each : goal.invariant-each
invariant-each g l = l.members.items ++ reverse l.left ≡ reverse l.fn.list

abbrev pub decreases-each : goal.decreases-each
decreases-each g l = length l.left
