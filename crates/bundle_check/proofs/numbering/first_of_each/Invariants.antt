use Rattle.std.proofs.Common.{◌≡◌, ◌++◌, length}
use Rattle.checked_code.specs.Functions.{first_blocks}
use Rattle.bundle_check.proofs.numbering.first_of_each.Given as goal

abbrev pub invariant-each : goal.invariant-each
invariant-each l = l.firsts ++ first_blocks l.next l.left ≡ first_blocks 0 l.items

abbrev pub decreases-each : goal.decreases-each
decreases-each l = length l.left
