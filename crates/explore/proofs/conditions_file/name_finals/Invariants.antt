use Rattle.std.proofs.Common.{◌≡◌, [], length}
use Rattle.explore.specs.Parts.{numbered_finals}
use Rattle.explore.proofs.conditions_file.name_finals.Given as goal

-- what was named, with the globals that are left, is what all come to
abbrev pub invariant-each : goal.invariant-each
invariant-each l = numbered_finals l.number l.names l.left ≡ numbered_finals 0 [] l.finals

abbrev pub decreases-each : goal.decreases-each
decreases-each l = length l.left
