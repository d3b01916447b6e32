use Rattle.std.proofs.Common.{◌≡◌, ◌++◌, length, map}
use Rattle.condition_answers.specs.Outcomes.{all_finals}
use Rattle.condition_answers.proofs.outcomes.all_finals.Given as goal

-- what was read, with what the lines say that are left, is what all say
abbrev pub invariant-each : goal.invariant-each
invariant-each l = l.all ++ all_finals (map (λ line. line.now) l.left) ≡ all_finals (map (λ line. line.now) l.lines)

abbrev pub decreases-each : goal.decreases-each
decreases-each l = length l.left
