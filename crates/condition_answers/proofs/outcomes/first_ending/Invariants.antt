use Rattle.std.proofs.Common.{◌≡◌, length, map}
use Rattle.condition_answers.specs.Outcomes.{first_ending}
use Rattle.condition_answers.proofs.outcomes.first_ending.Given as goal

abbrev pub invariant-each : goal.invariant-each
invariant-each l = first_ending (map (λ line. line.now) l.left) ≡ first_ending (map (λ line. line.now) l.lines)

abbrev pub decreases-each : goal.decreases-each
decreases-each l = length l.left
