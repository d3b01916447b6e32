use Rattle.std.proofs.Common.{◌≡◌, ◌++◌, length, map, false}
use Rattle.condition_answers.specs.Outcomes.{values_from}
use Rattle.condition_answers.proofs.values.values_of.Given as goal

-- what was read, with what the words say that are left, is what all say
abbrev pub invariant-each : goal.invariant-each
invariant-each l = l.values ++ values_from l.inside (map (λ word. word.now) l.left) ≡ values_from false (map (λ word. word.now) l.words)

abbrev pub decreases-each : goal.decreases-each
decreases-each l = length l.left
