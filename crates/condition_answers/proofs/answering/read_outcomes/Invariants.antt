use Rattle.std.proofs.Common.{◌≡◌, ◌++◌, map}
use Rattle.condition_answers.specs.Outcomes.{outcome_in}
use Rattle.condition_answers.proofs.answering.read_outcomes.Given as goal

abbrev pub invariant-loop-text : goal.invariant-loop-text
invariant-loop-text l = l.outcomes.items ++ map (λ e. outcome_in e.0.items) l.text-iterator ≡ map (λ e. outcome_in e.0.items) l.found.entries
