-- The lines of answers after outcomes, and the status after them.
use Rattle.std.specs.Prelude.{Bool, List, map, flat_map}
use Rattle.mu_base.specs.declared.status.Status.{Status}
use Rattle.conditions.specs.declared.tree.Condition.{Condition}
use Rattle.conditions.specs.declared.answering.Answer.{Answer}
use Rattle.conditions.specs.declared.holding.Outcome.{Outcome}
use Rattle.conditions.specs.Answers.{answer_of, status_of}
use Rattle.conditions.specs.Printed.{answer_text}
use Rattle.condition_answers.specs.Outcomes.{Text, outcome_in}

-- the answers to conditions over outcomes; `complete` where there are no others
abbrev pub answers_over : List Outcome → Bool → List Condition → List Answer
answers_over found complete cs = map (λ (c : Condition). answer_of c found complete) cs

abbrev pub lines_over : List Outcome → Bool → List Condition → Text
lines_over found complete cs = flat_map (λ (c : Condition). answer_text c.claim (answer_of c found complete)) cs

-- the same by the texts of the outcomes
abbrev pub outcomes_in : List Text → List Outcome
outcomes_in texts = map outcome_in texts

abbrev pub answer_lines : List Text → Bool → List Condition → Text
answer_lines texts complete cs = lines_over (outcomes_in texts) complete cs

abbrev pub answers_status : List Text → Bool → List Condition → Status
answers_status texts complete cs = status_of (answers_over (outcomes_in texts) complete cs)
