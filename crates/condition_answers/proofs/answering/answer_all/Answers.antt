use Rattle.std.proofs.Common.{ℕ, ap, ◌∙◌, Vec, Global}
use Rattle.conditions.specs.Answers.{status_of}
use Rattle.condition_answers.specs.Lines.{answers_over, lines_over}
use Rattle.condition_answers.proofs.Texts.{same_outcomes}
use Rattle.condition_answers.proofs.answering.answer_all.Goals as goal

pub returns-clause-lines : goal.returns-clause-lines
returns-clause-lines c =
    let same = same_outcomes (λ (e : Vec ℕ Global × Vec ℕ Global). e.0.items) c.args.found.now.entries in
    c.in_ok-lines.ensures ∙ ap (λ os. lines_over os c.args.complete c.args.conditions.now) (c.deref-2.ensures.value ∙ c.in_ok-outcomes.ensures ∙ same)

pub returns-clause-status : goal.returns-clause-status
returns-clause-status c =
    let same = same_outcomes (λ (e : Vec ℕ Global × Vec ℕ Global). e.0.items) c.args.found.now.entries in
    c.status-status.ensures ∙ ap status_of (c.deref-3.ensures.value ∙ c.in_ok-answers.ensures
    ∙ ap (λ os. answers_over os c.args.complete c.args.conditions.now) (c.deref.ensures.value ∙ c.in_ok-outcomes.ensures ∙ same))
