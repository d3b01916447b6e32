use Rattle.std.specs.Prelude.{ℕ, Some}
use Rattle.std.proofs.Common.{sym, ◌∙◌, ap}
use Rattle.mu_model.specs.Configuration.{Active}
use Rattle.trap_answers.proofs.Asked.{seats_same, told}
use Rattle.trap_answers.proofs.asking.ask.Goals as goal

pub returns-clause-same : goal.returns-clause-same
returns-clause-same g c = λ frames there.
    let at = there ∙ ap (λ (i : ℕ). Some (Active i frames)) (sym c.thread.ensures) in
    seats_same c.args.seats.now c.ask.new.self c.args.stack c.thread.result frames at (c.ask.ensures frames at)

pub returns-clause-answer : goal.returns-clause-answer
returns-clause-answer g c = λ frames there.
    let at = there ∙ ap (λ (i : ℕ). Some (Active i frames)) (sym c.thread.ensures) in
    told c.args.seats.now c.ask.new.self c.args.stack c.thread.result frames at (c.ask.ensures frames at)
