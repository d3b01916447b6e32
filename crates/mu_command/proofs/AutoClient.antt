-- A client that has no entries left and passes zero and NULL for what is asked ends no run.
use Rattle.std.specs.Prelude.{◌≡◌, ◌≢◌, Option, Some, refl}
use Rattle.std.proofs.Common.{◌∙◌, ap}
use Rattle.mu_model.specs.Acts.{Program}
use Rattle.mu_model.specs.Answers.{answer_of, advanced, blank, plain_answer}
use Rattle.mu_model.specs.Clients.{Answer, Client, Pass, Resume}
use Rattle.mu_model.specs.Configuration.{Configuration}
use Rattle.mu_model.specs.Outcomes.{Outcome, Next, End, Asks, Stuck, View}
use Rattle.mu_model.specs.Run.{client_answers, with_client}
use Rattle.mu_model.specs.Step.{step}
use Rattle.client_hooks.specs.AutoAnswers.{GoesOn}
use Rattle.client_hooks.specs.Laws.{blank_resumes}
use Rattle.client_hooks.specs.Lemmas.GoingOn.{goes_on}
use Rattle.text_programs.specs.Lemmas.Asking.{of_trap}
use Rattle.mu_command.specs.Central.{AutoGoesOn}

pub auto_goes_on : (p : Program) (c : Configuration) → client_answers p c.client (step p c) ≢ Stuck → AutoGoesOn p c
auto_goes_on p c rule view go asks auto = by (go (Some zero)) goes is
  where
    zero : Answer
    zero = plain_answer (Resume (Pass (blank p.tables view.asked)))

    goes : GoesOn (go (Some zero))
    goes = let t = of_trap p c view go asks in goes_on p t.before t.turn t.watchpoint t.asked view go (Some zero) zero t.is refl (blank_resumes p.tables view zero refl)

    is : client_answers p c.client (step p c) ≡ with_client (advanced c.client) (go (Some zero))
    is = ap (client_answers p c.client) asks ∙ ap (λ (k : Client). with_client (advanced c.client) (go (answer_of p.tables view k))) auto

    by : (o : Outcome) → GoesOn o → client_answers p c.client (step p c) ≡ with_client (advanced c.client) o → (d : Configuration) × (client_answers p c.client (step p c) ≡ Next d)
    by (Next d) g e = (record d { client = advanced c.client }, e)
    by (End ls x) g e = absurd g
    by (Asks other more) g e = absurd g
    by Stuck g e = absurd (rule e)
