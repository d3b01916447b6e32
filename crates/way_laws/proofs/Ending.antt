-- Where a step gives the ending by an answer of a way, the log that is left is sound.
use Rattle.std.specs.Prelude.{List}
use Rattle.std.proofs.Common.{subst}
use Rattle.mu_model.specs.declared.lines.Line.{Line}
use Rattle.mu_model.specs.Acts.{Program}
use Rattle.mu_model.specs.Clients.{Client}
use Rattle.mu_model.specs.Configuration.{Configuration}
use Rattle.mu_model.specs.Outcomes.{Outcome, Next, End, Asks, Stuck}
use Rattle.mu_model.specs.Run.{with_client}
use Rattle.mu_model.specs.Step.{step}
use Rattle.model_laws.specs.Places.{Places}
use Rattle.model_laws.specs.WellTyped.{WellTyped}
use Rattle.text_programs.specs.Moments.{IsLastLog, log_behind}
use Rattle.text_programs.specs.Lemmas.Endings.{EachEnd, Told, stays_sound, step_ends}
use Rattle.client_hooks.specs.Ways.{Way, client_answers_by}
use Rattle.way_laws.specs.Runs.{EndsSoundlyBy}

-- what holds of each ending that a step may come to, whatever is answered, holds of the one that it comes to
told_ends : (how : Way) (p : Program) (P : List Line → Type 0) (k : Client) (o : Outcome) → EachEnd P o → EachEnd P (client_answers_by how p k o)
told_ends how p P k (Next d) g = g
told_ends how p P k (End ls e) g = g
told_ends how p P k (Asks view go) g = by (go (how.answer p.tables view k)) (g (how.answer p.tables view k))
  where
    by : (o : Outcome) → EachEnd P o → EachEnd P (with_client (how.past k) o)
    by (Next d) g = g
    by (End ls e) g = g
    by (Asks view go) g = g
    by Stuck g = g
told_ends how p P k Stuck g = g

pub ends_soundly : (how : Way) (p : Program) (t : Places) (c : Configuration) → WellTyped p t c → EndsSoundlyBy how p c
ends_soundly how p t c well ls e q =
    let last : IsLastLog c (log_behind ls c.log) = subst (EachEnd (Told p c)) q (told_ends how p (Told p c) c.client (step p c) (step_ends p c)) in
    record { last = last; sound = stays_sound p t c well (log_behind ls c.log) last }
