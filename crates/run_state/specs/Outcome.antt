-- What a step answers, where memory is found.
use Rattle.std.specs.Prelude.{◌≡◌, ⊤, reverse}
use Rattle.mu_model.specs.declared.endings.StepEnd.{StepEnd}
use Rattle.mu_model.specs.declared.endings.StepEnd.TheVariants.{Went, Ended}
use Rattle.mu_model.specs.Configuration.{Configuration}
use Rattle.mu_model.specs.Outcomes.{Outcome, Next, End}

-- the run goes on with this configuration, or it ends
abbrev pub outcome_of : StepEnd → Configuration → Outcome
outcome_of (Went ls) c = Next (record c { lines = reverse ls })
outcome_of (Ended ls e) c = End ls e

-- a step that gives the ending leaves all as it was, so that the next one gives the same again
abbrev pub Stays : {A : Type 0} → StepEnd → A → A → Type 0
Stays (Went ls) old new = ⊤
Stays (Ended ls e) old new = new ≡ old
