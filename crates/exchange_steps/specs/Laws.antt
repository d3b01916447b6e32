-- What the exchange of two neighbouring independent events comes to for the machine.
use Rattle.std.specs.Prelude.{◌≡◌, ◌≤◌, ℕ, true, List, [], ◌∷◌, length}
use Rattle.mem_axioms.specs.declared.types.Event.{Event}
use Rattle.mem_axioms.specs.Axioms.{meets_axioms}
use Rattle.frames.specs.Activations.{Activation}
use Rattle.mu_model.specs.Acts.{Program}
use Rattle.mu_model.specs.Configuration.{Configuration}
use Rattle.mu_model.specs.Accesses.{initial}
use Rattle.mu_model.specs.Turns.{Turn}
use Rattle.mu_model.specs.Outcomes.{Next}
use Rattle.mu_model.specs.Step.{turns}
use Rattle.exchange_laws.specs.Exchange.{Independent}
use Rattle.exchange_steps.specs.Alike.{Alike, with_log}
use Rattle.exchange_steps.specs.Ordered.{Ordered}
use Rattle.exchange_steps.specs.Diamond.{Steps, went}
use Rattle.exchange_steps.specs.Made.{made}

-- Over two logs that differ by an exchange below number m, the turn of a thread comes to the same, but for the order of the log and the
-- number of the earlier event of a race.
abbrev pub TurnsAreAlike : Type 0
TurnsAreAlike = (p : Program) (c : Configuration) (other : List Event) (m i : ℕ) → Ordered m c.log other → m ≤ length c.log → meets_axioms c.rule (initial c) c.log ≡ true →
    Alike (Ordered m) (turns p c i) (turns p (with_log other c) i)

-- The two steps can be made in the other order, and the configuration after them is the same but for the order of the two events.
pub record Commute (p : Program) (c : Configuration) (i j : ℕ) (u v : Turn) (fs gs : List Activation) (e f : Event) : Type 0 where
  pub later_first : Steps p c j v gs f
  pub earlier_second : Steps p (went c j v.stack gs f) i u fs e
  pub same_end : went (went c j v.stack gs f) i u.stack fs e ≡ with_log (e ∷ f ∷ c.log) (went (went c i u.stack fs e) j v.stack gs f)

-- An access or fence of a thread, and after it one of another thread whose event is independent, commute.
abbrev pub IndependentStepsCommute : Type 0
IndependentStepsCommute = (p : Program) (c : Configuration) (i j : ℕ) (u v : Turn) (fs gs : List Activation) (e f : Event) → (i ≡ j → ⊥) →
    Steps p c i u fs e → Steps p (went c i u.stack fs e) j v gs f → Independent (length c.log) e f → meets_axioms c.rule (initial c) (f ∷ e ∷ c.log) ≡ true →
    Commute p c i j u v fs gs e f

-- Such a step is what the machine does at the turn of that thread, by some numbers of a schedule, whatever numbers are left after it.
abbrev pub StepsAreTurns : Type 0
StepsAreTurns = (p : Program) (c : Configuration) (i : ℕ) (u : Turn) (fs : List Activation) (e : Event) → Steps p c i u fs e → u.thread ≡ i → (rest : List ℕ) →
    (picks : List ℕ) × (turns p (record c { picks = picks }) i ≡ Next (made c i u fs e rest))
