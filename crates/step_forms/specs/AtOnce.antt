-- Nothing that a reader believes of a run rests on this. It is which act of the abstract machine a decision is that was made at once.
use Rattle.std.specs.Prelude.{◌≡◌, ℕ, List, [], ◌∷◌, Option, Some, None, IfSome}
use Rattle.mu_values.specs.declared.scalars.Scalar.{Scalar}
use Rattle.frames.specs.Activations.{Value}
use Rattle.mu_model.specs.declared.endings.Case.TheVariants as cases
use Rattle.mu_model.specs.Acts as acts
use Rattle.step_forms.specs.Asked.{Lists}
use Rattle.step_forms.specs.declared.at_once.AtOnce.{AtOnce}
use Rattle.step_forms.specs.declared.at_once.AtOnce.TheVariants as made

-- a scalar that was computed is given; else a divisor was 0
abbrev pub scalar_or_fault : Option Scalar → acts.Act
scalar_or_fault None = acts.Faults cases.DivideByZero
scalar_or_fault (Some s) = acts.Gives ((s ∷ []) ∷ [])

-- a function is called with these values; else the callee was NULL
abbrev pub call_of : Option ℕ → List Value → acts.Act
call_of None vs = acts.Faults cases.NullCall
call_of (Some f) vs = acts.Calls f vs

-- the act, with the lists in the room; none where nothing was decided
abbrev pub decided : AtOnce → Lists → Option acts.Act
decided (made.Gives s) ls = Some (acts.Gives ((s ∷ []) ∷ []))
decided (made.Goes block) ls = Some (acts.Goes (record { block = block; values = ls.values }))
decided (made.Calls f) ls = Some (acts.Calls f ls.values)
decided made.Returns ls = Some (acts.Returns (record { types = ls.types; values = ls.values }))
decided made.Other ls = None

-- a scalar that was computed is what is given
pub computed_gives : (o : Option acts.Act) (r : Option Scalar) → o ≡ Some (scalar_or_fault r) → IfSome r (λ s. o ≡ Some (acts.Gives ((s ∷ []) ∷ [])))
computed_gives o None h = tt
computed_gives o (Some s) h = h

pub ruleset computing = (computed_gives)
