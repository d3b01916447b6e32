-- What the judge's tests answer.
use Rattle.std.specs.Prelude.{◌&&◌, nat_le, ℕ, Bool, true, false, nat_lt, if◌then◌else◌, List, ◌++◌, ◌≡◌}
use Rattle.mem_axioms.specs.Floor.{floor}
use Rattle.mem_axioms.specs.Logs.{any_event}
use Rattle.mem_axioms.specs.Axioms.{reads_older, is_or_is_fenced}
use Rattle.mem_axioms.specs.declared.types.Rule.{Rule}
use Rattle.mem_axioms.specs.declared.types.Mode.{Mode}
use Rattle.mem_axioms.specs.declared.types.Mode.TheVariants.{Read, Write, Update}
use Rattle.mem_axioms.specs.declared.types.Kind.TheVariants.{Access}
use Rattle.mem_axioms.specs.declared.types.Event.{Event}
use Rattle.verdicts.specs.Laws.{is_a}
use Rattle.verdicts.specs.declared.types.Verdict.{Verdict}
use Rattle.verdicts.specs.declared.types.Verdict.TheVariants.{Yes}

abbrev pub is_reading : Mode → Bool
is_reading Read = true
is_reading Write = false
is_reading Update = false

-- the event reads a position below its floor, and so breaks axiom 1 or 3
abbrev pub reads_below : Rule → List Event → Event → Bool
reads_below rule past e = elim e.kind [
  | Access mode cell order position value ↦ if is_reading mode then nat_lt position (floor rule past e.thread cell order) else false
  | _ ↦ false
]

-- a verdict that is not Yes
abbrev pub IsNo : Verdict → Type 0
IsNo (Yes n) = ⊥
IsNo v = Unit {0}

-- the log is that past with newer events after it
pub record Extends (log past : List Event) : Type 0 where
  pub newer : List Event
  pub parts : newer ++ past ≡ log

-- b is an access of a position above the one that e reads, or a fence that such an access happens before
abbrev pub passed_by : Rule → List Event → Event → ℕ → Event → Bool
passed_by rule past e b eb = any_event (λ y ey. reads_older e ey && is_or_is_fenced rule past y b eb) past

-- an event from number b on that must come before b
abbrev pub comes_from : Rule → List Event → Event → ℕ → ℕ → Event → Bool
comes_from rule past e b a ea = nat_le b a && is_a rule past e a ea
