-- Where the values of an answer come from.
use Rattle.std.specs.Prelude.{◌≡◌, ℕ, List, [], ◌∷◌, Option, Some, None, ⊤}
use Rattle.mu_values.specs.declared.scalars.Scalar.TheVariants.{Func}
use Rattle.std.specs.List.{Contains}
use Rattle.mu_values.specs.Slots.{TypedValues}
use Rattle.check_tables.specs.declared.tables.Tables.{Tables}
use Rattle.check_tables.specs.Types.{stackref}
use Rattle.mu_model.specs.Clients.{Classed, With, Pass, Throw, Reply, Resume, Rebind, Exit, Stop, KeptValue, Answer}
use Rattle.mu_model.specs.Outcomes.{View}
use Rattle.mu_model.specs.Answers.{typed_value_at, argument_value, blank}

-- a value with its class is one of those that stand for zero and NULL of what is asked, or a frame of the view keeps it, or the client
-- holds it
pub data IsTold (p : Tables) (view : View) (held : List Classed) : Classed → Type 0 where
  is_blank : (k : ℕ) (v : Classed) → typed_value_at (blank p view.asked) k ≡ Some v → IsTold p view held v
  is_kept : (frame k : ℕ) (v : Classed) → argument_value view.frames (KeptValue frame k) ≡ Some v → IsTold p view held v
  is_held : (v : Classed) → Contains held v → IsTold p view held v

abbrev pub AreTold : Tables → View → List Classed → TypedValues → Type 0
AreTold p view held vs = (k : ℕ) (v : Classed) → typed_value_at vs k ≡ Some v → IsTold p view held v

abbrev pub EntersWithTold : Tables → View → List Classed → With TypedValues Classed → Type 0
EntersWithTold p view held (Pass vs) = AreTold p view held vs
EntersWithTold p view held (Throw v) = IsTold p view held v

-- each value of a reply is told, its target among them, which is of the type stackref
abbrev pub RepliesTold : Tables → View → List Classed → Reply TypedValues Classed → Type 0
RepliesTold p view held (Resume w) = EntersWithTold p view held w
RepliesTold p view held (Rebind t w) = (t.0 ≡ stackref p.types) × IsTold p view held t × EntersWithTold p view held w
RepliesTold p view held Exit = ⊤
RepliesTold p view held Stop = ⊤

-- a function that is pushed is one that the client holds, with its class
abbrev pub PushIsHeld : List Classed → Option ℕ → Type 0
PushIsHeld held None = ⊤
PushIsHeld held (Some f) = (c : ℕ) × Contains held (c, Func f ∷ [])

abbrev pub AnswerIsTold : Tables → View → List Classed → Answer → Type 0
AnswerIsTold p view held a = PushIsHeld held a.edit.push × RepliesTold p view held a.reply
