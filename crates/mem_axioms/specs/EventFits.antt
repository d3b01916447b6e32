-- When an event may come next in the log of a run.
use Rattle.std.specs.Prelude.{◌≡◌, ℕ, suc, ◌<◌, Bool, true, false, ◌||◌, ◌&&◌, ◌==◌, List, ⊤}
use Rattle.mu_values.specs.declared.scalars.Scalar.{Scalar}
use Rattle.mem_axioms.specs.Events.{is_wake}
use Rattle.mem_axioms.specs.Logs.{any_event, newest}
use Rattle.mem_axioms.specs.Synchronizes.{makes_thread}
use Rattle.mem_axioms.specs.Form.{value_at}
use Rattle.mem_axioms.specs.Choices.{is_option}
use Rattle.mem_axioms.specs.Objects.{initial_of, HasCell}
use Rattle.mem_axioms.specs.declared.types.Rule.{Rule}
use Rattle.mem_axioms.specs.declared.types.Mode.TheVariants.{Read, Write, Update}
use Rattle.mem_axioms.specs.declared.types.Kind.TheVariants.{Access, NewThread, Wake, Woken}
use Rattle.mem_axioms.specs.declared.types.Event.{Event}

-- thread 0, which is there from the start, or the child of a NewThread of the log
abbrev pub is_thread : List Event → ℕ → Bool
is_thread log thread = (thread == 0) || any_event (λ i ei. makes_thread thread ei) log

-- event i of the log is a wake
abbrev pub wakes_at : List Event → ℕ → Bool
wakes_at log wake = any_event (λ i ei. (i == wake) && is_wake ei) log

pub record EventFits (rule : Rule) (objects : List (List Scalar)) (log : List Event) (e : Event) : Type 0 where
  -- its thread is 0 or the child of an earlier NewThread
  pub thread : is_thread log e.thread ≡ true
  -- the child of a NewThread is new and below 64
  pub child : elim e.kind as (λ _. Type 0) [ NewThread child ↦ (is_thread log child ≡ false) × (child < 64) | _ ↦ ⊤ ]
  -- its cell is of an added object
  pub cell : elim e.kind as (λ _. Type 0) [
    | Access mode cell order position value ↦ HasCell objects cell
    | Wake cell count ↦ HasCell objects cell
    | _ ↦ ⊤
  ]
  -- a Woken names an earlier Wake
  pub wake : elim e.kind as (λ _. Type 0) [ Woken wake ↦ wakes_at log wake ≡ true | _ ↦ ⊤ ]
  -- a read has the position and the value of an option of a load; a write or update has the next position
  pub position : elim e.kind as (λ _. Type 0) [
    | Access mode cell order position value ↦ elim mode as (λ _. Type 0) [
      | Read ↦ (is_option rule (initial_of objects) log e.thread cell order position ≡ true) × (value ≡ value_at (initial_of objects) log cell position)
      | Write ↦ position ≡ suc (newest log cell)
      | Update ↦ position ≡ suc (newest log cell)
    ]
    | _ ↦ ⊤
  ]
