-- Which events may come next in the log of a run, in the words of its threads, cells and wakes; and what races with nothing.
use Rattle.std.proofs.Common.{◌≡◌, ◌↔◌, ℕ, suc, Bool, true, false, ◌&&◌, ◌||◌, eqb, List, [], ◌∷◌, length, None, refl, inl, inr, ◌⊎◌}
use Rattle.std.proofs.lemmas.Bool.{eq-eqb, or_cases, or_left, or_right, and_from, false_from_ne_true, false≢true}
use Rattle.mu_values.specs.declared.scalars.Scalar.{Scalar}
use Rattle.mu_values.specs.declared.cells.CellId.{CellId}
use Rattle.mu_values.specs.CellLaws.{same_cell-true}
use Rattle.mem_axioms.specs.Events.{modifies, position_of, is_wake, on_one_cell}
use Rattle.mem_axioms.specs.Logs.{any_event, least_event, newest}
use Rattle.mem_axioms.specs.Synchronizes.{makes_thread}
use Rattle.mem_axioms.specs.Races.{race, races}
use Rattle.mem_axioms.specs.Objects.{HasCell}
use Rattle.mem_axioms.specs.EventFits.{is_thread, wakes_at, EventFits}
use Rattle.mem_axioms.specs.RunTheorems.{OthersFit}
use Rattle.mem_axioms.specs.declared.types.Rule.{Rule}
use Rattle.mem_axioms.specs.declared.types.Event.{Event}
use Rattle.mem_axioms.specs.declared.types.Kind.{Kind}
use Rattle.mem_axioms.specs.declared.types.Kind.TheVariants.{Access, Fence, NewStack, NewThread, Leave, Enter, Wake, Woken}
use Rattle.mem_axioms.specs.declared.types.Mode.TheVariants.{Read, Write, Update}
use Rattle.mem_axioms.specs.Lemmas.Kept.{is_any_access, one_cell, no_access-right}

module _ (rule : Rule) (objects : List (List Scalar)) (log : List Event) where
  modification-fits-kind : (t : ℕ) (k : Kind) (c : CellId) → is_thread log t ≡ true → HasCell objects c → modifies c (record { thread = t; kind = k }) ≡ true
      → position_of (record { thread = t; kind = k }) ≡ suc (newest log c) → EventFits rule objects log (record { thread = t; kind = k })
  modification-fits-kind t (Access Read cell order position value) c made there m p = absurd (false≢true m)
  modification-fits-kind t (Access Write cell order position value) c made there m p = let s = same_cell-true cell c m in record { thread = made; child = tt; cell = rw s there; wake = tt; position = rw s p }
  modification-fits-kind t (Access Update cell order position value) c made there m p = let s = same_cell-true cell c m in record { thread = made; child = tt; cell = rw s there; wake = tt; position = rw s p }
  modification-fits-kind t (Fence o) c made there m p = absurd (false≢true m)
  modification-fits-kind t (NewStack o) c made there m p = absurd (false≢true m)
  modification-fits-kind t (NewThread o) c made there m p = absurd (false≢true m)
  modification-fits-kind t (Leave o) c made there m p = absurd (false≢true m)
  modification-fits-kind t (Enter o) c made there m p = absurd (false≢true m)
  modification-fits-kind t (Wake o n) c made there m p = absurd (false≢true m)
  modification-fits-kind t (Woken o) c made there m p = absurd (false≢true m)

  -- a write or update at the next position
  pub modification-fits : (e : Event) (c : CellId) → is_thread log e.thread ≡ true → HasCell objects c → modifies c e ≡ true → position_of e ≡ suc (newest log c) → EventFits rule objects log e
  modification-fits e c = modification-fits-kind e.thread e.kind c

  -- what is no access
  pub others-fit : (thread : ℕ) → OthersFit rule objects log thread
  others-fit thread = record {
    fence = λ order. (λ f. f.thread, λ made. record { thread = made; child = tt; cell = tt; wake = tt; position = tt });
    new_stack = λ stack. (λ f. f.thread, λ made. record { thread = made; child = tt; cell = tt; wake = tt; position = tt });
    leave = λ stack. (λ f. f.thread, λ made. record { thread = made; child = tt; cell = tt; wake = tt; position = tt });
    enter = λ stack. (λ f. f.thread, λ made. record { thread = made; child = tt; cell = tt; wake = tt; position = tt });
    new_thread = λ child. (λ f. (f.thread, f.child.0, f.child.1), λ h. record { thread = h.0; child = (h.1, h.2); cell = tt; wake = tt; position = tt });
    wake = λ cell count. (λ f. (f.thread, f.cell), λ h. record { thread = h.0; child = tt; cell = h.1; wake = tt; position = tt });
    woken = λ by_wake. (λ f. (f.thread, f.wake), λ h. record { thread = h.0; child = tt; cell = tt; wake = h.1; position = tt });
  }

-- ---- threads and wakes with one more event

module _ (log : List Event) (e : Event) where
  pub thread-made : (thread : ℕ) → (is_thread (e ∷ log) thread ≡ true) ↔ ((makes_thread thread e ≡ true) ⊎ (is_thread log thread ≡ true))
  thread-made thread = (there, back)
    where
      rest : Bool
      rest = any_event (λ i ei. makes_thread thread ei) log

      there : is_thread (e ∷ log) thread ≡ true → (makes_thread thread e ≡ true) ⊎ (is_thread log thread ≡ true)
      there h = elim (or_cases (eqb thread 0) (makes_thread thread e || rest) h) [
        | inl z ↦ inr (or_left (eqb thread 0) rest z)
        | inr r ↦ elim (or_cases (makes_thread thread e) rest r) [ inl m ↦ inl m | inr s ↦ inr (or_right (eqb thread 0) rest s) ]
      ]

      back : (makes_thread thread e ≡ true) ⊎ (is_thread log thread ≡ true) → is_thread (e ∷ log) thread ≡ true
      back (inl m) = or_right (eqb thread 0) (makes_thread thread e || rest) (or_left (makes_thread thread e) rest m)
      back (inr h) = elim (or_cases (eqb thread 0) rest h) [
        | inl z ↦ or_left (eqb thread 0) (makes_thread thread e || rest) z
        | inr s ↦ or_right (eqb thread 0) (makes_thread thread e || rest) (or_right (makes_thread thread e) rest s)
      ]

  pub thread-stays : (thread : ℕ) → is_thread log thread ≡ true → is_thread (e ∷ log) thread ≡ true
  thread-stays thread h = (thread-made thread).1 (inr h)

  pub thread-same : (thread : ℕ) → makes_thread thread e ≡ false → is_thread (e ∷ log) thread ≡ is_thread log thread
  thread-same thread n = rw n

  pub wake-stays : (wake : ℕ) → wakes_at log wake ≡ true → wakes_at (e ∷ log) wake ≡ true
  wake-stays wake h = or_right (eqb (length log) wake && is_wake e) (wakes_at log wake) h

pub wake-numbered : (log : List Event) (thread : ℕ) (cell : CellId) (count : ℕ) → wakes_at (record { thread = thread; kind = Wake cell count } ∷ log) (length log) ≡ true
wake-numbered log thread cell count = or_left (eqb (length log) (length log) && true) (wakes_at log (length log)) (and_from (eqb (length log) (length log)) true (eq-eqb (length log) (length log) refl) refl)

-- ---- what is no access races with nothing

least-none : (test : ℕ → Event → Bool) (log : List Event) → ((i : ℕ) (ei : Event) → test i ei ≡ false) → least_event test log ≡ None
least-none test [] h = refl
least-none test (e ∷ past) h = rw (least-none test past h, h (length past) e)

pub others-race : (rule : Rule) (log : List Event) (e : Event) → is_any_access e ≡ false → race rule log e ≡ None
unfolding race
others-race rule log e n = least-none (races rule log e) log (λ i ei. rw (apart ei))
  where
    apart : (ei : Event) → on_one_cell ei e ≡ false
    apart ei = false_from_ne_true (on_one_cell ei e) (λ h. let o = one_cell ei e h in no_access-right e.thread e.kind o.cell n o.of_y)
