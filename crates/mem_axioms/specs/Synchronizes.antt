-- Acquire, release, release sequences, synchronizes-with (ISO/IEC 9899:2011, 5.1.2.4 and 7.17; ISO/IEC 14882:2020, 6.9.2 and 31.11).
use Rattle.std.specs.Prelude.{ℕ, ◌-◌, Bool, true, false, ◌&&◌, ◌||◌, ◌==◌, nat_lt, List, [], ◌∷◌, length}
use Rattle.mu_base.specs.declared.order.Order.{Order}
use Rattle.mu_base.specs.declared.order.Order.TheVariants.{Consume, Acquire, Release, AcqRel, SeqCst}
use Rattle.mu_values.specs.declared.cells.CellId.{CellId}
use Rattle.mem_axioms.specs.Events.{is_atomic, loads, modifies, is_update, order_of, position_of, position_taken, is_fence, is_wake}
use Rattle.mem_axioms.specs.Logs.{any_event}
use Rattle.mem_axioms.specs.declared.types.Rule.{Rule}
use Rattle.mem_axioms.specs.declared.types.Rule.TheVariants.{C11, Rmw}
use Rattle.mem_axioms.specs.declared.types.Kind.TheVariants.{Access, NewStack, NewThread, Leave, Enter, Woken}
use Rattle.mem_axioms.specs.declared.types.Event.{Event}

-- The orders with which a read, update or fence is an acquire. CONSUME means ACQUIRE.
abbrev pub acquires : Order → Bool
acquires Consume = true
acquires Acquire = true
acquires AcqRel = true
acquires SeqCst = true
acquires _ = false

-- The orders with which a write, update or fence is a release.
abbrev pub releases : Order → Bool
releases Release = true
releases AcqRel = true
releases SeqCst = true
releases _ = false

-- Whether a write or update at the next position goes on a release sequence whose head is by that thread:
-- an update does; under C11 an atomic write by the head's own thread does too.
abbrev pub continues : Rule → Event → ℕ → Bool
continues rule e thread = is_update e || elim rule [ C11 ↦ is_atomic (order_of e) && (e.thread == thread) | Rmw ↦ false ]

-- Event h, which is `head`, heads a release sequence that has that position of the cell. The head is an atomic write or
-- update; its sequence is it and the longest run of next positions of its cell that go on.
abbrev pub heads : Rule → List Event → CellId → ℕ → ℕ → Event → Bool
heads rule [] cell position h head = false
heads rule (e ∷ past) cell position h head = elim (modifies cell e && (position_of e == position)) [
  | true ↦ (is_atomic (order_of e) && (h == length past)) || (continues rule e head.thread && heads rule past cell (position - 1) h head)
  | false ↦ heads rule past cell position h head
]

-- Event i, which is ei, is a release fence that is sequenced before event h, which is `head`.
abbrev pub fences : ℕ → Event → ℕ → Event → Bool
fences i ei h head = nat_lt i h && (ei.thread == head.thread) && is_fence ei && releases (order_of ei)

-- Event i, which is ei, released that position of the cell: it heads a release sequence that has the position and is a
-- release, or it is a release fence that is sequenced before such a head.
abbrev pub released : Rule → List Event → CellId → ℕ → ℕ → Event → Bool
released rule past cell position i ei = any_event (λ h head. heads rule past cell position h head
    && (((i == h) && releases (order_of head)) || fences i ei h head)) past

-- the same for the position that an atomic read or update takes
abbrev pub released_to : Rule → List Event → Event → ℕ → Event → Bool
released_to rule past e i ei = elim e.kind [
  | Access mode cell order position value ↦ loads mode && is_atomic order && released rule past cell (position_taken e) i ei
  | _ ↦ false
]

-- Case 1: what was released reaches an acquire, either the read or update itself, or a fence that it is sequenced before.
abbrev pub synchronizes_by_release : Rule → List Event → ℕ → Event → Event → Bool
synchronizes_by_release rule past i ei e = acquires (order_of e) && (released_to rule past e i ei
    || (is_fence e && any_event (λ r er. nat_lt i r && (er.thread == e.thread) && released_to rule past er i ei) past))

-- the event leaves or makes that stack
abbrev pub gives_up : ℕ → Event → Bool
gives_up stack e = elim e.kind [ NewStack of ↦ of == stack | Leave of ↦ of == stack | _ ↦ false ]

-- event i is the last that left or made the stack
abbrev pub last_to_give_up : List Event → ℕ → ℕ → Bool
last_to_give_up [] stack i = false
last_to_give_up (e ∷ past) stack i = elim (gives_up stack e) [ true ↦ i == length past | false ↦ last_to_give_up past stack i ]

-- Case 2: a stack is entered as it was last left or made.
abbrev pub synchronizes_by_stack : List Event → ℕ → Event → Bool
synchronizes_by_stack past i e = elim e.kind [ Enter stack ↦ last_to_give_up past stack i | _ ↦ false ]

-- Case 3: the event that makes a thread comes before all of that thread.
abbrev pub makes_thread : ℕ → Event → Bool
makes_thread thread e = elim e.kind [ NewThread child ↦ child == thread | _ ↦ false ]

-- Case 4: a wake comes before the woken event that names it.
abbrev pub synchronizes_by_wake : ℕ → Event → Event → Bool
synchronizes_by_wake i ei e = elim e.kind [ Woken wake ↦ (i == wake) && is_wake ei | _ ↦ false ]

-- Event i of the past, which is ei, synchronizes with the event e that comes next.
abbrev pub synchronizes : Rule → List Event → ℕ → Event → Event → Bool
synchronizes rule past i ei e = synchronizes_by_release rule past i ei e
    || (synchronizes_by_stack past i e || (makes_thread e.thread ei || synchronizes_by_wake i ei e))
