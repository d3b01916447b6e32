-- The laws of verdicts.
use Rattle.std.specs.Prelude.{◌≡◌, ◌↔◌, ℕ, ◌≤◌, Bool, true, false, ◌&&◌, List, ◌∷◌, length, Option, Some, nat_le, option_map, option_and_then}
use Rattle.mu_base.specs.declared.order.Order.{Order}
use Rattle.mu_values.specs.declared.scalars.Scalar.{Scalar}
use Rattle.mu_values.specs.declared.scalars.Scalar.TheVariants.{Null}
use Rattle.mu_values.specs.declared.cells.CellId.{CellId}
use Rattle.mem_axioms.specs.Events.{is_read, value_of, on_one_cell}
use Rattle.mem_axioms.specs.Logs.{event_at, any_event, least_event}
use Rattle.mem_axioms.specs.Form.{has_form_alone, fits_form_alone}
use Rattle.mem_axioms.specs.Axioms.{is_coherent, is_seq_cst_ordered, has_seq_cst, reads_older, is_or_fences, is_or_is_fenced}
use Rattle.mem_axioms.specs.PassedOver.{has_seq_cst_from}
use Rattle.mem_axioms.specs.Races.{is_race_free}
use Rattle.mem_axioms.specs.Floor.{floor}
use Rattle.mem_axioms.specs.declared.types.Rule.{Rule}
use Rattle.mem_axioms.specs.declared.types.Mode.TheVariants.{Read}
use Rattle.mem_axioms.specs.declared.types.Kind.{Kind}
use Rattle.mem_axioms.specs.declared.types.Kind.TheVariants as kinds
use Rattle.mem_axioms.specs.declared.types.Event.{Event}
use Rattle.verdicts.specs.Verdicts.{verdict, least_pair}
use Rattle.verdicts.specs.declared.types.Verdict.TheVariants.{Yes}

-- a log whose initial scalars are not known meets the axioms, and no two of its events race
pub record IsFaultless (rule : Rule) (log : List Event) : Type 0 where
  pub form : has_form_alone log ≡ true
  pub coherent : is_coherent rule log ≡ true
  pub ordered : is_seq_cst_ordered rule log ≡ true
  pub race_free : is_race_free rule log ≡ true

-- The verdict is Yes of exactly such logs.
abbrev pub YesIsExact : Type 0
YesIsExact = (rule : Rule) (log : List Event) → (verdict rule log ≡ Yes (length log)) ↔ IsFaultless rule log

-- ---- values

-- the event without its value
abbrev pub kind_bare : Kind → Kind
kind_bare (kinds.Access mode cell order position value) = kinds.Access mode cell order position Null
kind_bare k = k

abbrev pub bare : Event → Event
bare e = record { thread = e.thread; kind = kind_bare e.kind }

-- The two logs differ only in values, and equal values of one cell stay equal.
pub record Revalued (log new : List Event) : Type 0 where
  pub long : length new ≡ length log
  pub same : (i : ℕ) (e f : Event) → event_at log i ≡ Some e → event_at new i ≡ Some f → bare e ≡ bare f
  pub equal : (i j : ℕ) (ei ej fi fj : Event) → event_at log i ≡ Some ei → event_at log j ≡ Some ej → event_at new i ≡ Some fi → event_at new j ≡ Some fj →
      on_one_cell ei ej ≡ true → value_of ei ≡ value_of ej → value_of fi ≡ value_of fj

-- A log with replaced values keeps its Yes.
abbrev pub RevaluedIsYes : Type 0
RevaluedIsYes = (rule : Rule) (log new : List Event) → Revalued log new → verdict rule log ≡ Yes (length log) → verdict rule new ≡ Yes (length new)

-- ---- what the judge has to test

-- After a log without faults, an event that fits the form keeps axioms 1 and 3 if it is no read; a read keeps them exactly where it reads
-- no position below its floor.
abbrev pub NewestBreaksBelowFloor : Type 0
NewestBreaksBelowFloor = (rule : Rule) (past : List Event) (e : Event) → IsFaultless rule past → fits_form_alone past e ≡ true →
    ((is_read e ≡ false) → (is_coherent rule (e ∷ past) ≡ true) × (is_seq_cst_ordered rule (e ∷ past) ≡ true))
    × ((thread position : ℕ) (cell : CellId) (order : Order) (value : Scalar) → e ≡ record { thread = thread; kind = kinds.Access Read cell order position value } →
    ((is_coherent rule (e ∷ past) && is_seq_cst_ordered rule (e ∷ past)) ≡ true) ↔ (floor rule past thread cell order ≤ position))

-- ---- which pair it names

-- Event b of the past can stand in a pair that breaks axiom 3 with the read e: it is SEQ_CST; it is an access of a position above the one
-- that is read, or a fence that such an access happens before; and some SEQ_CST event from b on must come before it.
abbrev pub is_b : Rule → List Event → Event → ℕ → Event → Bool
is_b rule past e b eb = has_seq_cst b eb && any_event (λ y ey. reads_older e ey && is_or_is_fenced rule past y b eb) past && has_seq_cst_from rule past e b

-- Event a is the read itself, where that is SEQ_CST, or a SEQ_CST fence that happens before it.
abbrev pub is_a : Rule → List Event → Event → ℕ → Event → Bool
is_a rule past e a ea = has_seq_cst a ea && is_or_fences rule (e ∷ past) a ea (length past)

-- the least such b, and then the least such a from b on
abbrev pub pair_of_read : Rule → List Event → Event → Option (ℕ × ℕ)
pair_of_read rule past e =
    option_and_then (λ b. option_map (λ a. (b, a)) (least_event (λ a ea. nat_le b a && is_a rule past e a ea) (e ∷ past))) (least_event (is_b rule past e) past)

abbrev pub PairIsOfRead : Type 0
PairIsOfRead = (rule : Rule) (past : List Event) (e : Event) → IsFaultless rule past → is_read e ≡ true → least_pair rule (e ∷ past) ≡ pair_of_read rule past e
