-- The axioms of memory. A log meets them where it has the form of a log and:
--   1. coherence: where an access happens before a read of the same cell, the read's position is not below the access's;
--   2. atomicity: an update takes the position just under its own, which `position_taken` says of every update;
--   3. the order of SEQ_CST: let x and y access one cell, and let x's position be below y's, or let x be the write or
--      update that the read y reads. Let a be x, or a fence that happens before x; let b be y, or a fence that y happens
--      before. Where a and b are SEQ_CST, a comes before b in the log.
-- Axiom 3 has the shape of ISO/IEC 14882:2020, 31.4, with the order of the log for the single total order S.
use Rattle.std.specs.Prelude.{◌≡◌, ◌⊎◌, ℕ, ◌<◌, ◌≤◌, Bool, true, not, ◌&&◌, ◌||◌, ◌==◌, nat_lt, List, Some}
use Rattle.mu_values.specs.declared.scalars.Scalar.{Scalar}
use Rattle.mu_values.specs.declared.cells.CellId.{CellId}
use Rattle.mem_axioms.specs.Events.{is_seq_cst, order_of, position_of, is_fence, is_read, is_modification, on_one_cell}
use Rattle.mem_axioms.specs.Logs.{event_at, each_event, each_where}
use Rattle.mem_axioms.specs.HappensBefore.{happens_before, Before}
use Rattle.mem_axioms.specs.Form.{has_form}
use Rattle.mem_axioms.specs.declared.types.Rule.{Rule}
use Rattle.mem_axioms.specs.declared.types.Event.{Event}

-- ej reads a position of a cell that is below the one where ei accesses it
abbrev pub reads_older : Event → Event → Bool
reads_older ej ei = on_one_cell ei ej && is_read ej && nat_lt (position_of ej) (position_of ei)

-- Axiom 1: no access happens before a read of an older position.
unfoldable pub is_coherent : Rule → List Event → Bool
is_coherent rule log = each_event (λ j ej. each_where (λ i ei. reads_older ej ei) (λ i ei. not (happens_before rule log i j)) log) log

-- x stands at a smaller position of the cell than y, or y reads x
abbrev pub comes_first : Event → Event → Bool
comes_first ex ey = on_one_cell ex ey && (nat_lt (position_of ex) (position_of ey) || (is_modification ex && is_read ey && (position_of ex == position_of ey)))

-- event a is event x, or a fence that happens before it
abbrev pub is_or_fences : Rule → List Event → ℕ → Event → ℕ → Bool
is_or_fences rule log a ea x = (a == x) || (is_fence ea && happens_before rule log a x)

-- event b is event y, or a fence that y happens before
abbrev pub is_or_is_fenced : Rule → List Event → ℕ → ℕ → Event → Bool
is_or_is_fenced rule log y b eb = (b == y) || (is_fence eb && happens_before rule log y b)

-- the event is SEQ_CST, whatever its number
abbrev pub has_seq_cst : ℕ → Event → Bool
has_seq_cst i ei = is_seq_cst (order_of ei)

-- Axiom 3, turned round: where a and b are SEQ_CST and a is not before b, no x and y stand between them as told above.
unfoldable pub is_seq_cst_ordered : Rule → List Event → Bool
is_seq_cst_ordered rule log =
    each_where has_seq_cst (λ a ea.
    each_where (λ b eb. has_seq_cst b eb && not (nat_lt a b)) (λ b eb.
    each_where (λ x ex. is_or_fences rule log a ea x) (λ x ex.
    each_where (λ y ey. comes_first ex ey) (λ y ey. not (is_or_is_fenced rule log y b eb)) log) log) log) log

unfoldable pub meets_axioms : Rule → (CellId → Scalar) → List Event → Bool
meets_axioms rule initial log = has_form initial log && is_coherent rule log && is_seq_cst_ordered rule log

-- The same as relations: two events of which axiom 1 speaks, and four of which axiom 3 does.
pub record ReadAfter (rule : Rule) (log : List Event) (i j : ℕ) (ei ej : Event) : Type 0 where
  pub there_i : event_at log i ≡ Some ei
  pub there_j : event_at log j ≡ Some ej
  pub cell : on_one_cell ei ej ≡ true
  pub read : is_read ej ≡ true
  pub before : Before rule log i j

abbrev pub Coherent : Rule → List Event → Type 0
Coherent rule log = (i j : ℕ) (ei ej : Event) → ReadAfter rule log i j ei ej → position_of ei ≤ position_of ej

pub record SeqCstLinked (rule : Rule) (log : List Event) (a b x y : ℕ) (ea eb ex ey : Event) : Type 0 where
  pub there_a : event_at log a ≡ Some ea
  pub there_b : event_at log b ≡ Some eb
  pub there_x : event_at log x ≡ Some ex
  pub there_y : event_at log y ≡ Some ey
  pub seq_cst_a : is_seq_cst (order_of ea) ≡ true
  pub seq_cst_b : is_seq_cst (order_of eb) ≡ true
  pub first : comes_first ex ey ≡ true
  pub from : (a ≡ x) ⊎ ((is_fence ea ≡ true) × Before rule log a x)
  pub to : (b ≡ y) ⊎ ((is_fence eb ≡ true) × Before rule log y b)

abbrev pub SeqCstOrdered : Rule → List Event → Type 0
SeqCstOrdered rule log = (a b x y : ℕ) (ea eb ex ey : Event) → SeqCstLinked rule log a b x y ea eb ex ey → a < b

pub record MeetsAxioms (rule : Rule) (initial : CellId → Scalar) (log : List Event) : Type 0 where
  pub form : has_form initial log ≡ true
  pub coherent : Coherent rule log
  pub seq_cst_ordered : SeqCstOrdered rule log
