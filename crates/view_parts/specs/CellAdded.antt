-- What one more access of a cell does to what is kept of the cell, in the words of the clocks along a log.
use Rattle.std.specs.Prelude.{◌≡◌, ℕ, suc, ◌+◌, ◌-◌, ◌<◌, ◌≤◌, max, ◌==◌, ◌&&◌, if◌then◌else◌, All, List, [], ◌∷◌, ◌++◌, length, slice_index, vec_len, vec_capacity, Option}
use Rattle.mu_values.specs.declared.scalars.Scalar.TheVariants.{Null}
use Rattle.mem_axioms.specs.Events.{is_modification, is_update, position_of, value_of}
use Rattle.mem_axioms.specs.Synchronizes.{continues}
use Rattle.mem_axioms.specs.declared.types.Rule.{Rule}
use Rattle.mem_axioms.specs.declared.types.Event.{Event}
use Rattle.clocks.specs.Knowing.{known_by}
use Rattle.clocks.specs.Spans.{Spans}
use Rattle.clocks.specs.KeptClocks.{Grown}
use Rattle.view_parts.specs.CellClocks.{released_at, sequence_at, Named}
use Rattle.view_parts.specs.declared.families.Family.{Family}
use Rattle.view_parts.specs.Families.{belongs}
use Rattle.view_parts.specs.Touched.{index_of, entries_at}
use Rattle.view_parts.specs.declared.cell.CellViews.{CellViews}

-- event n, which is e, accesses the cell and may give a clock to the sequences that it heads
pub record CellAdded (rule : Rule) (before after : Spans) (old new : CellViews) (n : ℕ) (e : Event) (given : Option (List ℕ)) : Type 0 where
  pub values : new.history.values ≡ (if is_modification e then old.history.values ++ value_of e ∷ [] else old.history.values)
  pub released : (p u : ℕ) → released_at after new p u ≡ (if is_modification e && (position_of e == p)
      then max (known_by given u) (if is_update e then released_at before old (p - 1) u else if continues rule e e.thread then sequence_at before old e.thread u else 0)
      else released_at before old p u)
  pub positions : length new.released.items ≡ (if is_modification e then length old.released.items + 1 else length old.released.items)
  pub sequence : (t u : ℕ) → sequence_at after new t u ≡ (if is_modification e
      then max (if t == e.thread then known_by given u else 0) (if continues rule e t then sequence_at before old t u else 0)
      else sequence_at before old t u)
  pub named : Named after new
  pub grown : Grown before after
  pub accesses : (family : Family) (u : ℕ) → entries_at new.accesses family u ≡ (if belongs family e && (u == e.thread) then record { event = suc n; position = position_of e } ∷ entries_at old.accesses family u else entries_at old.accesses family u)

-- room for that many more accesses by the thread
pub record CellRoom (count t : ℕ) (cell : CellViews) : Type 0 where
  pub history : count ≤ cell.history.spare
  pub released : vec_len cell.released + count ≤ vec_capacity cell.released
  pub sequence : t < length cell.sequence.items
  pub there : 0 < slice_index cell.accesses.slots.items t
  pub room : (family : Family) → count ≤ (index_of cell.accesses family t).spare

-- all entries of the thread have numbers below that
abbrev pub CellBelow : ℕ → ℕ → CellViews → Type 0
CellBelow number t cell = (family : Family) → All (λ entry. entry.event < number) (entries_at cell.accesses family t)

-- nothing of what is kept is another, but for room, which is not less
pub record SameCell (old new : CellViews) : Type 0 where
  pub values : new.history.values ≡ old.history.values
  pub released : new.released.items ≡ old.released.items
  pub sequence : (t : ℕ) → slice_index new.sequence.items t ≡ slice_index old.sequence.items t
  pub accesses : (family : Family) (u : ℕ) → entries_at new.accesses family u ≡ entries_at old.accesses family u
  pub room : (count t : ℕ) → CellRoom count t old → CellRoom count t new

-- nothing accessed the cell yet
pub record IsFresh (cell : CellViews) : Type 0 where
  pub values : cell.history.values ≡ Null ∷ []
  pub released : cell.released.items ≡ 0 ∷ []
  pub sequence : cell.sequence.items ≡ []
  pub accesses : (family : Family) (u : ℕ) → entries_at cell.accesses family u ≡ []
