-- What is looked up in entries by thread, at a clock.
use Rattle.std.specs.Prelude.{◌≡◌, ◌≢◌, ◌≤◌, ℕ, min, unwrap_or, slice_index, List, Option, Some, None}
use Rattle.write_history.specs.declared.access_index.Entry.{Entry}
use Rattle.write_history.specs.Indexes.{last_position, first_after}

-- the position of the last entry of thread u that the clock knows, or 0
abbrev pub position_known : (ℕ → List Entry) → List ℕ → ℕ → ℕ
position_known entries clock u = unwrap_or (last_position (slice_index clock u) (entries u)) 0

-- the number of the first entry of thread u, another than the given one, that the clock does not know
abbrev pub FirstAfter : (ℕ → List Entry) → List ℕ → ℕ → ℕ → ℕ → Type 0
FirstAfter entries clock thread u i = (u ≢ thread) × (first_after (slice_index clock u) (entries u) ≡ Some i)

abbrev pub earlier : Option ℕ → Option ℕ → Option ℕ
earlier None b = b
earlier (Some a) None = Some a
earlier (Some a) (Some b) = Some (min a b)

-- the least number of a set, or none where it is empty
abbrev pub LeastOf : (ℕ → Type 0) → Option ℕ → Type 0
LeastOf S None = (i : ℕ) → S i → ⊥
LeastOf S (Some i) = S i × ((j : ℕ) → S j → i ≤ j)
