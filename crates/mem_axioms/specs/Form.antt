-- The form of a log. For each cell:
--   its writes and updates have positions 1, 2, 3 and so on, in log order;
--   a read's position is at most the number of writes and updates before it;
--   a read's value is that of the write or update at its position, and at position 0 the cell's initial scalar.
-- Of a log whose initial scalars are not known the last line asks that each position of a cell has one value.
use Rattle.std.specs.Prelude.{ℕ, suc, Bool, true, ◌&&◌, ◌==◌, nat_le, if◌then◌else◌, List, [], ◌∷◌}
use Rattle.mu_values.specs.declared.scalars.Scalar.{Scalar}
use Rattle.mu_values.specs.SameScalar.{same_scalar}
use Rattle.mu_values.specs.declared.cells.CellId.{CellId}
use Rattle.mu_values.specs.SameCell.{same_cell}
use Rattle.mem_axioms.specs.Events.{stores, accesses, position_of, value_of}
use Rattle.mem_axioms.specs.Logs.{each_where, newest}
use Rattle.mem_axioms.specs.declared.types.Kind.TheVariants.{Access}
use Rattle.mem_axioms.specs.declared.types.Event.{Event}

-- the value at a position of a cell: that of the write or update that made it, else the initial scalar
abbrev pub value_at : (CellId → Scalar) → List Event → CellId → ℕ → Scalar
value_at initial [] cell position = initial cell
value_at initial (e ∷ past) cell position = elim e.kind [
  | Access mode of order made value ↦ if stores mode && same_cell of cell && (made == position) then value else value_at initial past cell position
  | _ ↦ value_at initial past cell position
]

-- An event fits the form of the log before it, where `right` judges the value that a read has of a position.
abbrev pub fits_form_by : (List Event → CellId → ℕ → Scalar → Bool) → List Event → Event → Bool
fits_form_by right past e = elim e.kind [
  | Access mode cell order position value ↦
      if stores mode then position == suc (newest past cell)
      else nat_le position (newest past cell) && right past cell position value
  | _ ↦ true
]

abbrev pub has_form_by : (List Event → CellId → ℕ → Scalar → Bool) → List Event → Bool
has_form_by right [] = true
has_form_by right (e ∷ past) = fits_form_by right past e && has_form_by right past

-- With initial scalars: the value is that at the position.
abbrev pub is_value_at : (CellId → Scalar) → List Event → CellId → ℕ → Scalar → Bool
is_value_at initial past cell position value = same_scalar value (value_at initial past cell position)

abbrev pub fits_form : (CellId → Scalar) → List Event → Event → Bool
fits_form initial past e = fits_form_by (is_value_at initial) past e

abbrev pub has_form : (CellId → Scalar) → List Event → Bool
has_form initial log = has_form_by (is_value_at initial) log

-- Without them: no earlier access stands at the position of the cell with another value.
abbrev pub is_only_value : List Event → CellId → ℕ → Scalar → Bool
is_only_value past cell position value = each_where (λ i ei. accesses cell ei && (position_of ei == position)) (λ i ei. same_scalar (value_of ei) value) past

abbrev pub fits_form_alone : List Event → Event → Bool
fits_form_alone past e = fits_form_by is_only_value past e

abbrev pub has_form_alone : List Event → Bool
has_form_alone log = has_form_by is_only_value log
