-- Casts of references, places that are found from others, and cells that may be accessed.
use Rattle.std.specs.Prelude.{ℕ, Bool, true, false, ◌&&◌, not, nat_le, List, Option, Some, None, Result, Ok, Err, option_and_then, length, take, slice_get, sum_by, ℤ, pos, ◌+ℤ◌, ◌*ℤ◌, nat_abs, int_lt, if◌then◌else◌}
use Rattle.type_definitions.specs.declared.definition.TypeDef.{TypeDef}
use Rattle.type_definitions.specs.declared.definition.TypeDef.TheVariants.{Ref, Iref}
use Rattle.mu_values.specs.declared.scalars.Scalar.{Scalar}
use Rattle.mu_values.specs.declared.scalars.Scalar.TheVariants.{Null, Object, Place}
use Rattle.mu_values.specs.Constants.{member_count}
use Rattle.check_tables.specs.TypeTests.{element_of, repeated_of, fixed_fields_of}
use Rattle.typed_heap.specs.declared.faults.PlaceFault.{PlaceFault}
use Rattle.typed_heap.specs.declared.faults.PlaceFault.TheVariants as faults
use Rattle.mu_values.specs.declared.cells.CellId.{CellId}
use Rattle.typed_heap.specs.Objects.{HeapObject, leaf_classes}
use Rattle.typed_heap.specs.Fits.{fits, place_fits}

-- None stands where an object or a part of a type is not there, or the scalar is none of that kind.

-- `option_and_then` with the option first
abbrev pub with_some : {A B : Type 0} → Option A → (A → Option B) → Option B
with_some o f = option_and_then f o

-- ---- casts

abbrev pub cast_if : Scalar → Bool → Result Scalar PlaceFault
cast_if s true = Ok s
cast_if s false = Err faults.BadCast

-- NULL stays NULL; an object or a place has to fit the type
abbrev pub cast : List TypeDef → List HeapObject → Option TypeDef → Scalar → Option (Result Scalar PlaceFault)
cast graph os d Null = Some (Ok Null)
cast graph os (Some (Ref t)) (Object n) = with_some (slice_get os n) (λ o. Some (cast_if (Object n) (fits graph t o.leaves)))
cast graph os (Some (Iref t)) (Place n at) = with_some (slice_get os n) (λ o. Some (cast_if (Place n at) (place_fits graph t o at)))
cast graph os _ _ = None

-- ---- places

-- how a place is found from another: by class, and by the number of a field, a signed index or a signed offset
pub data Way : Type 0 where
  Field : ℕ → ℕ → Way
  Element : ℕ → ℤ → Way
  Shift : ℕ → ℤ → Way
  VarPart : ℕ → Way

-- how far a place moves, and the type that is wanted there; an index that is out of range leads nowhere
pub record Move : Type 0 where
  pub by : Option ℤ
  pub wanted : ℕ

-- how many leaves some types have together
abbrev pub leaves_together : List TypeDef → List ℕ → ℕ
leaves_together graph ts = sum_by (λ t. length (leaf_classes graph t)) ts

abbrev pub within : ℕ → ℤ → Bool
within size i = not (int_lt i (pos 0)) && int_lt i (pos size)

-- so many of a type's values
abbrev pub units : List TypeDef → ℕ → ℤ → ℤ
units graph t i = i *ℤ pos (length (leaf_classes graph t))

abbrev pub move : List TypeDef → Way → Option Move
move graph (Field c n) =
    with_some (fixed_fields_of (slice_get graph c)) (λ fields. with_some (slice_get fields n) (λ t.
    Some (record { by = Some (pos (leaves_together graph (take n fields))); wanted = t })))
move graph (Element c i) =
    with_some (element_of (slice_get graph c)) (λ t. with_some (member_count (slice_get graph c)) (λ size.
    Some (record { by = if within size i then Some (units graph t i) else None; wanted = t })))
move graph (Shift c i) = Some (record { by = Some (units graph c i); wanted = c })
move graph (VarPart c) = with_some (repeated_of (slice_get graph c)) (λ t. Some (record { by = Some (units graph c (pos 1)); wanted = t }))

-- a place of an object where the wanted leaves are found, or its end
abbrev pub landed : List TypeDef → ℕ → HeapObject → ℕ → ℤ → Result Scalar PlaceFault
landed graph n o wanted z =
    if not (int_lt z (pos 0)) && place_fits graph wanted o (nat_abs z) then Ok (Place n (nat_abs z)) else Err faults.OutOfRange

abbrev pub moved : List TypeDef → ℕ → HeapObject → ℕ → ℕ → Option ℤ → Result Scalar PlaceFault
moved graph n o at wanted None = Err faults.OutOfRange
moved graph n o at wanted (Some z) = landed graph n o wanted (pos at +ℤ z)

abbrev pub find_place : List TypeDef → List HeapObject → Option Move → Scalar → Option (Result Scalar PlaceFault)
find_place graph os m Null = Some (Err faults.Null)
find_place graph os m (Place n at) = with_some m (λ way. with_some (slice_get os n) (λ o. Some (moved graph n o at way.wanted way.by)))
find_place graph os m _ = None

-- ---- cells: a place may be the object's end, and its cells may be dead

abbrev pub alive : HeapObject → CellId → Result CellId PlaceFault
alive o cell = if nat_le (length o.leaves) cell.at then Err faults.OutOfRange else (if o.dead then Err faults.DeadCell else Ok cell)

abbrev pub cell_in : List HeapObject → CellId → Option (Result CellId PlaceFault)
cell_in os cell = with_some (slice_get os cell.object) (λ o. Some (alive o cell))

abbrev pub cell_of : List HeapObject → Scalar → Option (Result CellId PlaceFault)
cell_of os Null = Some (Err faults.Null)
cell_of os (Place object at) = cell_in os (record { object = object; at = at })
cell_of os _ = None
