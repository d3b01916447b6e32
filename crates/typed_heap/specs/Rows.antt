-- The objects of a heap as they stand in rows of cells.
-- Contracts inside the crate cite this; no public one does, so no reader of those needs it.
use Rattle.std.specs.Prelude.{◌≡◌, ℕ, zero, suc, ◌-◌, ◌^◌, ◌<◌, ◌≤◌, List, [], ◌∷◌, map, length, Option, Some, None, slice_get, slice_index_or, slice_range}
use Rattle.std.specs.List.{All}
use Rattle.type_definitions.specs.declared.definition.TypeDef.{TypeDef}
use Rattle.mu_values.specs.Constants.{width_of}
use Rattle.mu_values.specs.declared.scalars.Scalar.{Scalar}
use Rattle.mu_values.specs.declared.scalars.Scalar.TheVariants.{Int, Null}
use Rattle.typed_heap.specs.Objects.{HeapObject}
use Rattle.typed_heap.specs.declared.objects.Initial.{Initial}
use Rattle.typed_heap.specs.declared.objects.Initial.TheVariants as initials
use Rattle.typed_heap.specs.declared.objects.Extent.{Extent}
use Rattle.typed_heap.specs.Repeating.{AllRepeat}

-- objects, and how many further initial scalars can be given
pub record RoomyObjects : Type 0 where
  pub objects : List HeapObject
  pub spare : ℕ

abbrev pub initial_of : List Scalar → Initial → Scalar
initial_of given initials.Null = Null
initial_of given (initials.Zero width) = Int width 0
initial_of given (initials.Given n) = slice_index_or given n Null

abbrev pub IsKnown : ℕ → Initial → Type 0
IsKnown many initials.Null = Unit {0}
IsKnown many (initials.Zero width) = Unit {0}
IsKnown many (initials.Given n) = n < many

-- no two cells have the same number, so a scalar that was given is overwritten for one cell alone
abbrev pub AreApart : List Initial → Type 0
AreApart first = (i j n : ℕ) → slice_get first i ≡ Some (initials.Given n) → slice_get first j ≡ Some (initials.Given n) → i ≡ j

-- each scalar that was given is there, for one cell alone
pub record AreOwn (first : List Initial) (many : ℕ) : Type 0 where
  pub known : All (IsKnown many) first
  pub apart : AreApart first

-- the objects in rows of leaves and of initial scalars, where the first begins at `from` and each other one where the one before it ends
abbrev pub objects_in : ℕ → List Extent → List ℕ → List Scalar → List HeapObject
objects_in from [] cs ss = []
objects_in from (e ∷ es) cs ss =
    record { leaves = slice_range cs from e.end; initial = slice_range ss from e.end; dead = e.dead } ∷ objects_in e.end es cs ss

abbrev pub shown : List Extent → List ℕ → List Initial → List Scalar → List HeapObject
shown es cs is given = objects_in 0 es cs (map (initial_of given) is)

-- what a new cell of a leaf begins with
abbrev pub first_by : Option ℕ → Initial
first_by None = initials.Null
first_by (Some width) = initials.Zero width

abbrev pub firsts : List TypeDef → List ℕ → List Initial
firsts graph cs = map (λ c. first_by (width_of (slice_get graph c))) cs

-- no object ends before it begins, each has fewer than 2^32 cells, and the last one ends where the rows do
abbrev pub IsCut : ℕ → List Extent → ℕ → Type 0
IsCut from [] many = from ≡ many
IsCut from (e ∷ es) many = (from ≤ e.end) × (e.end - from < 2 ^ 32) × IsCut e.end es many

abbrev pub end_of : Option Extent → ℕ
end_of None = 0
end_of (Some e) = e.end

-- where object n begins, where the first one begins at `from`
abbrev pub begin : ℕ → List Extent → ℕ → ℕ
begin from es zero = from
begin from es (suc n) = end_of (slice_get es n)

-- where it ends
abbrev pub end : List Extent → ℕ → ℕ
end es n = end_of (slice_get es n)

pub record IsRowed (leaves : List ℕ) (first : List Initial) (extents : List Extent) (many : ℕ) : Type 0 where
  pub even : length first ≡ length leaves
  pub cut : IsCut 0 extents (length leaves)
  pub few : length extents < 2 ^ 32
  pub known : All (IsKnown many) first
  pub apart : AreApart first
  pub repeats : AllRepeat 0 extents leaves
