-- What contracts see of a heap, and what its calls ask of types.
use Rattle.std.specs.Prelude.{◌≡◌, ℕ, ◌-◌, ◌^◌, ◌<◌, min, List, ◌++◌, length, Option, None, Some, slice_get}
use Rattle.type_definitions.specs.declared.definition.TypeDef.{TypeDef}
use Rattle.type_definitions.specs.Leaves.{times}
use Rattle.mu_values.specs.Constants.{width_of}
use Rattle.typed_heap.specs.Objects.{HeapObject, leaf_classes, run_classes}

-- the objects by number, how many cells are left, and how many further initial scalars can be given
pub record HeapContents : Type 0 where
  pub objects : List HeapObject
  pub left : ℕ
  pub spare : ℕ

-- the leaves of an object of a hybrid: the fixed ones, and then whole runs of its element's
abbrev pub hybrid_classes : List TypeDef → ℕ → ℕ → List ℕ
hybrid_classes graph t many = leaf_classes graph t ++ times many (run_classes graph t)

-- a number of cells as a fault tells it: 2^128 - 1 stands for every greater one
abbrev pub told_cells : ℕ → ℕ
told_cells asked = min asked (2 ^ 128 - 1)

-- the widths of ints are numbers of 32 bits
abbrev pub AreNarrow : List TypeDef → Type 0
AreNarrow graph = (t width : ℕ) → width_of (slice_get graph t) ≡ Some width → width < 2 ^ 32

-- how many cells an object has
abbrev pub cells_of : Option HeapObject → ℕ
cells_of None = 0
cells_of (Some o) = length o.leaves

-- how many the newest object has
abbrev pub newest_cells : List HeapObject → ℕ
newest_cells os = cells_of (slice_get os (length os - 1))
