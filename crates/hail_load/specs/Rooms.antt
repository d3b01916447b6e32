-- How many cells parts take, and that objects have them.
-- Contracts inside the crate cite this; no public one does, so no reader of those needs it.
use Rattle.std.specs.Prelude.{◌≡◌, ℕ, ◌+◌, ◌*◌, ◌^◌, ◌<◌, ◌≤◌, true, List, Some, length, map, sum_by, slice_get}
use Rattle.std.specs.List.{All}
use Rattle.name_scopes.specs.Names.{Names}
use Rattle.type_definitions.specs.declared.definition.TypeDef.{TypeDef}
use Rattle.type_definitions.specs.declared.definition.TypeDef.TheVariants as types
use Rattle.type_definitions.specs.Scalars.{is_scalar}
use Rattle.typed_heap.specs.Objects.{HeapObject, leaf_classes}
use Rattle.typed_heap.specs.Heap.{cells_of}
use Rattle.hail_load.specs.declared.parts.Part.TheVariants.{Value}
use Rattle.hail_load.specs.declared.parts.Made.{Made}
use Rattle.hail_load.specs.declared.parts.Spot.{Spot}
use Rattle.hail_load.specs.Code.{Code}
use Rattle.hail_load.specs.Parts.{size_of}

-- a scalar type has one leaf, and another as many as its parts have together
pub record AreSized (graph : List TypeDef) : Type 0 where
  pub scalar : (t : ℕ) → is_scalar (slice_get graph t) ≡ true → length (leaf_classes graph t) ≡ 1
  pub struct : (t : ℕ) (fields : List ℕ) → slice_get graph t ≡ Some (types.Struct fields) → length (leaf_classes graph t) ≡ sum_by (size_of graph) (map Value fields)
  pub array : (t element n : ℕ) → slice_get graph t ≡ Some (types.Array element n) → length (leaf_classes graph t) ≡ n * length (leaf_classes graph element)
  pub hybrid : (t element : ℕ) (fixed : List ℕ) → slice_get graph t ≡ Some (types.Hybrid fixed element) → length (leaf_classes graph t) ≡ sum_by (size_of graph) (map Value fixed)

-- the parts of a type end before the offset 2^32, where they begin at this one
abbrev pub FitsANumber : List TypeDef → ℕ → TypeDef → Type 0
FitsANumber graph at (types.Struct fields) = at + sum_by (size_of graph) (map Value fields) < 2 ^ 32
FitsANumber graph at (types.Array element n) = at + n * length (leaf_classes graph element) < 2 ^ 32
FitsANumber graph at (types.Hybrid fixed element) = at + sum_by (size_of graph) (map Value fixed) < 2 ^ 32
FitsANumber graph at _ = Unit {0}

-- the cells of a part stand in its object
abbrev pub HasRoom : List TypeDef → List HeapObject → Spot → Type 0
HasRoom graph os s = s.at + size_of graph s.part ≤ cells_of (slice_get os s.object)

-- each global has its cells, and so has each object with a name
pub record AreRoomy (c : Code) (os : List HeapObject) (es : Names Made) : Type 0 where
  pub globals : (n t : ℕ) → slice_get c.globals n ≡ Some t → length (leaf_classes c.graph t) ≤ cells_of (slice_get os n)
  pub made : All (λ (e : List ℕ × Made). size_of c.graph e.1.part ≤ cells_of (slice_get os e.1.object)) es

-- objects that have cells keep as many
abbrev pub KeepsCells : List HeapObject → List HeapObject → Type 0
KeepsCells os ps = (n : ℕ) → 0 < cells_of (slice_get os n) → cells_of (slice_get ps n) ≡ cells_of (slice_get os n)
