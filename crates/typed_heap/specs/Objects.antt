-- The objects of a heap, and what their cells begin with.
use Rattle.std.specs.Prelude.{ℕ, ◌+◌, Bool, true, false, List, [], ◌++◌, length, take, drop, Option, Some, None, map, slice_get, slice_set}
use Rattle.type_definitions.specs.declared.definition.TypeDef.{TypeDef}
use Rattle.type_definitions.specs.Leaves.{leaves}
use Rattle.type_definitions.specs.Class.{class_of}
use Rattle.mu_values.specs.declared.scalars.Scalar.{Scalar}
use Rattle.mu_values.specs.declared.scalars.Scalar.TheVariants.{Int, Null}
use Rattle.mu_values.specs.Constants.{width_of}
use Rattle.check_tables.specs.TypeTests.{repeated_of}

-- an object: the classes of its leaves, the scalars that its cells begin with, and whether its cells are dead
pub record HeapObject : Type 0 where
  pub leaves : List ℕ
  pub initial : List Scalar
  pub dead : Bool

-- ---- leaves, by the graph of all types

-- the classes of a type's leaves; of a hybrid those of its fixed fields
abbrev pub leaf_classes : List TypeDef → ℕ → List ℕ
leaf_classes graph t = map (class_of graph) (leaves graph t)

-- those of a hybrid's element; none of another type
abbrev pub run_of : List TypeDef → Option ℕ → List ℕ
run_of graph None = []
run_of graph (Some element) = leaf_classes graph element

abbrev pub run_classes : List TypeDef → ℕ → List ℕ
run_classes graph t = run_of graph (repeated_of (slice_get graph t))

-- ---- what cells begin with: zero or NULL

abbrev pub zero_of : Option ℕ → Scalar
zero_of None = Null
zero_of (Some width) = Int width 0

abbrev pub zeros : List TypeDef → List ℕ → List Scalar
zeros graph cs = map (λ c. zero_of (width_of (slice_get graph c))) cs

-- an object with these leaves
abbrev pub object_of : List TypeDef → List ℕ → HeapObject
object_of graph cs = record { leaves = cs; initial = zeros graph cs; dead = false }

abbrev pub killed : HeapObject → HeapObject
killed o = record o { dead = true }

-- these from an offset on, over what was there; behind the end they are added
abbrev pub replaced : List Scalar → ℕ → List Scalar → List Scalar
replaced old at ss = take at old ++ ss ++ drop (at + length ss) old

-- an object whose cells from an offset on begin with these scalars
abbrev pub filled : ℕ → List Scalar → HeapObject → HeapObject
filled at ss o = record o { initial = replaced o.initial at ss }

-- objects one of which, if it is there, is filled so
abbrev pub with_filled : List HeapObject → ℕ → ℕ → List Scalar → Option HeapObject → List HeapObject
with_filled os n at ss None = os
with_filled os n at ss (Some o) = slice_set os n (filled at ss o)
