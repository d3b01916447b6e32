-- Worked examples, to read beside the definitions: what an object has, and what fits.
use Rattle.std.specs.Prelude.{◌≡◌, ℕ, true, false, List, [], ◌∷◌, refl}
use Rattle.type_definitions.specs.declared.definition.TypeDef.{TypeDef}
use Rattle.type_definitions.specs.declared.definition.TypeDef.TheVariants.{Struct, Array, Hybrid, Void, Ref, Iref}
use Rattle.type_definitions.specs.declared.definition.TypeDef.TheVariants as types
use Rattle.type_definitions.specs.Same.{alike}
use Rattle.type_definitions.specs.Leaves.{leaves_to}
use Rattle.mu_values.specs.declared.scalars.Scalar.TheVariants.{Int, Null, Object, Place}
use Rattle.typed_heap.specs.Objects.{HeapObject, leaf_classes, object_of, filled}
use Rattle.typed_heap.specs.Fits.{World, fits, place_fits, DefinitionFits}
use Rattle.typed_heap.specs.Heap.{hybrid_classes}

-- 0 is int<64>, 1 is int<8>, 2 is struct<int<64> int<64>>, 3 is array<int<64> 3>, 4 is hybrid<int<8> struct 2>, 5 is ref<struct 2>,
-- 6 is iref<int<64>>, 7 is void, and 8 is int<64> once more
abbrev pub graph : List TypeDef
graph = types.Int 64 ∷ types.Int 8 ∷ Struct (0 ∷ 8 ∷ []) ∷ Array 0 3 ∷ Hybrid (1 ∷ []) 2 ∷ Ref 2 ∷ Iref 0 ∷ Void ∷ types.Int 64 ∷ []

-- a hybrid of two runs, and its first cells
abbrev pub two_runs : HeapObject
two_runs = object_of graph (hybrid_classes graph 4 2)

pub leaves_by_class : leaf_classes graph 2 ≡ 0 ∷ 0 ∷ []
unfolding leaves_to alike
leaves_by_class = refl

pub new_cells : two_runs ≡ record { leaves = 1 ∷ 0 ∷ 0 ∷ 0 ∷ 0 ∷ []; initial = Int 8 0 ∷ Int 64 0 ∷ Int 64 0 ∷ Int 64 0 ∷ Int 64 0 ∷ []; dead = false }
unfolding leaves_to alike
new_cells = refl

pub filled_cells : (filled 2 (Int 64 7 ∷ Int 64 8 ∷ []) two_runs).initial ≡ Int 8 0 ∷ Int 64 0 ∷ Int 64 7 ∷ Int 64 8 ∷ Int 64 0 ∷ []
unfolding leaves_to alike
filled_cells = refl

-- ---- objects

pub more_leaves_fit : fits graph 2 (0 ∷ 0 ∷ 1 ∷ []) ≡ true
unfolding leaves_to alike
more_leaves_fit = refl

pub too_few_leaves : fits graph 2 (0 ∷ []) ≡ false
unfolding leaves_to alike
too_few_leaves = refl

pub another_width : fits graph 1 (0 ∷ []) ≡ false
unfolding leaves_to alike
another_width = refl

pub void_is_everywhere : fits graph 7 [] ≡ true
unfolding leaves_to alike
void_is_everywhere = refl

-- ---- hybrids

pub whole_runs : fits graph 4 two_runs.leaves ≡ true
unfolding leaves_to alike
whole_runs = refl

pub no_runs : fits graph 4 (1 ∷ []) ≡ true
unfolding leaves_to alike
no_runs = refl

pub part_of_a_run : fits graph 4 (1 ∷ 0 ∷ 0 ∷ 0 ∷ []) ≡ false
unfolding leaves_to alike
part_of_a_run = refl

pub other_leaves_behind : fits graph 4 (1 ∷ 0 ∷ 0 ∷ 1 ∷ 0 ∷ []) ≡ false
unfolding leaves_to alike
other_leaves_behind = refl

-- ---- places

pub inner_place : place_fits graph 2 two_runs 3 ≡ true
unfolding leaves_to alike
inner_place = refl

pub last_cell_alone : place_fits graph 2 two_runs 4 ≡ false
unfolding leaves_to alike
last_cell_alone = refl

pub the_end : place_fits graph 4 two_runs 5 ≡ true
unfolding leaves_to alike
the_end = refl

pub past_the_end : place_fits graph 7 two_runs 6 ≡ false
unfolding leaves_to alike
past_the_end = refl

pub end_of_no_cells : place_fits graph 0 (object_of graph []) 0 ≡ true
end_of_no_cells = refl

-- ---- scalars

abbrev world : World
world = record { objects = two_runs ∷ []; signatures = []; stacks = 0; threads = 0 }

pub null_fits : DefinitionFits graph world (Ref 2) Null
null_fits = tt

pub object_fits : DefinitionFits graph world (Ref 4) (Object 0) ≡ (true ≡ true)
unfolding leaves_to alike
object_fits = refl

pub object_that_is_not_there : DefinitionFits graph world (Ref 7) (Object 1) ≡ ⊥
object_that_is_not_there = refl

pub place_is_no_object : DefinitionFits graph world (Ref 7) (Place 0 0) ≡ ⊥
place_is_no_object = refl
