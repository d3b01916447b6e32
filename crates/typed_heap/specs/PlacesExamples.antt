-- Worked examples, to read beside the definitions: casts, places that are found, and cells.
use Rattle.std.specs.Prelude.{◌≡◌, ◌^◌, List, [], ◌∷◌, Some, Ok, Err, slice_get, pos, negsuc, refl}
use Rattle.type_definitions.specs.declared.definition.TypeDef.TheVariants.{Ref}
use Rattle.type_definitions.specs.Same.{alike}
use Rattle.type_definitions.specs.Leaves.{leaves_to}
use Rattle.mu_values.specs.declared.scalars.Scalar.TheVariants.{Null, Object, Place}
use Rattle.typed_heap.specs.declared.faults.PlaceFault.TheVariants as faults
use Rattle.typed_heap.specs.Objects.{HeapObject, leaf_classes, object_of, killed}
use Rattle.typed_heap.specs.Places.{Field, Element, Shift, VarPart, move, find_place, cast, cell_of}
use Rattle.typed_heap.specs.FitsExamples.{graph, two_runs}

-- a struct of two int<64>, an array of three, a hybrid of two runs, and a hybrid of none whose cells are dead
abbrev objects : List HeapObject
objects = object_of graph (leaf_classes graph 2) ∷ object_of graph (leaf_classes graph 3) ∷ two_runs ∷ killed (object_of graph (leaf_classes graph 4)) ∷ []

-- ---- casts

pub to_the_first_part : cast graph objects (Some (Ref 0)) (Object 0) ≡ Some (Ok (Object 0))
unfolding leaves_to alike
to_the_first_part = refl

pub to_more_leaves : cast graph objects (slice_get graph 5) (Object 3) ≡ Some (Err faults.BadCast)
unfolding leaves_to alike
to_more_leaves = refl

pub null_to_anything : cast graph objects (slice_get graph 6) Null ≡ Some (Ok Null)
null_to_anything = refl

-- ---- places

pub second_field : find_place graph objects (move graph (Field 2 1)) (Place 0 0) ≡ Some (Ok (Place 0 1))
unfolding leaves_to alike
second_field = refl

pub last_element : find_place graph objects (move graph (Element 3 (pos 2))) (Place 1 0) ≡ Some (Ok (Place 1 2))
unfolding leaves_to alike
last_element = refl

-- a signed index
pub element_before_the_first : find_place graph objects (move graph (Element 3 (negsuc 0))) (Place 1 0) ≡ Some (Err faults.OutOfRange)
unfolding leaves_to alike
element_before_the_first = refl

-- its end would fit, but the array has no such element
pub element_behind_the_last : find_place graph objects (move graph (Element 3 (pos 3))) (Place 1 0) ≡ Some (Err faults.OutOfRange)
unfolding leaves_to alike
element_behind_the_last = refl

pub null_comes_before_the_index : find_place graph objects (move graph (Element 3 (pos 3))) Null ≡ Some (Err faults.Null)
null_comes_before_the_index = refl

pub shift_to_the_end : find_place graph objects (move graph (Shift 2 (pos 1))) (Place 0 0) ≡ Some (Ok (Place 0 2))
unfolding leaves_to alike
shift_to_the_end = refl

pub shift_back : find_place graph objects (move graph (Shift 0 (negsuc 1))) (Place 1 2) ≡ Some (Ok (Place 1 0))
unfolding leaves_to alike
shift_back = refl

pub shift_far : find_place graph objects (move graph (Shift 3 (pos (2 ^ 63)))) (Place 1 0) ≡ Some (Err faults.OutOfRange)
unfolding leaves_to alike
shift_far = refl

pub first_element : find_place graph objects (move graph (VarPart 4)) (Place 2 0) ≡ Some (Ok (Place 2 1))
unfolding leaves_to alike
first_element = refl

-- a hybrid of no runs: its end
pub no_element : find_place graph objects (move graph (VarPart 4)) (Place 3 0) ≡ Some (Ok (Place 3 1))
unfolding leaves_to alike
no_element = refl

-- ---- cells

pub a_cell : cell_of objects (Place 0 1) ≡ Some (Ok (record { object = 0; at = 1 }))
unfolding leaves_to alike
a_cell = refl

pub a_dead_cell : cell_of objects (Place 3 0) ≡ Some (Err faults.DeadCell)
unfolding leaves_to alike
a_dead_cell = refl

-- the end comes before death
pub end_of_a_dead_object : cell_of objects (Place 3 1) ≡ Some (Err faults.OutOfRange)
unfolding leaves_to alike
end_of_a_dead_object = refl

pub no_cell_at_null : cell_of objects Null ≡ Some (Err faults.Null)
no_cell_at_null = refl
