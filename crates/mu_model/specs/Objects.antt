-- Objects that are made, references that are cast, and places that are found.
use Rattle.std.specs.Prelude.{ℕ, ◌+◌, ◌-◌, ◌*◌, ◌==◌, nat_le, List, [], ◌∷◌, ◌++◌, Option, Some, Result, length, slice_get, option_map, if◌then◌else◌}
use Rattle.type_definitions.specs.declared.definition.TypeDef.{TypeDef}
use Rattle.type_definitions.specs.declared.definition.TypeDef.TheVariants.{FuncRef}
use Rattle.type_definitions.specs.Class.{class_of}
use Rattle.mu_values.specs.declared.scalars.Scalar.{Scalar}
use Rattle.mu_values.specs.declared.scalars.Scalar.TheVariants.{Object, Place, Func}
use Rattle.check_tables.specs.declared.tables.Tables.{Tables}
use Rattle.typed_heap.specs.declared.faults.PlaceFault.{PlaceFault}
use Rattle.typed_heap.specs.Objects.{HeapObject, leaf_classes, run_classes, object_of}
use Rattle.typed_heap.specs.Heap.{hybrid_classes}
use Rattle.typed_heap.specs.Places.{with_some, cast_if, cast, Way, move, find_place}
use Rattle.mu_model.specs.declared.endings.Ending.TheVariants.{HeapFull}
use Rattle.typed_heap.specs.Fits.{signature_classes}
use Rattle.mu_model.specs.Types.{type_graph, class_definition}
use Rattle.mu_model.specs.Configuration.{Configuration}
use Rattle.mu_model.specs.Acts.{Program}
use Rattle.mu_model.specs.Turns.{Turn}
use Rattle.mu_model.specs.Outcomes.{Outcome, has_result, faulted, tried, or_case}

-- ---- objects

-- an object with these leaves, under the next number
abbrev pub object_added : Program → Configuration → List ℕ → Configuration
object_added p c cs = record c { objects = c.objects ++ object_of (type_graph p.tables) cs ∷ []; cells = c.cells - length cs }

-- so many cells are asked; what goes on has them
abbrev pub asks_cells : Program → Configuration → Turn → ℕ → Outcome → Outcome
asks_cells p c u asked go = if nat_le asked c.cells then go else faulted p c u (HeapFull u.thread asked c.cells)

abbrev pub makes : Program → Configuration → Turn → ℕ → Outcome
makes p c u t =
    let cs = leaf_classes (type_graph p.tables) t in
    asks_cells p c u (length cs) (has_result p (object_added p c cs) u (Object (length c.objects)))

-- a hybrid with so many elements; the cells that it asks are counted without making them
abbrev pub makes_hybrid : Program → Configuration → Turn → ℕ → ℕ → Outcome
makes_hybrid p c u t many =
    asks_cells p c u (length (leaf_classes (type_graph p.tables) t) + many * length (run_classes (type_graph p.tables) t))
    (has_result p (object_added p c (hybrid_classes (type_graph p.tables) t many)) u (Object (length c.objects)))

-- an object of the frame
abbrev pub owning : Turn → ℕ → Turn
owning u n = record u { top = record u.top { objects = u.top.objects ++ n ∷ [] } }

abbrev pub makes_own : Program → Configuration → Turn → ℕ → Outcome
makes_own p c u t =
    let cs = leaf_classes (type_graph p.tables) t in
    asks_cells p c u (length cs) (has_result p (object_added p c cs) (owning u (length c.objects)) (Place (length c.objects) 0))

-- ---- casts: a function fits its own signature alone

abbrev pub cast_any : Tables → List HeapObject → Option TypeDef → Scalar → Option (Result Scalar PlaceFault)
cast_any p os (Some (FuncRef s)) (Func f) = with_some (slice_get (signature_classes p) f) (λ g. Some (cast_if (Func f) (g == class_of (type_graph p) s)))
cast_any p os d s = cast (type_graph p) os d s

abbrev pub casts : Program → Configuration → Turn → ℕ → Scalar → Outcome
casts p c u d s = tried p c u (option_map or_case (cast_any p.tables c.objects (class_definition p.tables d) s)) (has_result p c u)

-- ---- places

abbrev pub finds : Program → Configuration → Turn → Way → Scalar → Outcome
finds p c u way s = tried p c u (option_map or_case (find_place (type_graph p.tables) c.objects (move (type_graph p.tables) way) s)) (has_result p c u)
