-- The parts that indexes and lists find in an object, and the places that targets name.
use Rattle.std.specs.Prelude.{ℕ, ◌+◌, ◌*◌, List, [], ◌∷◌, ◌++◌, map, length, take, sum_by, Option, Some, None, Result, Ok, Err, slice_get}
use Rattle.demands.specs.declared.fault.Fault.{Fault}
use Rattle.demands.specs.declared.fault.Fault.TheVariants.{At}
use Rattle.name_scopes.specs.Names.{Names, found}
use Rattle.type_definitions.specs.declared.definition.TypeDef.{TypeDef}
use Rattle.type_definitions.specs.declared.definition.TypeDef.TheVariants as types
use Rattle.type_definitions.specs.Leaves.{times}
use Rattle.ir_lex.specs.declared.name.Name.{Name}
use Rattle.bundle_names.specs.declared.globals.Sort.{Sort}
use Rattle.bundle_names.specs.declared.globals.Sort.TheVariants as sorts
use Rattle.typed_heap.specs.Objects.{leaf_classes, run_classes}
use Rattle.typed_heap.specs.Heap.{hybrid_classes}
use Rattle.hail_load.specs.declared.fault.LoadKind.{LoadKind}
use Rattle.hail_load.specs.declared.fault.LoadKind.TheVariants.{WrongType, OutOfRange}
use Rattle.hail_load.specs.declared.parts.Part.{Part}
use Rattle.hail_load.specs.declared.parts.Part.TheVariants.{Value, Hybrid, Elements}
use Rattle.hail_load.specs.declared.parts.Spot.{Spot}
use Rattle.hail_load.specs.declared.parts.Made.{Made}
use Rattle.hail_load.specs.declared.tree.Root.{Root}
use Rattle.hail_load.specs.declared.tree.Root.TheVariants as roots
use Rattle.hail_load.specs.declared.tree.Index.{Index}
use Rattle.hail_load.specs.Code.{Code}

infixl 10 ◌>>=◌
abbrev pub ◌>>=◌ : {A B : Type 0} → Result A (Fault LoadKind) → (A → Result B (Fault LoadKind)) → Result B (Fault LoadKind)
(Ok x) >>= f = f x
(Err e) >>= f = Err e

-- ---- parts

abbrev pub value_parts : Option TypeDef → Option (List Part)
value_parts (Some (types.Struct fields)) = Some (map Value fields)
value_parts (Some (types.Array element size)) = Some (times size (Value element ∷ []))
value_parts _ = None

-- behind the fixed fields of a hybrid stands one part for all its elements
abbrev pub hybrid_parts : Option TypeDef → ℕ → Option (List Part)
hybrid_parts (Some (types.Hybrid fixed element)) many = Some (map Value fixed ++ Elements element many ∷ [])
hybrid_parts _ many = None

-- the parts of a part, from left to right; None of a scalar or void
abbrev pub parts_of : List TypeDef → Part → Option (List Part)
parts_of graph (Value t) = value_parts (slice_get graph t)
parts_of graph (Hybrid t many) = hybrid_parts (slice_get graph t) many
parts_of graph (Elements t many) = Some (times many (Value t ∷ []))

-- the leaves of a part, and how many those are, which is counted without making them
abbrev pub leaves_of : List TypeDef → Part → List ℕ
leaves_of graph (Value t) = leaf_classes graph t
leaves_of graph (Hybrid t many) = hybrid_classes graph t many
leaves_of graph (Elements t many) = times many (leaf_classes graph t)

abbrev pub size_of : List TypeDef → Part → ℕ
size_of graph (Value t) = length (leaf_classes graph t)
size_of graph (Hybrid t many) = length (leaf_classes graph t) + many * length (run_classes graph t)
size_of graph (Elements t many) = many * length (leaf_classes graph t)

-- ---- places

abbrev pub part_with : List TypeDef → Spot → List Part → Index → Option Part → Result Spot (Fault LoadKind)
part_with graph s parts i None = Err (At OutOfRange i.number.place)
part_with graph s parts i (Some p) = Ok (record { object = s.object; at = s.at + sum_by (size_of graph) (take i.number.number.magnitude parts); part = p })

abbrev pub index_into : List TypeDef → Spot → Index → Option (List Part) → Result Spot (Fault LoadKind)
index_into graph s i None = Err (At WrongType i.place)
index_into graph s i (Some parts) = part_with graph s parts i (slice_get parts i.number.number.magnitude)

-- the part that some indexes lead to, one after the other
abbrev pub indexed : List TypeDef → Spot → List Index → Result Spot (Fault LoadKind)
indexed graph s [] = Ok s
indexed graph s (i ∷ is) = index_into graph s i (parts_of graph s.part) >>= λ next. indexed graph next is

abbrev pub made_spot : Name → Option Made → Result Spot (Fault LoadKind)
made_spot n None = Err (At WrongType n.place)
made_spot n (Some m) = Ok (record { object = m.object; at = 0; part = m.part })

abbrev pub typed_spot : Name → ℕ → Option ℕ → Result Spot (Fault LoadKind)
typed_spot n g None = Err (At WrongType n.place)
typed_spot n g (Some t) = Ok (record { object = g; at = 0; part = Value t })

-- a global has its number among the objects too
abbrev pub global_spot : List ℕ → Name → Option Sort → Result Spot (Fault LoadKind)
global_spot globals n (Some (sorts.GlobalCell g)) = typed_spot n g (slice_get globals g)
global_spot globals n _ = Err (At WrongType n.place)

-- In a text whose names are judged each of them is there; elsewhere a name that is not there is of a wrong type.
abbrev pub root_spot : Code → Names Made → Root → Result Spot (Fault LoadKind)
root_spot c made (roots.Object n) = made_spot n (found made n.text)
root_spot c made (roots.Global n) = global_spot c.globals n (found c.names n.text)

abbrev pub target_spot : Code → Names Made → Root → List Index → Result Spot (Fault LoadKind)
target_spot c made root is = root_spot c made root >>= λ s. indexed c.graph s is
