-- Nothing that a reader believes of a run rests on this. It is what acts over objects leave.
use Rattle.std.specs.Prelude.{◌≡◌, ℕ, ◌-◌, ◌<◌, List, [], ◌∷◌, ◌++◌, Result, length}
use Rattle.ir_tree.specs.declared.items.Item.{Item}
use Rattle.type_definitions.specs.declared.definition.TypeDef.{TypeDef}
use Rattle.mu_values.specs.declared.scalars.Scalar.{Scalar}
use Rattle.mu_values.specs.declared.scalars.Scalar.TheVariants.{Object, Place}
use Rattle.checked_code.specs.Checking.{bundle_tables}
use Rattle.typed_heap.specs.declared.faults.PlaceFault.{PlaceFault}
use Rattle.typed_heap.specs.declared.faults.HeapFault.{HeapFault}
use Rattle.typed_heap.specs.declared.faults.HeapFault.TheVariants as heaps
use Rattle.typed_heap.specs.Objects.{leaf_classes, object_of}
use Rattle.typed_heap.specs.Heap.{hybrid_classes, told_cells}
use Rattle.frames.specs.Activations.{Activation}
use Rattle.mu_model.specs.Acts.{Act, Gives, Makes, MakesHybrid, MakesOwn}
use Rattle.mu_model.specs.Outcomes.{Outcome}
use Rattle.object_acts.specs.declared.making.Making.{Making}
use Rattle.object_acts.specs.declared.making.Making.TheVariants as kinds
use Rattle.run_state.specs.Held.{Held}
use Rattle.run_state.specs.Acting.{acting, found_or}

-- the graph of all types
abbrev pub graph_of : List Item → List TypeDef
graph_of bundle = (bundle_tables bundle).types.definitions

-- the instruction has what was found for its result, or meets the case of the fault
abbrev pub tells : List Item → Held → Result Scalar PlaceFault → Outcome
tells bundle s r = found_or bundle s (λ (x : Scalar). acting bundle s (Gives ((x ∷ []) ∷ []))) r

-- an object with these leaves is made
abbrev pub made : List Item → Held → List ℕ → Held
made bundle s cs = record s { objects = s.objects ++ object_of (graph_of bundle) cs ∷ []; cells = s.cells - length cs }

-- the frame has one more object
abbrev pub owns : Activation → ℕ → Activation
owns f n = record f { objects = f.objects ++ n ∷ [] }

-- ---- how an object is made

abbrev pub act_of : ℕ → Making → Act
act_of t kinds.Object = Makes t
act_of t (kinds.Hybrid many) = MakesHybrid t many
act_of t kinds.Own = MakesOwn t

-- the classes of its leaves
abbrev pub leaves_made : List TypeDef → ℕ → Making → List ℕ
leaves_made types t kinds.Object = leaf_classes types t
leaves_made types t (kinds.Hybrid many) = hybrid_classes types t many
leaves_made types t kinds.Own = leaf_classes types t

-- what the instruction has for its result
abbrev pub result_made : Making → ℕ → Scalar
result_made kinds.Own n = Place n 0
result_made _ n = Object n

-- the frame that made object n
abbrev pub frame_made : Making → Activation → ℕ → Activation
frame_made kinds.Own f n = owns f n
frame_made _ f n = f

-- the object is made, and its result not given yet
abbrev pub state_made : List Item → Held → ℕ → Making → ℕ → Held
state_made bundle s t m n = record (made bundle s (leaves_made (graph_of bundle) t m)) { frames = record s.frames { top = frame_made m s.frames.top n } }

-- what a heap refuses that is asked for so many cells where so many are left
abbrev pub IsFull : HeapFault → ℕ → ℕ → Type 0
IsFull (heaps.HeapFull asked told) n left = (left < n) × (told ≡ left) × (asked ≡ told_cells n)
IsFull heaps.Memory n left = Unit {0}
