-- What loading a script into a heap answers, and what the heap holds then.
use Rattle.std.specs.Prelude.{◌≡◌, ℕ, List, [], Some, None, Result, Ok, Err, map, take}
use Rattle.demands.specs.declared.fault.Fault.{Fault}
use Rattle.demands.specs.declared.fault.Fault.TheVariants.{Memory, At}
use Rattle.typed_heap.specs.Objects.{HeapObject, leaf_classes, object_of}
use Rattle.typed_heap.specs.Heap.{HeapContents}
use Rattle.hail_load.specs.declared.fault.LoadKind.{LoadKind}
use Rattle.hail_load.specs.declared.tree.Command.{Command}
use Rattle.hail_load.specs.Code.{Code}
use Rattle.hail_load.specs.Fitting.{Store}
use Rattle.hail_load.specs.Loading.{Loaded, load}

-- the objects are those of the globals, in text order, and no others
abbrev pub AreGlobals : Code → List HeapObject → Type 0
AreGlobals c os = os ≡ map (λ t. object_of c.graph (leaf_classes c.graph t)) c.globals

-- what these commands make of a heap in which no object has a name yet
abbrev pub loaded_from : Code → HeapContents → List Command → Loaded
loaded_from c h commands = load c (record { objects = h.objects; left = h.left; made = [] }) commands

abbrev pub Holds : Store → HeapContents → Type 0
Holds s h = (h.objects ≡ s.objects) × (h.left ≡ s.left)

-- After Ok the heap holds what all commands made, and after a refusal what those before the refused one made. Where no memory is found it
-- holds what the first so many of them made.
abbrev pub Loads : Code → List Command → HeapContents → HeapContents → Result (Unit {0}) (Fault LoadKind) → Type 0
Loads c commands old new (Ok x) = ((loaded_from c old commands).fault ≡ None) × Holds (loaded_from c old commands).store new
Loads c commands old new (Err (At kind place)) = ((loaded_from c old commands).fault ≡ Some (At kind place)) × Holds (loaded_from c old commands).store new
Loads c commands old new (Err Memory) = (k : ℕ) × ((loaded_from c old (take k commands)).fault ≡ None) × Holds (loaded_from c old (take k commands)).store new
