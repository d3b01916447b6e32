-- What calls tell of the definitions, where memory may be wanting.
-- Contracts inside the crate cite this; no public one does, so no reader of those needs it.
use Rattle.std.specs.Prelude.{◌≡◌, ℕ, ◌<◌, List, ◌++◌, Result, Ok, Err, length}
use Rattle.std.specs.List.{All}
use Rattle.demands.specs.declared.fault.Fault.{Fault}
use Rattle.demands.specs.declared.fault.Fault.TheVariants.{Memory, At}
use Rattle.name_scopes.specs.Names.{Names}
use Rattle.type_definitions.specs.declared.definition.TypeDef.{TypeDef}
use Rattle.mu_values.specs.declared.literals.ConstKind.{ConstKind}
use Rattle.mu_values.specs.declared.literals.ConstKind.TheVariants.{OutOfWidth}
use Rattle.typed_heap.specs.declared.faults.HeapFault.{HeapFault}
use Rattle.typed_heap.specs.declared.faults.HeapFault.TheVariants as faults
use Rattle.typed_heap.specs.Objects.{HeapObject}
use Rattle.typed_heap.specs.Heap.{HeapContents}
use Rattle.hail_load.specs.declared.fault.LoadKind.{LoadKind}
use Rattle.hail_load.specs.declared.fault.LoadKind.TheVariants.{WrongType, OutOfRange, HeapFull}
use Rattle.hail_load.specs.declared.parts.Part.{Part}
use Rattle.hail_load.specs.declared.parts.Part.TheVariants.{Value, Hybrid, Elements}
use Rattle.hail_load.specs.declared.parts.Made.{Made}
use Rattle.hail_load.specs.Fitting.{Store}

-- ---- answers: the wanted one, but that memory may be wanting

abbrev pub Tells : {A : Type 0} → Result A (Fault LoadKind) → Result A (Fault LoadKind) → Type 0
Tells wanted (Ok a) = wanted ≡ Ok a
Tells wanted (Err Memory) = Unit {0}
Tells wanted (Err (At kind place)) = wanted ≡ Err (At kind place)

-- where the wanted thing is made in place
abbrev pub Makes : {A : Type 0} → Result A (Fault LoadKind) → A → Result (Unit {0}) (Fault LoadKind) → Type 0
Makes wanted new (Ok x) = wanted ≡ Ok new
Makes wanted new (Err Memory) = Unit {0}
Makes wanted new (Err (At kind place)) = wanted ≡ Err (At kind place)

-- what is wanted after a step is what was wanted before it
abbrev pub GoesOn : {A : Type 0} → Result A (Fault LoadKind) → Result A (Fault LoadKind) → Result (Unit {0}) (Fault LoadKind) → Type 0
GoesOn before after (Ok x) = before ≡ after
GoesOn before after (Err Memory) = Unit {0}
GoesOn before after (Err (At kind place)) = before ≡ Err (At kind place)

-- with these before them
abbrev pub behind : {A : Type 0} → List A → Result (List A) (Fault LoadKind) → Result (List A) (Fault LoadKind)
behind xs (Ok ys) = Ok (xs ++ ys)
behind xs (Err e) = Err e

-- with these behind them
abbrev pub before : {A : Type 0} → List A → Result (List A) (Fault LoadKind) → Result (List A) (Fault LoadKind)
before ys (Ok xs) = Ok (xs ++ ys)
before ys (Err e) = Err e

-- what a fault of a constant is called
abbrev pub called : ConstKind → LoadKind
called OutOfWidth = OutOfRange
called _ = WrongType

-- ---- parts

abbrev pub type_of : Part → ℕ
type_of (Value t) = t
type_of (Hybrid t many) = t
type_of (Elements t many) = t

-- its type is in the graph
abbrev pub IsThere : List TypeDef → Part → Type 0
IsThere graph part = type_of part < length graph

-- ---- heaps and names

-- why an object is not made
abbrev pub not_made : HeapFault → ℕ → Fault LoadKind
not_made (faults.HeapFull asked left) place = At HeapFull place
not_made faults.Memory place = Memory

abbrev pub store_of : HeapContents → Names Made → Store
store_of h made = record { objects = h.objects; left = h.left; made = made }

abbrev pub IsSame : HeapContents → HeapContents → Type 0
IsSame old new = (new.objects ≡ old.objects) × (new.left ≡ old.left)

-- each object has one initial scalar for each leaf
abbrev pub AreWhole : List HeapObject → Type 0
AreWhole os = All (λ (o : HeapObject). length o.initial ≡ length o.leaves) os

abbrev pub AreThere : List TypeDef → Names Made → Type 0
AreThere graph made = All (λ (e : List ℕ × Made). IsThere graph e.1.part) made
