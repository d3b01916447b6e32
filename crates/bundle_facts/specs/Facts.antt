-- Facts of every bundle that meets its demands.
use Rattle.std.specs.Prelude.{◌≡◌, ℕ, ◌<◌, ◌≤◌, true, List, [], ◌∷◌, Some, None, IsSomeAnd, is_some, length, map, slice_get}
use Rattle.std.specs.List.{flat_map, All}
use Rattle.ir_tree.specs.declared.items.Item.{Item}
use Rattle.ir_tree.specs.declared.items.Item.TheVariants as items
use Rattle.type_definitions.specs.declared.definition.TypeDef.{TypeDef}
use Rattle.type_definitions.specs.declared.definition.TypeDef.TheVariants as types
use Rattle.type_definitions.specs.Same.{same, agree_at}
use Rattle.type_definitions.specs.Class.{class_of}
use Rattle.type_definitions.specs.Leaves.{times}
use Rattle.type_definitions.specs.Parts.{parts}
use Rattle.mu_types.specs.Graph.{Table}
use Rattle.mu_values.specs.declared.scalars.Scalar.TheVariants as scalars
use Rattle.mu_values.specs.Constants.{width_of}
use Rattle.check_tables.specs.declared.tables.Signature.{Signature}
use Rattle.check_tables.specs.declared.tables.Tables.{Tables}
use Rattle.check_tables.specs.Types.{definition_at, class_at, ref_at, iref_at, funcref_at}
use Rattle.check_tables.specs.TypeTests.{is_scalar}
use Rattle.check_tables.specs.Lookups.{funcref_of}
use Rattle.checked_code.specs.Constants.{constant_values}
use Rattle.checked_code.specs.declared.blocks.BlockCode.{BlockCode}
use Rattle.checked_code.specs.declared.blocks.Function.{Function}
use Rattle.checked_code.specs.Functions.{body_of}
use Rattle.checked_code.specs.Checking.{bundle_tables, bundle_functions, bundle_blocks}
use Rattle.bundle_laws.specs.Accepted.{CodeOf, head_classes}
use Rattle.typed_heap.specs.Objects.{HeapObject, leaf_classes, zeros}
use Rattle.typed_heap.specs.Heap.{AreNarrow}
use Rattle.typed_heap.specs.Fits.{World, ScalarFits, ScalarsFit, ValueFits, fits, place_fits, signature_classes}
use Rattle.mu_model.specs.Types.{type_graph, class_definition, signature_of, classes_taken, classes_given}
use Rattle.model_laws.specs.Places.{HasTypes}
use Rattle.model_numbers.specs.Laws.{OfAccepted}

-- ---- widths

-- every int of the graph has an allowed width
abbrev pub WidthsAreAllowed : Type 0
WidthsAreAllowed = OfAccepted (λ bundle. (c w : ℕ) → width_of (class_definition (bundle_tables bundle) c) ≡ Some w → (1 ≤ w) × (w ≤ 128))

-- so widths are numbers of 32 bits
abbrev pub WidthsAreNarrow : Type 0
WidthsAreNarrow = OfAccepted (λ bundle. AreNarrow (type_graph (bundle_tables bundle)))

-- the class of each global is in the graph
abbrev pub GlobalsAreTypes : Type 0
GlobalsAreTypes = OfAccepted (λ bundle. All (λ c. c < length (type_graph (bundle_tables bundle))) (bundle_tables bundle).global_cells)

-- ---- classes

-- c is the class of type t of the graph: it is in the graph, it is its own class, and it has the same leaves
pub record IsClassOf (graph : List TypeDef) (t c : ℕ) : Type 0 where
  pub written : t < length graph
  pub within : c < length graph
  pub class : class_of graph t ≡ c
  pub own : class_of graph c ≡ c
  pub leaves : leaf_classes graph c ≡ leaf_classes graph t
  pub agrees : agree_at (same graph) (slice_get graph t) (slice_get graph c) ≡ true

-- the class of a type that is written is its class, and their definitions agree
pub record IsClassAt (p : Table) (t c : ℕ) : Type 0 where
  pub class : IsClassOf p.definitions t c
  pub definition : definition_at p t ≡ slice_get p.definitions t
  pub agrees : agree_at (same p.definitions) (definition_at p t) (slice_get p.definitions c) ≡ true

abbrev pub ClassesAreDefined : Type 0
ClassesAreDefined = OfAccepted (λ bundle. (t c : ℕ) → class_at (bundle_tables bundle).types t ≡ Some c → IsClassAt (bundle_tables bundle).types t c)

-- the definition of a class by that of a type of it: ints have the same width, references refer to the same class, structs have as many
-- fields of the same classes, arrays the same length and elements of the same class
abbrev pub AreShaped : List TypeDef → TypeDef → TypeDef → Type 0
AreShaped graph (types.Int w) (types.Int v) = v ≡ w
AreShaped graph (types.Struct fields) (types.Struct ks) = map (class_of graph) ks ≡ map (class_of graph) fields
AreShaped graph (types.Array element size) (types.Array k n) = (class_of graph k ≡ class_of graph element) × (n ≡ size)
AreShaped graph (types.Hybrid fixed element) (types.Hybrid ks k) = (map (class_of graph) ks ≡ map (class_of graph) fixed) × (class_of graph k ≡ class_of graph element)
AreShaped graph types.Void types.Void = Unit {0}
AreShaped graph (types.Ref t) (types.Ref k) = class_of graph k ≡ class_of graph t
AreShaped graph (types.Iref t) (types.Iref k) = class_of graph k ≡ class_of graph t
AreShaped graph (types.FuncRef s) (types.FuncRef k) = class_of graph k ≡ class_of graph s
AreShaped graph types.StackRef types.StackRef = Unit {0}
AreShaped graph types.ThreadRef types.ThreadRef = Unit {0}
AreShaped graph (types.Sig takes gives) (types.Sig ks ls) = (map (class_of graph) ks ≡ map (class_of graph) takes) × (map (class_of graph) ls ≡ map (class_of graph) gives)
AreShaped graph _ _ = ⊥

abbrev pub HaveOneShape : Type 0
HaveOneShape = OfAccepted (λ bundle. (t c : ℕ) (d : TypeDef) → class_at (bundle_tables bundle).types t ≡ Some c → definition_at (bundle_tables bundle).types t ≡ Some d →
    IsSomeAnd (class_definition (bundle_tables bundle) c) (AreShaped (type_graph (bundle_tables bundle)) d))

-- what a written type is made of is written, and has a class
abbrev pub PartsHaveClasses : Type 0
PartsHaveClasses = OfAccepted (λ bundle. (t n k : ℕ) (d : TypeDef) → definition_at (bundle_tables bundle).types t ≡ Some d → slice_get (parts d) n ≡ Some k →
    class_at (bundle_tables bundle).types k ≡ Some (class_of (type_graph (bundle_tables bundle)) k))

-- types of one class have the same leaves; and the same leaves and places fit them
abbrev pub ClassesDecideFits : Type 0
ClassesDecideFits = OfAccepted (λ bundle. (a b : ℕ) → a < length (type_graph (bundle_tables bundle)) → b < length (type_graph (bundle_tables bundle)) →
    class_of (type_graph (bundle_tables bundle)) a ≡ class_of (type_graph (bundle_tables bundle)) b →
    (leaf_classes (type_graph (bundle_tables bundle)) a ≡ leaf_classes (type_graph (bundle_tables bundle)) b)
    × ((found : List ℕ) → fits (type_graph (bundle_tables bundle)) a found ≡ fits (type_graph (bundle_tables bundle)) b found)
    × ((o : HeapObject) (at : ℕ) → place_fits (type_graph (bundle_tables bundle)) a o at ≡ place_fits (type_graph (bundle_tables bundle)) b o at))

-- ---- leaves by class

-- a scalar type that is its own class is its own only leaf; a struct has the leaves of its fields, an array those of its element as often
-- as its length, a hybrid those of its fixed fields, and void has none
pub record LeavesAreOfParts (graph : List TypeDef) : Type 0 where
  pub scalar : (c : ℕ) → class_of graph c ≡ c → is_scalar (slice_get graph c) ≡ true → leaf_classes graph c ≡ c ∷ []
  pub struct : (c : ℕ) (ks : List ℕ) → slice_get graph c ≡ Some (types.Struct ks) → leaf_classes graph c ≡ flat_map (leaf_classes graph) ks
  pub array : (c k n : ℕ) → slice_get graph c ≡ Some (types.Array k n) → leaf_classes graph c ≡ times n (leaf_classes graph k)
  pub hybrid : (c k : ℕ) (ks : List ℕ) → slice_get graph c ≡ Some (types.Hybrid ks k) → leaf_classes graph c ≡ flat_map (leaf_classes graph) ks
  pub void : (c : ℕ) → slice_get graph c ≡ Some types.Void → leaf_classes graph c ≡ []

abbrev pub LeavesOfClasses : Type 0
LeavesOfClasses = OfAccepted (λ bundle. LeavesAreOfParts (type_graph (bundle_tables bundle)))

-- ---- references

-- a class c that is defined so, which is its own class and its own only leaf; k, to which it refers, has the class of t
pub record RefersTo (graph : List TypeDef) (c : ℕ) (reference : ℕ → TypeDef) (t : ℕ) : Type 0 where
  pub target : ℕ
  pub definition : slice_get graph c ≡ Some (reference target)
  pub within : target < length graph
  pub written : t < length graph
  pub class : class_of graph target ≡ class_of graph t
  pub own : class_of graph c ≡ c
  pub leaf : leaf_classes graph c ≡ c ∷ []

abbrev pub RefsAreDefined : Type 0
RefsAreDefined = OfAccepted (λ bundle. (t c : ℕ) → ref_at (bundle_tables bundle).types t ≡ Some c → RefersTo (type_graph (bundle_tables bundle)) c types.Ref t)

abbrev pub IrefsAreDefined : Type 0
IrefsAreDefined = OfAccepted (λ bundle. (t c : ℕ) → iref_at (bundle_tables bundle).types t ≡ Some c → RefersTo (type_graph (bundle_tables bundle)) c types.Iref t)

abbrev pub FuncrefsAreDefined : Type 0
FuncrefsAreDefined = OfAccepted (λ bundle. (t c : ℕ) → funcref_at (bundle_tables bundle).types t ≡ Some c → RefersTo (type_graph (bundle_tables bundle)) c types.FuncRef t)

-- ---- signatures

-- an entry of the signatures is that of one definition: it takes and gives the classes of what the definition does, its class is that
-- of the definition, and its references to functions refer to that class
pub record IsSignature (p : Tables) (s : Signature) : Type 0 where
  -- the number of the definition, and the types that it takes and gives
  pub number : ℕ
  pub takes : List ℕ
  pub gives : List ℕ
  pub definition : slice_get (type_graph p) number ≡ Some (types.Sig takes gives)
  pub takes_are : s.takes ≡ map (class_of (type_graph p)) takes
  pub gives_are : s.gives ≡ map (class_of (type_graph p)) gives
  pub class : class_of (type_graph p) number ≡ s.class
  pub funcref : RefersTo (type_graph p) s.funcref types.FuncRef number

abbrev pub SignaturesAreDefined : Type 0
SignaturesAreDefined = OfAccepted (λ bundle. (n : ℕ) (s : Signature) → slice_get (bundle_tables bundle).signatures n ≡ Some s → IsSignature (bundle_tables bundle) s)

-- two entries of one class take and give the same, and have the same references
pub record AreSameSignature (s r : Signature) : Type 0 where
  pub takes : s.takes ≡ r.takes
  pub gives : s.gives ≡ r.gives
  pub funcref : s.funcref ≡ r.funcref

abbrev pub ClassesDecideSignatures : Type 0
ClassesDecideSignatures = OfAccepted (λ bundle. (m n : ℕ) (s r : Signature) → slice_get (bundle_tables bundle).signatures m ≡ Some s → slice_get (bundle_tables bundle).signatures n ≡ Some r →
    s.class ≡ r.class → AreSameSignature s r)

abbrev pub FuncrefsDecideSignatures : Type 0
FuncrefsDecideSignatures = OfAccepted (λ bundle. (m n : ℕ) (s r : Signature) → slice_get (bundle_tables bundle).signatures m ≡ Some s → slice_get (bundle_tables bundle).signatures n ≡ Some r →
    s.funcref ≡ r.funcref → s.class ≡ r.class)

-- ---- functions

-- each function has a signature
abbrev pub FunctionsHaveSignatures : Type 0
FunctionsHaveSignatures = OfAccepted (λ bundle. (f s : ℕ) → slice_get (bundle_tables bundle).functions f ≡ Some s →
    (r : Signature) × (slice_get (bundle_tables bundle).signatures s ≡ Some r) × (signature_of (bundle_tables bundle) f ≡ Some r))

-- the functions are those of the code
abbrev pub FunctionsAreThere : Type 0
FunctionsAreThere = OfAccepted (λ bundle. (f : ℕ) → is_some (slice_get (bundle_tables bundle).functions f) ≡ is_some (slice_get (bundle_functions bundle) f))

-- a reference to a function is a value of the class of such references
abbrev pub FunctionValuesFit : Type 0
FunctionValuesFit = OfAccepted (λ bundle. (w : World) (f c : ℕ) → w.signatures ≡ signature_classes (bundle_tables bundle) → funcref_of (signature_of (bundle_tables bundle) f) ≡ Some c →
    ValueFits (type_graph (bundle_tables bundle)) w c (scalars.Func f ∷ []))

-- a function that a value of a signature's class of references is takes and gives what the signature does
abbrev pub CalledFunctionsFit : Type 0
CalledFunctionsFit = OfAccepted (λ bundle. (w : World) (n f : ℕ) (z : Signature) → slice_get (bundle_tables bundle).signatures n ≡ Some z → w.signatures ≡ signature_classes (bundle_tables bundle) →
    ScalarFits (type_graph (bundle_tables bundle)) w z.funcref (scalars.Func f) →
    (slice_get (signature_classes (bundle_tables bundle)) f ≡ Some z.class) × (classes_taken (bundle_tables bundle) f ≡ z.takes) × (classes_given (bundle_tables bundle) f ≡ z.gives))

-- the same of a function whose signature has the class of an entry
abbrev pub FunctionsOfClassFit : Type 0
FunctionsOfClassFit = OfAccepted (λ bundle. (n f : ℕ) (z : Signature) → slice_get (bundle_tables bundle).signatures n ≡ Some z → slice_get (signature_classes (bundle_tables bundle)) f ≡ Some z.class →
    (classes_taken (bundle_tables bundle) f ≡ z.takes) × (classes_given (bundle_tables bundle) f ≡ z.gives))

-- ---- constants

-- the value of each constant fits its class, in every world
abbrev pub ConstantValuesFit : Type 0
ConstantValuesFit = OfAccepted (λ bundle. (n c : ℕ) → slice_get (bundle_tables bundle).constants n ≡ Some c → (w : World) →
    IsSomeAnd (slice_get (constant_values (bundle_tables bundle) bundle) n) (λ v. ValueFits (type_graph (bundle_tables bundle)) w c v))

-- it is a class of the graph, its own
abbrev pub ConstantsHaveClasses : Type 0
ConstantsHaveClasses = OfAccepted (λ bundle. (n c : ℕ) → slice_get (bundle_tables bundle).constants n ≡ Some c → IsClassOf (type_graph (bundle_tables bundle)) c c)

-- the value of a constant that is an int is one scalar
abbrev pub IntConstantsAreScalars : Type 0
IntConstantsAreScalars = OfAccepted (λ bundle. (n c w : ℕ) → slice_get (bundle_tables bundle).constants n ≡ Some c → class_definition (bundle_tables bundle) c ≡ Some (types.Int w) →
    (bits : ℕ) × (slice_get (constant_values (bundle_tables bundle) bundle) n ≡ Some (scalars.Int w bits ∷ [])))

-- ---- first blocks

-- each function that is defined has a block
abbrev pub HaveBlocks : List Item → Type 0
HaveBlocks [] = Unit {0}
HaveBlocks (items.Typedef d ∷ is) = HaveBlocks is
HaveBlocks (items.Funcsig d ∷ is) = HaveBlocks is
HaveBlocks (items.Const d ∷ is) = HaveBlocks is
HaveBlocks (items.GlobalCell d ∷ is) = HaveBlocks is
HaveBlocks (items.Funcdecl d ∷ is) = HaveBlocks is
HaveBlocks (items.Funcdef d ∷ is) = (0 < length d.blocks) × HaveBlocks is

-- block b is the first of function f: it stands first in its definition, it takes what the function takes, it has no handler, and the
-- definition gives what the function gives
pub record IsFirstBlock (bundle : List Item) (f b : ℕ) : Type 0 where
  pub code : BlockCode
  pub there : slice_get (bundle_blocks bundle) b ≡ Some code
  pub first : code.at ≡ 0
  pub handler : code.handler ≡ None
  pub takes : (of : CodeOf (bundle_tables bundle) bundle (bundle_blocks bundle) b code) → head_classes (bundle_tables bundle) of.block.head ≡ classes_taken (bundle_tables bundle) f
  pub gives : (of : CodeOf (bundle_tables bundle) bundle (bundle_blocks bundle) b code) → (body_of (bundle_tables bundle) of.first of.definition).gives ≡ classes_given (bundle_tables bundle) f

abbrev pub FirstBlocksFit : Type 0
FirstBlocksFit = OfAccepted (λ bundle. HaveBlocks bundle → (f b : ℕ) (function : Function) → slice_get (bundle_functions bundle) f ≡ Some function → function.first ≡ Some b → IsFirstBlock bundle f b)

-- ---- the types that every bundle has, and zeros

abbrev pub TypesAreThere : Type 0
TypesAreThere = OfAccepted (λ bundle. HasTypes (bundle_tables bundle))

abbrev pub ZerosFit : Type 0
ZerosFit = OfAccepted (λ bundle. (w : World) (c : ℕ) →
    ScalarsFit (type_graph (bundle_tables bundle)) w (leaf_classes (type_graph (bundle_tables bundle)) c) (zeros (type_graph (bundle_tables bundle)) (leaf_classes (type_graph (bundle_tables bundle)) c)))
