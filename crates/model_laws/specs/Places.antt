-- The places of a bundle, and where its instructions may go.
use Rattle.std.specs.Prelude.{◌≡◌, ℕ, suc, Bool, true, false, List, [], ◌∷◌, ◌++◌, Option, Some, None, slice_get}
use Rattle.type_definitions.specs.declared.definition.TypeDef.{TypeDef}
use Rattle.type_definitions.specs.declared.definition.TypeDef.TheVariants as types
use Rattle.check_tables.specs.declared.tables.Tables.{Tables}
use Rattle.check_tables.specs.Types.{int1, int32, stackref, threadref, ref_void}
use Rattle.typed_heap.specs.Objects.{leaf_classes}
use Rattle.typed_heap.specs.Fits.{World}
use Rattle.frames.specs.Activations.{Goal}
use Rattle.mu_model.specs.Types.{type_graph, class_definition}
use Rattle.mu_model.specs.Acts.{Program}
use Rattle.model_laws.specs.Values.{ValuesFit}

-- Types stand by class. By the number of a block and how many instructions stand before: the types of the variables there, and of the
-- results of the instruction there, where it may go on with results. By the number of a block: the types of its function's results.
pub record Places : Type 0 where
  pub before : ℕ → ℕ → Option (List ℕ)
  pub gives : ℕ → ℕ → Option (List ℕ)
  pub results : ℕ → List ℕ

-- ---- the types that every bundle has

-- a class with this definition, which is its own leaf
pub record IsScalarClass (p : Tables) (c : ℕ) (d : TypeDef) : Type 0 where
  pub leaf : leaf_classes (type_graph p) c ≡ c ∷ []
  pub definition : class_definition p c ≡ Some d

pub record HasTypes (p : Tables) : Type 0 where
  pub int1 : IsScalarClass p (int1 p.types) (types.Int 1)
  pub int32 : IsScalarClass p (int32 p.types) (types.Int 32)
  pub stackref : IsScalarClass p (stackref p.types) types.StackRef
  pub threadref : IsScalarClass p (threadref p.types) types.ThreadRef
  -- ref<void> refers to a type without leaves
  pub target : ℕ
  pub ref_void : IsScalarClass p (ref_void p.types) (types.Ref target)
  pub void : leaf_classes (type_graph p) target ≡ []

-- ---- where an instruction goes

-- to a block of the same function that has no handler, with a value for each of its parameters
pub record GoalFits (p : Program) (t : Places) (w : World) (block : ℕ) (g : Goal) : Type 0 where
  pub takes : List ℕ
  pub there : t.before g.block 0 ≡ Some takes
  pub values : ValuesFit (type_graph p.tables) w takes g.values
  pub results : t.results g.block ≡ t.results block

abbrev pub handler_class : Tables → Bool → List ℕ
handler_class p true = ref_void p.types ∷ []
handler_class p false = []

-- to a block of the same function that may have a handler, which stands behind the parameters
pub record CatchFits (p : Program) (t : Places) (w : World) (block : ℕ) (g : Goal) : Type 0 where
  pub takes : List ℕ
  pub handler : Bool
  pub head : p.has_handler g.block ≡ Some handler
  pub there : t.before g.block 0 ≡ Some (takes ++ handler_class p.tables handler)
  pub values : ValuesFit (type_graph p.tables) w takes g.values
  pub results : t.results g.block ≡ t.results block

abbrev pub HandlerFits : Program → Places → World → ℕ → Option Goal → Type 0
HandlerFits p t w block None = Unit {0}
HandlerFits p t w block (Some g) = CatchFits p t w block g

-- to its destination, or to the next place, whose variables have these types
abbrev pub OnwardFits : Program → Places → World → ℕ → ℕ → List ℕ → Option Goal → Type 0
OnwardFits p t w block at ks None = t.before block (suc at) ≡ Some ks
OnwardFits p t w block at ks (Some g) = GoalFits p t w block g
