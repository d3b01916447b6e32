-- What the operands of an access fit, of a wait and of a wake.
use Rattle.std.specs.Prelude.{◌≡◌, ◌<◌, ℕ, List, [], ◌∷◌, Some, IsSomeAnd, length, slice_get}
use Rattle.type_definitions.specs.declared.definition.TypeDef.{TypeDef}
use Rattle.mu_values.specs.declared.scalars.Scalar.{Scalar}
use Rattle.mu_values.specs.declared.cells.CellId.{CellId}
use Rattle.check_tables.specs.declared.tables.Tables.{Tables}
use Rattle.check_tables.specs.Types.{int1, int32}
use Rattle.typed_heap.specs.Objects.{leaf_classes}
use Rattle.typed_heap.specs.Fits.{World, ScalarFits}
use Rattle.mu_model.specs.Types.{type_graph}
use Rattle.mu_model.specs.Acts.{Access, Loads, Stores, Compares, Updates, Program}
use Rattle.mu_model.specs.Accesses.{updated}
use Rattle.model_laws.specs.Orders.{OrdersFit}
use Rattle.model_laws.specs.Places.{Places}

-- its results have these types
abbrev pub Gives : Places → ℕ → ℕ → List ℕ → Type 0
Gives t block at cs = t.gives block at ≡ Some cs

-- a cell whose leaf has the class, or the end of an object
abbrev pub CellFits : World → CellId → ℕ → Type 0
CellFits w cell c = IsSomeAnd (slice_get w.objects cell.object) (λ o. cell.at < length o.leaves → slice_get o.leaves cell.at ≡ Some c)

-- what is written is of the class; an update makes a scalar of the class of each
abbrev pub AccessOf : List TypeDef → World → ℕ → Access → Type 0
AccessOf graph w c (Loads o) = Unit {0}
AccessOf graph w c (Stores o v) = ScalarFits graph w c v
AccessOf graph w c (Compares weak o f expected v) = ScalarFits graph w c v
AccessOf graph w c (Updates o op v) = (s : Scalar) → ScalarFits graph w c s → IsSomeAnd (updated op s v) (ScalarFits graph w c)

abbrev pub access_gives : Tables → ℕ → Access → List ℕ
access_gives p c (Loads o) = c ∷ []
access_gives p c (Stores o v) = []
access_gives p c (Compares weak o f expected v) = c ∷ int1 p.types ∷ []
access_gives p c (Updates o op v) = c ∷ []

pub record AccessFits (p : Program) (t : Places) (w : World) (block at : ℕ) (a : Access) (cell : CellId) : Type 0 where
  pub class : ℕ
  pub leaf : leaf_classes (type_graph p.tables) class ≡ class ∷ []
  pub there : CellFits w cell class
  pub access : AccessOf (type_graph p.tables) w class a
  pub orders : OrdersFit a
  pub gives : Gives t block at (access_gives p.tables class a)

-- a wait or a wake
pub record FutexFits (p : Program) (t : Places) (w : World) (block at : ℕ) (cell : CellId) : Type 0 where
  pub class : ℕ
  pub leaf : leaf_classes (type_graph p.tables) class ≡ class ∷ []
  pub there : CellFits w cell class
  pub gives : Gives t block at (int32 p.tables.types ∷ [])
