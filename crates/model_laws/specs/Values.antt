-- What there is at a moment of a run, and values that fit their types, one by one.
use Rattle.std.specs.Prelude.{◌≡◌, ℕ, List, [], ◌∷◌, Option, Some, length, slice_get}
use Rattle.type_definitions.specs.declared.definition.TypeDef.{TypeDef}
use Rattle.mu_values.specs.declared.scalars.Scalar.TheVariants.{Place}
use Rattle.mu_values.specs.Slots.{TypedValues}
use Rattle.mu_values.specs.declared.cells.CellId.{CellId}
use Rattle.check_tables.specs.declared.tables.Tables.{Tables}
use Rattle.typed_heap.specs.Objects.{HeapObject}
use Rattle.typed_heap.specs.Fits.{World, ScalarFits, ValueFits, signature_classes}
use Rattle.typed_heap.specs.Places.{with_some}
use Rattle.frames.specs.Activations.{Value}
use Rattle.mu_model.specs.Types.{type_graph}
use Rattle.mu_model.specs.Configuration.{Configuration}

-- what there is in a configuration: its objects, the functions of the bundle, and how many stacks and threads were made
abbrev pub world : Tables → Configuration → World
world p c = record { objects = c.objects; signatures = signature_classes p; stacks = length c.stacks; threads = length c.threads }

-- values of some classes, one each
abbrev pub ValuesFit : List TypeDef → World → List ℕ → List Value → Type 0
ValuesFit graph w [] [] = Unit {0}
ValuesFit graph w [] (v ∷ vs) = ⊥
ValuesFit graph w (c ∷ cs) [] = ⊥
ValuesFit graph w (c ∷ cs) (v ∷ vs) = ValueFits graph w c v × ValuesFit graph w cs vs

-- values with their types: as many types as values, and each value fits its type
abbrev pub TypedFit : List TypeDef → World → TypedValues → Type 0
TypedFit graph w vs = ValuesFit graph w vs.types vs.values

-- the class of a cell's leaf; none where the cell is not there
abbrev pub leaf_at : List HeapObject → CellId → Option ℕ
leaf_at os cell = with_some (slice_get os cell.object) (λ o. slice_get o.leaves cell.at)

-- what there is at every moment of a run of a bundle: its functions, and behind each global an object, whose place has the global's type
pub record HasGlobals (p : Tables) (w : World) : Type 0 where
  pub functions : w.signatures ≡ signature_classes p
  pub places : (n c : ℕ) → slice_get p.global_cells n ≡ Some c → ScalarFits (type_graph p) w c (Place n 0)
