-- What leads into a block, and what is closed under the same type.
-- Contracts inside the crate cite this; no public one does, so no reader of those needs it.
use Rattle.std.proofs.Common.{◌≡◌, ℕ, ◌<◌, List, length, Some, true}
use Rattle.std.specs.Prelude.{slice_index}
use Rattle.std.specs.List.{Contains}
use Rattle.type_definitions.specs.declared.definition.TypeDef.{TypeDef}
use Rattle.type_definitions.specs.Same.{same}
use Rattle.type_definitions.specs.Partition.{arg}
use Rattle.type_classes.specs.declared.edges.Edge.{Edge}
use Rattle.type_classes.specs.Edges.{edge_of}
use Rattle.mu_types.specs.Rows.{Holds}

-- the argument at k of x is in the block s
abbrev pub LeadsTo : List TypeDef → List ℕ → ℕ → ℕ → ℕ → Type 0
LeadsTo g block s x k = (y : ℕ) × (arg g x k ≡ Some y) × (slice_index block y ≡ s)

-- a list holds with a type those that are the same
abbrev pub IsClosed : List TypeDef → List ℕ → Type 0
IsClosed g xs = (a b : ℕ) → a < length g → b < length g → same g a b ≡ true → Contains xs a → Contains xs b

abbrev pub AreClosed : List TypeDef → List (List ℕ) → Type 0
AreClosed g rows = (k a b : ℕ) → a < length g → b < length g → same g a b ≡ true → Holds rows k a → Holds rows k b

-- each argument is known where it leads
abbrev pub IsBackward : List TypeDef → List (List Edge) → Type 0
IsBackward g preds = (x k y : ℕ) → arg g x k ≡ Some y → Holds preds y (edge_of k x)

-- what is known to lead to a type is an argument that does
abbrev pub IsForward : List TypeDef → List (List Edge) → Type 0
IsForward g preds = (y : ℕ) (e : Edge) → Holds preds y e → arg g e.from e.place ≡ Some y
