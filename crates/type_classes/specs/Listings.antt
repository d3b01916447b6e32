-- Lists of leaves, by type and by class.
-- Contracts inside the crate cite this; no public one does, so no reader of those needs it.
use Rattle.std.proofs.Common.{◌≡◌, ℕ, ◌<◌, Bool, true, List, [], length, map}
use Rattle.std.specs.Prelude.{slice_index, slice_index_or}
use Rattle.type_definitions.specs.declared.definition.TypeDef.{TypeDef}
use Rattle.type_definitions.specs.Class.{class_of}
use Rattle.type_definitions.specs.Leaves.{leaves, leaves_to}
use Rattle.type_classes.specs.Walks.{is_marked}

-- the row of a type, where each type has the number of a row
abbrev pub row_by : List (List ℕ) → List ℕ → ℕ → List ℕ
row_by rows number p = slice_index_or rows (slice_index number p) []

abbrev pub IsIdentity : List ℕ → ℕ → Type 0
IsIdentity number n = (x : ℕ) → x < n → slice_index number x ≡ x

-- each row has the classes of the leaves of its type to a depth
abbrev pub Lists : List TypeDef → ℕ → List (List ℕ) → Type 0
Lists g k rows = (x : ℕ) → x < length g → slice_index_or rows x [] ≡ map (class_of g) (leaves_to g k x)

-- the rows of the classes that are done have the classes of their leaves
abbrev pub RowsDone : List TypeDef → List (List ℕ) → List Bool → Type 0
RowsDone g rows done = (c : ℕ) → c < length g → is_marked done c ≡ true → slice_index_or rows c [] ≡ map (class_of g) (leaves g c)

-- the classes of the types of the first ranks are done
abbrev pub DoneTo : List TypeDef → List ℕ → List ℕ → List Bool → ℕ → Type 0
DoneTo g class rank done i = (a : ℕ) → a < length g → slice_index rank a < i → is_marked done (slice_index class a) ≡ true
