-- Inner: what a partition of the types can be: one that keeps the same types together, one whose members agree with their least.
-- Inner contracts of the crate that finds the classes cite this; no public one does, so no reader of those needs it.
use Rattle.std.proofs.Common.{◌≡◌, ℕ, ◌<◌, ◌≤◌, ◌==◌, Bool, true, List, length, Option, Some, None, slice_get}
use Rattle.std.specs.Prelude.{slice_index}
use Rattle.type_definitions.specs.declared.definition.TypeDef.{TypeDef}
use Rattle.type_definitions.specs.Definition.{arguments}
use Rattle.type_definitions.specs.Same.{agree_at, same}

abbrev pub arg_of : Option TypeDef → ℕ → Option ℕ
arg_of None k = None
arg_of (Some d) k = slice_get (arguments d) k

-- the argument at place k of x
abbrev pub arg : List TypeDef → ℕ → ℕ → Option ℕ
arg g x k = arg_of (slice_get g x) k

-- the same types are together
abbrev pub Keeps : List TypeDef → List ℕ → Type 0
Keeps g block = (a b : ℕ) → a < length g → b < length g → same g a b ≡ true → slice_index block a ≡ slice_index block b

abbrev pub alike_by : List ℕ → ℕ → ℕ → Bool
alike_by p i j = slice_index p i == slice_index p j

-- each agrees with the one that stands for it
abbrev pub IsStable : List TypeDef → List ℕ → Type 0
IsStable g p = (x : ℕ) → x < length g → agree_at (alike_by p) (slice_get g x) (slice_get g (slice_index p x)) ≡ true

-- the least that is the same type
abbrev pub IsLeast : List TypeDef → List ℕ → Type 0
IsLeast g p = (x : ℕ) → x < length g → (slice_index p x ≤ x) × (same g (slice_index p x) x ≡ true) × ((b : ℕ) → b < length g → same g b x ≡ true → slice_index p x ≤ b)
