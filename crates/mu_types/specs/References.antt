-- Where the references to a definition stand.
-- The contract of `Classes::held` cites this, and no other public one.
use Rattle.std.proofs.Common.{◌≡◌, ℕ, ◌+◌, ◌<◌, true, false, List, Some, slice_get, get_or}
use Rattle.std.specs.Prelude.{slice_index}
use Rattle.type_definitions.specs.declared.definition.TypeDef.{TypeDef}
use Rattle.type_definitions.specs.declared.definition.TypeDef.TheVariants.{Int, Void, Ref, Iref, FuncRef, StackRef, ThreadRef}
use Rattle.mu_types.specs.Implied.{is_signature}

-- from id i on stand the references to t
pub record ReferTo (all : List TypeDef) (t i : ℕ) : Type 0 where
  pub to_type : (d : TypeDef) → is_signature (get_or all t d) ≡ false → (slice_get all i ≡ Some (Ref t)) × (slice_get all (i + 1) ≡ Some (Iref t))
  pub to_signature : (d : TypeDef) → is_signature (get_or all t d) ≡ true → slice_get all i ≡ Some (FuncRef t)

abbrev pub Referred : List TypeDef → List ℕ → ℕ → Type 0
Referred all first n = (t : ℕ) → t < n → ReferTo all t (slice_index first t)

-- the implied types without arguments stand right after the written definitions
pub record IsHeaded (all : List TypeDef) (n : ℕ) : Type 0 where
  pub nothing : slice_get all n ≡ Some Void
  pub bit : slice_get all (n + 1) ≡ Some (Int 1)
  pub word : slice_get all (n + 2) ≡ Some (Int 32)
  pub stack : slice_get all (n + 3) ≡ Some StackRef
  pub thread : slice_get all (n + 4) ≡ Some ThreadRef
