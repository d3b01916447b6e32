-- What holds of the types that every bundle has.
use Rattle.std.specs.Prelude.{◌≡◌, ℕ, List, length, Some, slice_get}
use Rattle.type_definitions.specs.declared.definition.TypeDef.{TypeDef}
use Rattle.type_definitions.specs.declared.definition.TypeDef.TheVariants.{Int, Void, Ref, StackRef, ThreadRef}
use Rattle.type_definitions.specs.Same.{IsGraph}
use Rattle.mu_types.specs.Graph.{Table}
use Rattle.mu_types.specs.Implied.{complete}
use Rattle.check_tables.specs.Types.{int1, int32, stackref, threadref, ref_void}

-- the classes of the types that every bundle has are of types with these definitions
pub record AreDefined (p : Table) : Type 0 where
  pub int1 : slice_get p.definitions (int1 p) ≡ Some (Int 1)
  pub int32 : slice_get p.definitions (int32 p) ≡ Some (Int 32)
  pub stackref : slice_get p.definitions (stackref p) ≡ Some StackRef
  pub threadref : slice_get p.definitions (threadref p) ≡ Some ThreadRef
  pub ref_void : (t : ℕ) × (slice_get p.definitions (ref_void p) ≡ Some (Ref t)) × (slice_get p.definitions t ≡ Some Void)

abbrev pub ImpliedTypesAreDefined : Type 0
ImpliedTypesAreDefined = (written : List TypeDef) → IsGraph (complete written) → AreDefined (record { definitions = complete written; written = length written })
