-- Of rows by type and rows by class.
use Rattle.std.proofs.Common.{ℕ, ◌<◌, List, length, ◌∙◌, arith}
use Rattle.std.specs.Prelude.{slice_index}
use Rattle.type_definitions.specs.declared.definition.TypeDef.{TypeDef}
use Rattle.type_definitions.specs.Same.{IsGraph}
use Rattle.type_definitions.specs.Partition.{IsLeast}
use Rattle.type_definitions.specs.Lemmas.Respect.{respected}
use Rattle.mu_types.specs.Held.{RowsHold}
use Rattle.type_classes.specs.Listings.{Lists}

-- rows by type hold what is asked by class
pub by_class : (g : List TypeDef) → IsGraph g → (class : List ℕ) → IsLeast g class → (rows : List (List ℕ)) → Lists g (length g) rows → RowsHold g class rows
by_class g i class l rows h t lt =
    let c = l t lt in
    let low = c.0 in
    let lc : slice_index class t < length g = omega arith in
    h (slice_index class t) lc ∙ respected g i (slice_index class t) t lc lt c.1
