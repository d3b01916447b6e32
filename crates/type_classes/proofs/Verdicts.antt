-- What one test of a type answers.
use Rattle.std.proofs.Common.{◌≡◌, ℕ, true, false, List, Some, refl, length, min, ◌<◌, ◌≤◌, arith}
use Rattle.std.specs.Prelude.{nat_le}
use Rattle.std.proofs.lemmas.Int.{clamps}
use Rattle.std.proofs.lemmas.Bool.{lt-leb}
use Rattle.demands.specs.declared.fault.Fault.TheVariants.{At}
use Rattle.demands.specs.Demands.{first_unmet}
use Rattle.type_definitions.specs.declared.definition.TypeDef.{TypeDef}
use Rattle.std.specs.List.{All}
use Rattle.std.proofs.Common.{get_or, subst, sym}
use Rattle.std.specs.Prelude.{slice_index}
use Rattle.type_definitions.specs.Parts.{parts, parts_at, contains_itself}
use Rattle.type_definitions.specs.Ranks.{Descends}
use Rattle.type_definitions.specs.Lemmas.Ranks.{free_is_finite}
use Rattle.type_classes.proofs.Firsts.{there}
use Rattle.type_definitions.specs.Leaves.{leaves}
use Rattle.mu_types.specs.declared.limits.TheConstants.{MOST_LEAVES}
use Rattle.type_classes.specs.declared.counting.TheConstants.{CAP}
use Rattle.mu_types.specs.declared.faults.TypeKind.TheVariants.{EndlessType, TooManyLeaves}
use Rattle.mu_types.specs.TypeDemands.{endless_type, too_many_leaves, place}

pub endless_some : (g : List TypeDef) (places : List (List ℕ)) (t : ℕ) → contains_itself g t ≡ true → first_unmet (endless_type g places t) ≡ Some (At EndlessType (place places t 0))
endless_some g places t h = rw h refl

pub many_some : (g : List TypeDef) (places : List (List ℕ)) (t : ℕ) → nat_le (length (leaves g t)) MOST_LEAVES ≡ false → first_unmet (too_many_leaves g places t) ≡ Some (At TooManyLeaves (place places t 0))
many_some g places t h = rw h refl

pub over_cap : (n count : ℕ) → count ≡ min CAP n → MOST_LEAVES < count → nat_le n MOST_LEAVES ≡ false
over_cap n count e l = lt-leb n MOST_LEAVES (omega (arith, clamps, e, l))

pub free_finite : (g : List TypeDef) (rank : List ℕ) (t : ℕ) (d : TypeDef) (top : ℕ) → Descends g rank → t < length g → d ≡ get_or g t d → top ≡ slice_index rank t → All (λ p. slice_index rank p < top) (parts d) → contains_itself g t ≡ false
free_finite g rank t d top h l e q f = free_is_finite g rank h t (subst (λ o. All (λ p. slice_index rank p < slice_index rank t) (parts_at o)) (sym (there g t d l e)) (subst (λ w. All (λ p. slice_index rank p < w) (parts d)) q f))
