-- Of numbers of leaves, one level from the one before.
use Rattle.std.proofs.Common.{◌≡◌, ℕ, suc, ◌<◌, ◌≤◌, List, length, Some, None, slice_get, min, sym, ◌∙◌, ap, arith, get_or, inl, inr, ◌⊎◌}
use Rattle.std.specs.Prelude.{slice_index}
use Rattle.std.proofs.lemmas.List.{get_or_past}
use Rattle.std.proofs.lemmas.Int.{clamps}
use Rattle.std.proofs.lemmas.Option.{slice_get_cases}
use Rattle.type_definitions.specs.declared.definition.TypeDef.{TypeDef}
use Rattle.type_definitions.specs.Parts.{parts}
use Rattle.type_definitions.specs.Leaves.{leaves_to, leaves_at}
use Rattle.type_definitions.specs.Counts.{count_by}
use Rattle.type_definitions.specs.Lemmas.Counts.{counted, capped_count}
use Rattle.type_classes.specs.Levels.{Counts}

pub deeper_is : (g : List TypeDef) (k cap : ℕ) (counts next : List ℕ) → length next ≡ length g
    → ((x : ℕ) (d : TypeDef) → x < length g → slice_get g x ≡ Some d → slice_index next x ≡ min cap (count_by (λ p. slice_index counts p) d))
    → Counts g k cap counts → Counts g (suc k) cap next
unfolding leaves_to
deeper_is g k cap counts next e f h x = go (slice_get_cases g x).1
  where
    go : ((d : TypeDef) × (x < length g) × (slice_get g x ≡ Some d) × (get_or g x d ≡ d)) ⊎ ((length g ≤ x) × (slice_get g x ≡ None)) → slice_index next x ≡ min cap (length (leaves_to g (suc k) x))
    go (inl (d, l, s, q)) =
        f x d l s ∙ (capped_count cap (λ p. slice_index counts p) (λ p. length (leaves_to g k p)) d (λ j y m. h (get_or (parts d) j y))
        ∙ (ap (λ n. min cap n) (sym (counted (leaves_to g k) x d)) ∙ sym (ap (λ o. min cap (length (leaves_at (leaves_to g k) x o))) s)))
    go (inr (l, s)) = get_or_past next x 0 (omega (arith, e, l)) ∙ (none_min ∙ sym (ap (λ o. min cap (length (leaves_at (leaves_to g k) x o))) s))
      where
        none_min : 0 ≡ min cap 0
        none_min = omega (arith, clamps)

pub none_counted : (g : List TypeDef) (cap : ℕ) (counts : List ℕ) → ((x : ℕ) → slice_index counts x ≡ 0) → Counts g 0 cap counts
unfolding leaves_to
none_counted g cap counts h x = h x ∙ none_min
  where
    none_min : 0 ≡ min cap 0
    none_min = omega (arith, clamps)
