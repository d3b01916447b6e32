-- Of blocks and their lists of members, one move at a time.
use Rattle.std.proofs.Common.{◌≡◌, ℕ, zero, suc, ◌+◌, ◌<◌, List, [], ◌∷◌, length, map, refl, sym, ◌∙◌, ap, subst, arith, inl, inr}
use Rattle.std.proofs.Math.ListN.{set, length-set}
use Rattle.std.specs.Prelude.{slice_index}
use Rattle.std.proofs.lemmas.Bool.{cases_eq}
use Rattle.std.proofs.lemmas.List.{get_or-set_same, get_or-set_other, get_or-map}
use Rattle.mu_types.specs.Rows.{Holds, added}
use Rattle.type_classes.proofs.RowLemmas.{added_kept, added_there}
use Rattle.type_classes.specs.Blocks.{Listed, HaveMoved, OthersStay}

pub moved_more : (was touched target block : List ℕ) (i x to : ℕ) → x < length block → slice_index touched i ≡ x → to ≡ slice_index target (slice_index was x) → HaveMoved was touched target i block → HaveMoved was touched target (i + 1) (set block x to)
moved_more was touched target block i x to l e t h z k lk f = elim (cases_eq z x) [
  | inl q ↦ subst (λ w. slice_index (set block x to) w ≡ slice_index target (slice_index was w)) (sym q) (get_or-set_same block x to 0 l ∙ t)
  | inr n ↦ let lt : k < i = elim (cases_eq k i) [ inl s ↦ absurd (n (sym f ∙ (ap (λ w. slice_index touched w) s ∙ e))) | inr s ↦ omega arith ] in
      get_or-set_other block x z to 0 n ∙ h z k lt f
]

pub others_more : (was touched block : List ℕ) (i x to : ℕ) → slice_index touched i ≡ x → OthersStay was touched i block → OthersStay was touched (i + 1) (set block x to)
others_more was touched block i x to e h z n =
    let ne : z ≡ x → ⊥ = λ q. n i (omega arith) (e ∙ sym q) in
    get_or-set_other block x z to 0 ne ∙ h z (λ k l. n k (omega arith))

pub listed_more : (block : List ℕ) (members : List (List ℕ)) (x to : ℕ) → x < length block → to < length members → Listed block members → Listed (set block x to) (added members to x)
listed_more block members x to l m h z lz = elim (cases_eq z x) [
  | inl q ↦ subst (λ w. Holds (added members to x) (slice_index (set block x to) w) w) (sym q) (subst (λ b. Holds (added members to x) b x) (sym (get_or-set_same block x to 0 l)) (added_there members to x m))
  | inr n ↦ subst (λ b. Holds (added members to x) b z) (sym (get_or-set_other block x z to 0 n)) (added_kept members to x (slice_index block z) z m (h z (subst (λ w. z < w) (length-set block x to) lz)))
]

pub goal_at : (goals touched target was : List ℕ) (i : ℕ) → i < length touched → goals ≡ map (λ x. slice_index target (slice_index was x)) touched → slice_index goals i ≡ slice_index target (slice_index was (slice_index touched i))
goal_at goals touched target was i l e = ap (λ g. slice_index g i) e ∙ get_or-map (λ x. slice_index target (slice_index was x)) touched i 0 0 l

pub set_same : (xs : List ℕ) (i x : ℕ) → slice_index xs i ≡ x → xs ≡ set xs i x
set_same [] i x e = refl
set_same (y ∷ xs) zero x e = ap (λ z. z ∷ xs) e
set_same (y ∷ xs) (suc i) x e = ap (λ zs. y ∷ zs) (set_same xs i x e)
