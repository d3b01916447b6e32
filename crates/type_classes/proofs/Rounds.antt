-- Of the least that is alike to a depth, and of the first that agrees.
use Rattle.std.specs.Prelude.{◌≡◌, ℕ, ◌<◌, ◌≤◌, true, List, length, slice_index, slice_get, suc, refl}
use Rattle.std.proofs.Common.{sym, ◌∙◌, subst, arith, inl, inr}
use Rattle.std.proofs.lemmas.Bool.{false≢true, eq-eqb, eqb-true, cases_lt}
use Rattle.type_definitions.specs.declared.definition.TypeDef.{TypeDef}
use Rattle.type_definitions.specs.Same.{alike, agree_at, IsGraph}
use Rattle.type_definitions.specs.Lemmas.Depth.{meets, from_meets, meets_more, alike_same, alike_back, alike_over}
use Rattle.type_definitions.specs.Partition.{alike_by}
use Rattle.type_classes.specs.Rounds.{IsLeastTo, IsFirstTo}

pub agree_alike : (g : List TypeDef) → IsGraph g → (p : List ℕ) (k : ℕ) → IsLeastTo g k p → (a b : ℕ) → agree_at (alike_by p) (slice_get g a) (slice_get g b) ≡ true → alike g (suc k) a b ≡ true
unfolding alike
agree_alike g i p k h a b e = from_meets g (alike g k) a b (meets_more g i (alike_by p) (alike g k) (λ u v lu lv t.
    let q : slice_index p u ≡ slice_index p v = eqb-true (slice_index p u) (slice_index p v) t in
    alike_over g k u (slice_index p v) v (alike_back g k (slice_index p v) u (subst (λ w. alike g k w u ≡ true) q (h u lu).1)) (h v lv).1) a b (meets g (alike_by p) a b e))

pub alike_agree : (g : List TypeDef) → IsGraph g → (p : List ℕ) (k : ℕ) → IsLeastTo g k p → (a b : ℕ) → alike g (suc k) a b ≡ true → agree_at (alike_by p) (slice_get g a) (slice_get g b) ≡ true
unfolding alike
alike_agree g i p k h a b e = from_meets g (alike_by p) a b (meets_more g i (alike g k) (alike_by p) (λ u v lu lv t.
    let hu = h u lu in
    let hv = h v lv in
    let up = hu.0 in
    let vp = hv.0 in
    let one : slice_index p u ≤ slice_index p v = hu.2 (slice_index p v) (omega arith) (alike_over g k (slice_index p v) v u hv.1 (alike_back g k u v t)) in
    let two : slice_index p v ≤ slice_index p u = hv.2 (slice_index p u) (omega arith) (alike_over g k (slice_index p u) u v hu.1 t) in
    eq-eqb (slice_index p u) (slice_index p v) (omega arith)) a b (meets g (alike g k) a b e))

pub round_is : (g : List TypeDef) → IsGraph g → (p q : List ℕ) → ((x : ℕ) → x < length g → IsFirstTo g p x (slice_index q x)) → (k : ℕ) → IsLeastTo g k p → IsLeastTo g (suc k) q
round_is g i p q f k h x l =
    let w = f x l in
    let low = w.0 in (
      w.0,
      elim (cases_lt (slice_index q x) x) [
        | inl m ↦ agree_alike g i p k h (slice_index q x) x (w.1 m)
        | inr m ↦ let e : slice_index q x ≡ x = omega arith in subst (λ y. alike g (suc k) y x ≡ true) (sym e) (alike_same g i (suc k) x l)
      ],
      λ b lb t. elim (cases_lt b (slice_index q x)) [
        | inl m ↦ absurd (false≢true (sym (w.2 b m) ∙ alike_agree g i p k h b x t))
        | inr m ↦ m
      ],
    )

pub least_to_none : (g : List TypeDef) (p : List ℕ) → ((x : ℕ) → x < length g → slice_index p x ≡ 0) → IsLeastTo g 0 p
unfolding alike
least_to_none g p h x l = let e = h x l in ((omega arith), refl, λ b lb t. omega arith)
