-- What holds of the numbers of a list, and of one more at its end.
use Rattle.std.proofs.Common.{◌≡◌, ℕ, ◌+◌, ◌<◌, List, [], ◌∷◌, ◌++◌, length, sym, ◌∙◌, ap, subst, arith, inl, inr, Some, Option}
use Rattle.std.specs.Prelude.{slice_index_or, Vec}
use Rattle.std.specs.Global.{Global}
use Rattle.mu_types.specs.Rows.{lists}
use Rattle.type_classes.proofs.RowLemmas.{length-lists}
use Rattle.std.specs.Prelude.{slice_index}
use Rattle.std.proofs.lemmas.Bool.{cases_lt}
use Rattle.std.proofs.lemmas.List.{get_or_append_left, get_or_push, map-append}

pub pushed_or : {X : Type 0} (P : ℕ → X → Type 0) (z : X) (xs ys : List X) (n : ℕ) (v : X) → length xs ≡ n → ys ≡ xs ++ v ∷ [] → ((x : ℕ) → x < n → P x (slice_index_or xs x z)) → P n v
    → (x : ℕ) → x < n + 1 → P x (slice_index_or ys x z)
pushed_or {X} P z xs ys n v e f h p x l = elim (cases_lt x n) [
  | inl m ↦ subst (P x) (sym (ap (λ (zs : List X). slice_index_or zs x z) f ∙ get_or_append_left xs (v ∷ []) z x (omega (arith, e, m)))) (h x m)
  | inr m ↦ let s : x ≡ n = omega arith in subst (λ w. P w (slice_index_or ys w z)) (sym s) (subst (P n) (sym (ap (λ (zs : List X). slice_index_or zs n z) f ∙ get_or_push xs v z n e)) p)
]

pub pushed : (P : ℕ → ℕ → Type 0) (xs ys : List ℕ) (n v : ℕ) → length xs ≡ n → ys ≡ xs ++ v ∷ [] → ((x : ℕ) → x < n → P x (slice_index xs x)) → P n v → (x : ℕ) → x < n + 1 → P x (slice_index ys x)
pushed P = pushed_or P 0

pub one_some : {X : Type 0} (o : Option X) (x y : X) → o ≡ Some x → o ≡ Some y → x ≡ y
one_some o x y p q = cc

pub pushed_row : (P : ℕ → List ℕ → Type 0) (rows more : List (Vec ℕ Global)) (n : ℕ) (v : Vec ℕ Global) → length rows ≡ n → more ≡ rows ++ v ∷ []
    → ((x : ℕ) → x < n → P x (slice_index_or (lists rows) x [])) → P n v.items → (x : ℕ) → x < n + 1 → P x (slice_index_or (lists more) x [])
pushed_row P rows more n v e f h p x l =
    let q : lists more ≡ lists rows ++ v.items ∷ [] = ap (λ (r : List (Vec ℕ Global)). lists r) f ∙ map-append (λ (u : Vec ℕ Global). u.items) rows (v ∷ []) in
    elim (cases_lt x n) [
      | inl m ↦ subst (P x) (sym (ap (λ (zs : List (List ℕ)). slice_index_or zs x []) q ∙ get_or_append_left (lists rows) (v.items ∷ []) [] x (omega (arith, e, m, length-lists rows)))) (h x m)
      | inr m ↦ let s : x ≡ n = omega arith in subst (λ w. P w (slice_index_or (lists more) w [])) (sym s) (subst (P n) (sym (ap (λ (zs : List (List ℕ)). slice_index_or zs n []) q ∙ get_or_push (lists rows) v.items [] n (length-lists rows ∙ e))) p)
    ]
