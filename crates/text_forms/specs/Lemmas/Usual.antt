-- What the two usual lists derive.
use Rattle.std.proofs.Common.{◌≡◌, ℕ, suc, ◌+◌, ◌<◌, ◌≤◌, Bool, true, false, List, [], ◌∷◌, ◌++◌, length, refl, sym, ap, subst, ◌∙◌, arith, append_assoc, inl, inr}
use Rattle.std.specs.Prelude.{nat_le, ◌↔◌}
use Rattle.std.proofs.lemmas.Bool.{lt-leb, le-leb, cases_lt}
use Rattle.text_forms.specs.declared.symbol.Symbol.{Symbol}
use Rattle.text_forms.specs.Tokens.{Tok, has}
use Rattle.text_forms.specs.Forms.{Form, until, within, up_to}
use Rattle.text_forms.specs.Derives.{Each, Elements, Derives}
use Rattle.text_forms.specs.Limits.{unlimited}
use Rattle.text_forms.specs.Laws.{UntilIsEach, UpToIsShort, UpToUnlimited}

-- elements of a form that no state changes, and then the closing token
module _ {A S F : Type 0} (flags : S → F) (step : S → A → S) (P : F → List Tok → A → Type 0) (R : List Tok → A → Type 0) (xs : List Symbol) where
  to_each : (t : Tok) → ((y : F) (u : List Tok) (a : A) → P y u a → R u a) → (items : List A) (s : S) (ts : List Tok) → Elements flags step P (λ _ v. (v ≡ t ∷ []) × (has xs t.symbol ≡ true)) s ts items
      → (u : List Tok) × (ts ≡ u ++ t ∷ []) × (has xs t.symbol ≡ true) × Each R u items
  to_each t h [] s ts d = ([], d.0, d.1, refl)
  to_each t h (x ∷ items) s ts (u, v, p, d, e) =
      let (w, q, k, each) = to_each t h items (step s x) v e in
      (u ++ w, p ∙ ap (λ (l : List Tok). u ++ l) q ∙ sym (append_assoc u w (t ∷ [])), k, (u, w, refl, h (flags s) u x d, each))

  from_each : (t : Tok) → ((y : F) (u : List Tok) (a : A) → R u a → P y u a) → has xs t.symbol ≡ true → (items : List A) (s : S) (u ts : List Tok) → ts ≡ u ++ t ∷ [] → Each R u items → Elements flags step P (λ _ v. (v ≡ t ∷ []) × (has xs t.symbol ≡ true)) s ts items
  from_each t h k [] s u ts p e = (p ∙ ap (λ (l : List Tok). l ++ t ∷ []) e, k)
  from_each t h k (x ∷ items) s u ts p (v, w, q, d, e) =
      (v, w ++ t ∷ [], p ∙ ap (λ (l : List Tok). l ++ t ∷ []) q ∙ append_assoc v w (t ∷ []), h (flags s) v x d, from_each t h k items (step s x) w (w ++ t ∷ []) refl e)

pub until_is_each : {A : Type 0} (f : Form A) → UntilIsEach f
until_is_each {A} f xs ts items = (there, back)
  where
    there : Derives (until xs f) ts items → (u : List Tok) × (t : Tok) × (ts ≡ u ++ t ∷ []) × (has xs t.symbol ≡ true) × Each (Derives f) u items
    there (x, d, p) =
        let (u, q, k, each) = to_each (λ (_ : Unit {0}). tt {0}) (λ s (_ : A). s) (λ _. Derives f) (Derives f) xs x.1 (λ _ u a e. e) x.0 (tt {0}) ts d in
        (u, x.1, q, k, subst (λ (l : List A). Each (Derives f) u l) (sym p) each)

    back : (u : List Tok) × (t : Tok) × (ts ≡ u ++ t ∷ []) × (has xs t.symbol ≡ true) × Each (Derives f) u items → Derives (until xs f) ts items
    back (u, t, q, k, each) = ((items, t), from_each (λ (_ : Unit {0}). tt {0}) (λ s (_ : A). s) (λ _. Derives f) (Derives f) xs t (λ _ u a e. e) k items (tt {0}) u ts q each, refl)

-- ---- at most n

-- elements of one form, whatever the states
elements_change : {A S S' F F' : Type 0} (flags : S → F) (flags' : S' → F') (step : S → A → S) (step' : S' → A → S') (P : F → List Tok → A → Type 0) (P' : F' → List Tok → A → Type 0) (Q : List Tok → Type 0)
    → ((y : F) (z : F') (u : List Tok) (a : A) → P y u a → P' z u a) → (items : List A) (s : S) (s' : S') (ts : List Tok) → Elements flags step P (λ _ v. Q v) s ts items → Elements flags' step' P' (λ _ v. Q v) s' ts items
elements_change flags flags' step step' P P' Q h [] s s' ts d = d
elements_change flags flags' step step' P P' Q h (x ∷ items) s s' ts (u, v, p, d, e) =
    (u, v, p, h (flags s) (flags' s') u x d, elements_change flags flags' step step' P P' Q h items (step s x) (step' s' x) v e)

module _ {A : Type 0} (f : Form A) (n : ℕ) (Q : List Tok → Type 0) where
  within_derives : (k : ℕ) (u : List Tok) (a : A) → Derives (within f (nat_le n k)) u a → Derives f u a × (k < n)
  within_derives k u a d =
      elim (cases_lt k n) [
        | inl lt ↦ (subst (λ (b : Bool). Derives (within f b) u a) (lt-leb n k lt) d, lt)
        | inr ge ↦ absurd (let none : Derives (within f true) u a = subst (λ (b : Bool). Derives (within f b) u a) (le-leb n k ge) d in none)
      ]

  to_short : (items : List A) (k : ℕ) (ts : List Tok) → k ≤ n → Elements (λ k. nat_le n k) (λ k (_ : A). suc k) (λ y. Derives (within f y)) (λ _ v. Q v) k ts items
      → Elements (λ (_ : Unit {0}). tt {0}) (λ s (_ : A). s) (λ _. Derives f) (λ _ v. Q v) (tt {0}) ts items × (length items + k ≤ n)
  to_short [] k ts le d = (d, omega arith)
  to_short (x ∷ items) k ts le (u, v, p, d, e) =
      let w = within_derives k u x d in
      let lt : k < n = w.1 in
      let r = to_short items (suc k) v (omega arith) e in
      let short : length items + suc k ≤ n = r.1 in
      ((u, v, p, w.0, r.0), omega arith)

  from_short : (items : List A) (k : ℕ) (ts : List Tok) → length items + k ≤ n → Elements (λ (_ : Unit {0}). tt {0}) (λ s (_ : A). s) (λ _. Derives f) (λ _ v. Q v) (tt {0}) ts items
      → Elements (λ k. nat_le n k) (λ k (_ : A). suc k) (λ y. Derives (within f y)) (λ _ v. Q v) k ts items
  from_short [] k ts short d = d
  from_short (x ∷ items) k ts short (u, v, p, d, e) =
      (u, v, p, subst (λ (b : Bool). Derives (within f b) u x) (sym (lt-leb n k (omega arith))) d, from_short items (suc k) v (omega arith) e)

pub up_to_is_short : {A : Type 0} (f : Form A) → UpToIsShort f
up_to_is_short {A} f n xs ts items = (there, back)
  where
    there : Derives (up_to n xs f) ts items → Derives (until xs f) ts items × (length items ≤ n)
    there (x, d, p) =
        let r = to_short f n (λ v. (v ≡ x.1 ∷ []) × (has xs x.1.symbol ≡ true)) x.0 0 ts (omega arith) d in
        let short : length x.0 + 0 ≤ n = r.1 in
        ((x, r.0, p), subst (λ (l : List A). length l ≤ n) (sym p) (omega arith))

    back : Derives (until xs f) ts items × (length items ≤ n) → Derives (up_to n xs f) ts items
    back ((x, d, p), short) =
        let same : length x.0 ≤ n = subst (λ (l : List A). length l ≤ n) p short in
        (x, from_short f n (λ v. (v ≡ x.1 ∷ []) × (has xs x.1.symbol ≡ true)) x.0 0 ts (omega arith) d, p)

unlimited_element : {A : Type 0} (f : Form A) (y : Bool) (u : List Tok) (a : A) → Derives (unlimited (within f y)) u a ↔ Derives (unlimited f) u a
unlimited_element f false u a = (λ d. d, λ d. d)
unlimited_element f true u a = (λ d. d, λ d. d)

pub up_to_unlimited : {A : Type 0} (f : Form A) → UpToUnlimited f
up_to_unlimited {A} f n xs ts items = (there, back)
  where
    there : Derives (unlimited (up_to n xs f)) ts items → Derives (until xs (unlimited f)) ts items
    there (x, d, p) = (
      x,
      elements_change (λ k. nat_le n k) (λ (_ : Unit {0}). tt {0}) (λ k (_ : A). suc k) (λ s (_ : A). s) (λ y. Derives (unlimited (within f y))) (λ _. Derives (unlimited f)) (λ v. (v ≡ x.1 ∷ []) × (has xs x.1.symbol ≡ true))
          (λ y z u a e. (unlimited_element f y u a).0 e) x.0 0 (tt {0}) ts d,
      p,
    )

    back : Derives (until xs (unlimited f)) ts items → Derives (unlimited (up_to n xs f)) ts items
    back (x, d, p) = (
      x,
      elements_change (λ (_ : Unit {0}). tt {0}) (λ k. nat_le n k) (λ s (_ : A). s) (λ k (_ : A). suc k) (λ _. Derives (unlimited f)) (λ y. Derives (unlimited (within f y))) (λ v. (v ≡ x.1 ∷ []) × (has xs x.1.symbol ≡ true))
          (λ z y u a e. (unlimited_element f y u a).1 e) x.0 (tt {0}) 0 ts d,
      p,
    )
