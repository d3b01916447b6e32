-- What is appended piece by piece.
use Rattle.std.proofs.Common.{◌≡◌, ℕ, zero, suc, ◌+◌, ◌≤◌, List, [], ◌∷◌, ◌++◌, drop, length, Some, slice_get, codes, subst, refl, sym, ◌∙◌, ap, append_assoc, append-nil, arith}
use Rattle.std.specs.Prelude.{Result, Ok, Err, OnErr}
use Rattle.std.specs.List.{flat_map, zip}
use Rattle.mu_base.specs.Files.{IsPrefix}
use Rattle.mu_base.specs.Prefixes.{prefix_self, prefix_longer, prefix_again}
use Rattle.bundle_laws.specs.Lemmas.Bodies.{some_is}
use Rattle.run_texts.specs.EventTexts.{spaced}

-- ---- each behind a space

pub spaced_is : {A : Type 0} (text : A → List ℕ) (xs : List A) → spaced text xs ≡ flat_map (λ x. codes " " ++ text x) xs
spaced_is text [] = refl
spaced_is text (x ∷ xs) = ap (λ (more : List ℕ). codes " " ++ text x ++ more) (spaced_is text xs)

-- pairs of two lists, from the one with that number on
pairs_from : {A B : Type 0} (xs : List A) (ys : List B) (n : ℕ) (x : A) (y : B) → slice_get xs n ≡ Some x → slice_get ys n ≡ Some y → drop n (zip xs ys) ≡ (x, y) ∷ drop (n + 1) (zip xs ys)
pairs_from [] ys n x y e f = cc
pairs_from (a ∷ xs) [] n x y e f = cc
pairs_from (a ∷ xs) (b ∷ ys) zero x y e f = ap (λ z. (z, b) ∷ zip xs ys) (some_is a x e) ∙ ap (λ z. (x, z) ∷ zip xs ys) (some_is b y f)
pairs_from (a ∷ xs) (b ∷ ys) (suc n) x y e f =
    let z : suc (n + 1) ≡ suc n + 1 = omega arith in
    pairs_from xs ys n x y e f ∙ ap (λ (k : ℕ). (x, y) ∷ drop k ((a, b) ∷ zip xs ys)) z

no_pairs : {A B : Type 0} (xs : List A) (ys : List B) (n : ℕ) → length ys ≤ n → drop n (zip xs ys) ≡ []
no_pairs [] ys zero e = refl
no_pairs [] ys (suc n) e = refl
no_pairs (x ∷ xs) [] zero e = refl
no_pairs (x ∷ xs) [] (suc n) e = refl
no_pairs (x ∷ xs) (y ∷ ys) zero e = absurd (omega (arith, e))
no_pairs (x ∷ xs) (y ∷ ys) (suc n) e = no_pairs xs ys n (omega (arith, e))

-- what was appended, and what is left, make the whole
pub next_pair : {A B : Type 0} (text : A × B → List ℕ) (xs : List A) (ys : List B) (n : ℕ) (x : A) (y : B) (out new whole : List ℕ) → slice_get xs n ≡ Some x → slice_get ys n ≡ Some y →
    new ≡ out ++ (codes " " ++ text (x, y)) → out ++ spaced text (drop n (zip xs ys)) ≡ whole → new ++ spaced text (drop (n + 1) (zip xs ys)) ≡ whole
next_pair text xs ys n x y out new whole e f appended left =
    ap (λ (l : List ℕ). l ++ spaced text (drop (n + 1) (zip xs ys))) appended
    ∙ append_assoc out (codes " " ++ text (x, y)) (spaced text (drop (n + 1) (zip xs ys)))
    ∙ sym (ap (λ l. out ++ spaced text l) (pairs_from xs ys n x y e f))
    ∙ left

pub last_pair : {A B : Type 0} (text : A × B → List ℕ) (xs : List A) (ys : List B) (n : ℕ) (out whole : List ℕ) → length ys ≤ n → out ++ spaced text (drop n (zip xs ys)) ≡ whole → out ≡ whole
last_pair text xs ys n out whole e left = sym (append-nil out) ∙ sym (ap (λ l. out ++ spaced text l) (no_pairs xs ys n e)) ∙ left

-- ---- prefixes

-- what is appended stands behind what was there
pub prefix_behind : (a b c d : List ℕ) → d ≡ a ++ b → IsPrefix d c → IsPrefix a c
prefix_behind a b c d e h = prefix_again a d c (subst (λ (l : List ℕ). IsPrefix a l) (sym e) (prefix_longer a a b (prefix_self a))) h

pub prefix_longer_at : (a b c d : List ℕ) → d ≡ b ++ c → IsPrefix a b → IsPrefix a d
prefix_longer_at a b c d e h = subst (λ (l : List ℕ). IsPrefix a l) (sym e) (prefix_longer a b c h)

pub on_err : {A E P : Type 0} (r : Result A E) → P → OnErr r P
on_err (Ok x) p = tt
on_err (Err e) p = p

pub on_err_behind : {A E : Type 0} (r : Result A E) (a b c d : List ℕ) → d ≡ a ++ b → OnErr r (IsPrefix d c) → OnErr r (IsPrefix a c)
on_err_behind (Ok x) a b c d e h = tt
on_err_behind (Err x) a b c d e h = prefix_behind a b c d e h
