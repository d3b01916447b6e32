-- Walks from wholes to parts by their number of steps: the same types have the same walks, and where no type contains itself no walk
-- has as many steps as there are types.
use Rattle.std.proofs.Common.{◌≡◌, ℕ, zero, suc, ◌<◌, ◌≤◌, Bool, true, false, ◌||◌, ◌==◌, List, [], ◌∷◌, length, Option, Some, None, slice_get, refl, sym, ◌∙◌, inl, inr, arith}
use Rattle.std.specs.List.{All, list_any}
use Rattle.std.proofs.lemmas.Bool.{false≢true, and_parts, eq-eqb, cases_lt}
use Rattle.std.proofs.lemmas.List.Elements.{All-nil, All-head, All-tail}
use Rattle.type_definitions.specs.declared.definition.TypeDef.{TypeDef}
use Rattle.type_definitions.specs.declared.definition.TypeDef.TheVariants.{Int, Struct, Array, Hybrid, Void, Ref, Iref, FuncRef, StackRef, ThreadRef, Sig}
use Rattle.type_definitions.specs.Definition.{constructor, arguments}
use Rattle.type_definitions.specs.Same.{pairs, same, IsGraph}
use Rattle.type_definitions.specs.Parts.{parts, parts_at, leads}
use Rattle.type_definitions.specs.Laws.{IsFinite}
use Rattle.type_definitions.specs.Lemmas.Depth.{same_meets, args_within}
use Rattle.type_definitions.specs.Lemmas.Steady.{count, count_le, count_same}
use Rattle.type_definitions.specs.Lemmas.Walks.{cut, or_left, or_right}

-- a walk of that many steps begins at a
unfoldable pub goes : List TypeDef → ℕ → ℕ → Bool
goes g zero a = true
goes g (suc k) a = list_any (λ p. goes g k p) (parts_at (slice_get g a))

-- ---- the same types have the same walks

any_alike : (P : ℕ → Type 0) (r : ℕ → ℕ → Bool) (f : ℕ → Bool) → ((x y : ℕ) → P x → P y → r x y ≡ true → f x ≡ f y) → (xs ys : List ℕ) → All P xs → All P ys → pairs r xs ys ≡ true →
    list_any f xs ≡ list_any f ys
any_alike P r f h [] [] a b e = refl
any_alike P r f h (x ∷ xs) [] a b e = absurd (false≢true e)
any_alike P r f h [] (y ∷ ys) a b e = absurd (false≢true e)
any_alike P r f h (x ∷ xs) (y ∷ ys) a b e =
    let both = and_parts (r x y) (pairs r xs ys) e in
    rw (h x y (All-head P x xs a) (All-head P y ys b) both.0, any_alike P r f h xs ys (All-tail P x xs a) (All-tail P y ys b) both.1) refl

parts_pairs : (r : ℕ → ℕ → Bool) (d e : TypeDef) → constructor d ≡ constructor e → pairs r (arguments d) (arguments e) ≡ true → pairs r (parts d) (parts e) ≡ true
parts_pairs r (Int w) (Int v) k h = refl
parts_pairs r (Struct xs) (Struct ys) k h = h
parts_pairs r (Array x m) (Array y l) k h = h
parts_pairs r (Hybrid xs x) (Hybrid ys y) k h = h
parts_pairs r Void Void k h = refl
parts_pairs r (Ref x) (Ref y) k h = refl
parts_pairs r (Iref x) (Iref y) k h = refl
parts_pairs r (FuncRef x) (FuncRef y) k h = refl
parts_pairs r StackRef StackRef k h = refl
parts_pairs r ThreadRef ThreadRef k h = refl
parts_pairs r (Sig xs us) (Sig ys vs) k h = refl
parts_pairs r d e k h = absurd (omega (arith, k))

parts_all : (P : ℕ → Type 0) (d : TypeDef) → All P (arguments d) → All P (parts d)
parts_all P (Int w) h = All-nil P
parts_all P (Struct xs) h = h
parts_all P (Array x m) h = h
parts_all P (Hybrid xs x) h = h
parts_all P Void h = All-nil P
parts_all P (Ref x) h = All-nil P
parts_all P (Iref x) h = All-nil P
parts_all P (FuncRef x) h = All-nil P
parts_all P StackRef h = All-nil P
parts_all P ThreadRef h = All-nil P
parts_all P (Sig xs us) h = All-nil P

pub goes_same : (g : List TypeDef) → IsGraph g → (k a b : ℕ) → a < length g → b < length g → same g a b ≡ true → goes g k a ≡ goes g k b
unfolding goes
goes_same g i zero a b la lb h = refl
goes_same g i (suc k) a b la lb h =
    let m = same_meets g i a b la lb h in
    rw (m.at_one, m.at_other)
    (any_alike (λ x. x < length g) (same g) (λ p. goes g k p) (λ x y lx ly e. goes_same g i k x y lx ly e) (parts m.one) (parts m.other)
    (parts_all (λ x. x < length g) m.one (args_within g i a m.one m.at_one)) (parts_all (λ x. x < length g) m.other (args_within g i b m.other m.at_other))
    (parts_pairs (same g) m.one m.other m.kind m.args))

-- ---- no walk has as many steps as there are types

pub parts_within : (g : List TypeDef) → IsGraph g → (a : ℕ) → All (λ p. p < length g) (parts_at (slice_get g a))
parts_within g i a = go (slice_get g a) refl
  where
    go : (o : Option TypeDef) → slice_get g a ≡ o → All (λ p. p < length g) (parts_at o)
    go None e = All-nil (λ p. p < length g)
    go (Some d) e = parts_all (λ p. p < length g) d (args_within g i a d e)

-- one of a list that passes a test
pub record Hit (P : ℕ → Type 0) (f : ℕ → Bool) (xs : List ℕ) : Type 0 where
  pub is : ℕ
  pub passes : f is ≡ true
  pub holds : P is
  pub any : (h : ℕ → Bool) → h is ≡ true → list_any h xs ≡ true

pub hit : (P : ℕ → Type 0) (f : ℕ → Bool) (xs : List ℕ) → All P xs → list_any f xs ≡ true → Hit P f xs
hit P f [] a e = absurd (false≢true e)
hit P f (x ∷ xs) a e = go (f x) refl (λ t. hit P f xs (All-tail P x xs a) t)
  where
    go : (b : Bool) → f x ≡ b → (list_any f xs ≡ true → Hit P f xs) → Hit P f (x ∷ xs)
    go true q ih = record { is = x; passes = q; holds = All-head P x xs a; any = λ h t. or_left (h x) (list_any h xs) t }
    go false q ih = let r = ih (rw q at e) in record { is = r.is; passes = r.passes; holds = r.holds; any = λ h t. or_right (h x) (list_any h xs) (r.any h t) }

-- how many types a walk leads to
height : List TypeDef → ℕ → ℕ
height g a = count (λ b. leads g (length g) b a) (length g)

height_less : (g : List TypeDef) → IsFinite g → (a p : ℕ) → p < length g → ((h : ℕ → Bool) → h p ≡ true → list_any h (parts_at (slice_get g a)) ≡ true) → height g p < height g a
unfolding height leads
height_less g f a p l any = elim (cases_lt (count (λ b. leads g (length g) b p) (length g)) (count (λ b. leads g (length g) b a) (length g))) [
  | inl m ↦ m
  | inr m ↦ absurd (false≢true (sym (f p l) ∙ count_same (λ b. leads g (length g) b p) (λ b. leads g (length g) b a) more (length g) m p l there))
]
  where
    more : (x : ℕ) → leads g (length g) x p ≡ true → leads g (length g) x a ≡ true
    more x h = cut g (suc (length g)) a x (any (λ w. (w == x) || leads g (length g) x w) (or_right (p == x) (leads g (length g) x p) h))

    there : leads g (length g) p a ≡ true
    there = cut g (suc (length g)) a p (any (λ w. (w == p) || leads g (length g) p w) (or_left (p == p) (leads g (length g) p p) (eq-eqb p p refl)))

height_below : (g : List TypeDef) → IsFinite g → (a : ℕ) → a < length g → height g a < length g
unfolding height
height_below g f a l = elim (cases_lt (count (λ b. leads g (length g) b a) (length g)) (length g)) [
  | inl m ↦ m
  | inr m ↦ let most = count_le (λ b. true) (length g) in
      absurd (false≢true (sym (f a l) ∙ count_same (λ b. leads g (length g) b a) (λ b. true) (λ x h. refl) (length g) (omega arith) a l refl))
]

goes_low : (g : List TypeDef) → IsGraph g → IsFinite g → (k a : ℕ) → goes g k a ≡ true → k ≤ height g a
unfolding goes
goes_low g i f zero a e = omega arith
goes_low g i f (suc k) a e =
    let p = hit (λ x. x < length g) (λ x. goes g k x) (parts_at (slice_get g a)) (parts_within g i a) e in
    let low = goes_low g i f k p.is p.passes in
    let less = height_less g f a p.is p.holds p.any in
    omega arith

pub goes_ends : (g : List TypeDef) → IsGraph g → IsFinite g → (a : ℕ) → a < length g → goes g (length g) a ≡ false
goes_ends g i f a l = go (goes g (length g) a) refl
  where
    go : (b : Bool) → goes g (length g) a ≡ b → goes g (length g) a ≡ false
    go false e = e
    go true e = let low = goes_low g i f (length g) a e in let below = height_below g f a l in absurd (omega arith)
