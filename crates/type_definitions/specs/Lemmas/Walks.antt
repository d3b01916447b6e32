-- A walk of more steps than there are types can be cut: the types from which b is reached within k steps grow with k until they stay.
use Rattle.std.proofs.Common.{◌≡◌, ℕ, zero, suc, ◌<◌, ◌≤◌, Bool, true, false, ◌||◌, ◌==◌, List, [], ◌∷◌, length, slice_get, refl, sym, ◌∙◌, inl, inr, ◌⊎◌, arith}
use Rattle.std.specs.List.{list_any}
use Rattle.std.proofs.lemmas.Bool.{false≢true, cases_lt}
use Rattle.type_definitions.specs.declared.definition.TypeDef.{TypeDef}
use Rattle.type_definitions.specs.Parts.{parts_at, leads}
use Rattle.type_definitions.specs.Lemmas.Steady.{count, count_le, count_same}
use Rattle.type_definitions.specs.Lemmas.Ranks.{past_none, or_cases}

pub or_left : (b c : Bool) → b ≡ true → (b || c) ≡ true
or_left true c h = refl
or_left false c h = absurd (false≢true h)

pub or_right : (b c : Bool) → c ≡ true → (b || c) ≡ true
or_right true c h = refl
or_right false c h = h

pub any_more : (p q : ℕ → Bool) → ((x : ℕ) → p x ≡ true → q x ≡ true) → (xs : List ℕ) → list_any p xs ≡ true → list_any q xs ≡ true
any_more p q h [] e = absurd (false≢true e)
any_more p q h (x ∷ xs) e = elim (or_cases (p x) (list_any p xs) e) [
  | inl a ↦ or_left (q x) (list_any q xs) (h x a)
  | inr a ↦ or_right (q x) (list_any q xs) (any_more p q h xs a)
]

-- a part that is b, or from which b is reached, by one test and by a weaker one
reached_more : (b : ℕ) (r s : ℕ → Bool) → ((p : ℕ) → r p ≡ true → s p ≡ true) → (ps : List ℕ) → list_any (λ p. (p == b) || r p) ps ≡ true → list_any (λ p. (p == b) || s p) ps ≡ true
reached_more b r s h ps e = any_more (λ p. (p == b) || r p) (λ p. (p == b) || s p)
    (λ p t. elim (or_cases (p == b) (r p) t) [ inl q ↦ or_left (p == b) (s p) q | inr q ↦ or_right (p == b) (s p) (h p q) ]) ps e

leads_on : (g : List TypeDef) (k b a : ℕ) → leads g k b a ≡ true → leads g (suc k) b a ≡ true
unfolding leads
leads_on g zero b a e = absurd (false≢true e)
leads_on g (suc k) b a e = reached_more b (leads g k b) (leads g (suc k) b) (leads_on g k b) (parts_at (slice_get g a)) e

-- one step more reaches b from no other type
Still : List TypeDef → ℕ → ℕ → Type 0
Still g b k = (a : ℕ) → leads g (suc k) b a ≡ true → leads g k b a ≡ true

still_on : (g : List TypeDef) (b k : ℕ) → Still g b k → Still g b (suc k)
unfolding leads Still
still_on g b k h a e = reached_more b (leads g (suc k) b) (leads g k b) h (parts_at (slice_get g a)) e

past_leads : (g : List TypeDef) (k b a : ℕ) → length g ≤ a → leads g (suc k) b a ≡ false
unfolding leads
past_leads g k b a l = rw (past_none g a l) refl

within : (g : List TypeDef) (b k : ℕ) → ((a : ℕ) → a < length g → leads g (suc k) b a ≡ true → leads g k b a ≡ true) → Still g b k
unfolding Still
within g b k h a e = elim (cases_lt a (length g)) [ inl l ↦ h a l e | inr l ↦ absurd (false≢true (sym (past_leads g k b a l) ∙ e)) ]

-- still by then, or reached from more than k types
by_then : (g : List TypeDef) (b k : ℕ) → Still g b k ⊎ (k < count (leads g (suc k) b) (length g))
by_then g b zero = go (cases_lt 0 (count (leads g 1 b) (length g)))
  where
    go : (0 < count (leads g 1 b) (length g)) ⊎ (count (leads g 1 b) (length g) ≤ 0) → Still g b 0 ⊎ (0 < count (leads g 1 b) (length g))
    go (inl l) = inr l
    go (inr l) = inl (within g b 0 (count_same (leads g 0 b) (leads g 1 b) (leads_on g 0 b) (length g) (omega arith)))
by_then g b (suc k) = go (by_then g b k) (cases_lt (count (leads g (suc k) b) (length g)) (count (leads g (suc (suc k)) b) (length g)))
  where
    go : Still g b k ⊎ (k < count (leads g (suc k) b) (length g)) → (count (leads g (suc k) b) (length g) < count (leads g (suc (suc k)) b) (length g)) ⊎ (count (leads g (suc (suc k)) b) (length g) ≤ count (leads g (suc k) b) (length g))
        → Still g b (suc k) ⊎ (suc k < count (leads g (suc (suc k)) b) (length g))
    go (inl s) d = inl (still_on g b k s)
    go (inr l) (inl m) = inr (omega arith)
    go (inr l) (inr m) = inl (within g b (suc k) (count_same (leads g (suc k) b) (leads g (suc (suc k)) b) (leads_on g (suc k) b) (length g) m))

still_at : (g : List TypeDef) (b : ℕ) → Still g b (length g)
still_at g b = go (by_then g b (length g))
  where
    go : Still g b (length g) ⊎ (length g < count (leads g (suc (length g)) b) (length g)) → Still g b (length g)
    go (inl s) = s
    go (inr l) = let m = count_le (leads g (suc (length g)) b) (length g) in absurd (omega arith)

-- where a walk of any number of steps leads, one of no more steps than there are types does
pub cut : (g : List TypeDef) (steps a b : ℕ) → leads g steps b a ≡ true → leads g (length g) b a ≡ true
unfolding leads Still
cut g zero a b e = absurd (false≢true e)
cut g (suc k) a b e = still_at g b a (reached_more b (leads g k b) (leads g (length g) b) (λ p h. cut g k p b h) (parts_at (slice_get g a)) e)
