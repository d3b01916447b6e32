-- Of marks on the types from which a walk leads to a goal.
use Rattle.std.proofs.Common.{◌≡◌, ℕ, suc, ◌<◌, ◌≤◌, Bool, true, false, ◌||◌, ◌==◌, List, [], ◌∷◌, length, Some, None, slice_get, refl, sym, ◌∙◌, ap, subst, arith, get_or, inl, inr, ◌⊎◌}
use Rattle.std.specs.List.{list_any}
use Rattle.std.proofs.lemmas.Option.{slice_get_cases}
use Rattle.std.proofs.lemmas.List.{get_or_past}
use Rattle.type_definitions.specs.declared.definition.TypeDef.{TypeDef}
use Rattle.type_definitions.specs.Parts.{parts, parts_at, leads, contains_itself}
use Rattle.type_definitions.specs.Lemmas.Walks.{any_more, cut}
use Rattle.std.proofs.lemmas.Bool.{eqb-true}
use Rattle.type_classes.specs.Walks.{is_marked, Marks}

any_same : (p q : ℕ → Bool) → ((x : ℕ) → p x ≡ q x) → (xs : List ℕ) → list_any p xs ≡ list_any q xs
any_same p q h [] = refl
any_same p q h (x ∷ xs) = rw (h x, any_same p q h xs) refl

pub farther_is : (g : List TypeDef) (k b : ℕ) (marks next : List Bool) → length next ≡ length g
    → ((x : ℕ) (d : TypeDef) → x < length g → slice_get g x ≡ Some d → is_marked next x ≡ list_any (λ p. (p == b) || is_marked marks p) (parts d))
    → Marks g k b marks → Marks g (suc k) b next
unfolding leads
farther_is g k b marks next e f h x = go (slice_get_cases g x).1
  where
    go : ((d : TypeDef) × (x < length g) × (slice_get g x ≡ Some d) × (get_or g x d ≡ d)) ⊎ ((length g ≤ x) × (slice_get g x ≡ None)) → is_marked next x ≡ leads g (suc k) b x
    go (inl (d, l, s, q)) = f x d l s ∙ any_same (λ p. (p == b) || is_marked marks p) (λ p. (p == b) || leads g k b p) (λ p. rw (h p) refl) (parts d) ∙ sym (ap (λ o. list_any (λ p. (p == b) || leads g k b p) (parts_at o)) s)
    go (inr (l, s)) = get_or_past next x false (omega (arith, e, l)) ∙ sym (ap (λ o. list_any (λ p. (p == b) || leads g k b p) (parts_at o)) s)

pub none_marked : (g : List TypeDef) (b : ℕ) (marks : List Bool) → ((x : ℕ) → is_marked marks x ≡ false) → Marks g 0 b marks
unfolding leads
none_marked g b marks h x = h x

-- one part more before a walk to t
pub before_walk : (g : List TypeDef) (steps t next x : ℕ) (d : TypeDef) → ((next == t) || leads g steps t next) ≡ true → slice_get g x ≡ Some d → list_any (λ p. p == next) (parts d) ≡ true → leads g (suc steps) t x ≡ true
unfolding leads
before_walk g steps t next x d h e a = rw e (any_more (λ p. p == next) (λ p. (p == t) || leads g steps t p) (λ p q. subst (λ w. ((w == t) || leads g steps t w) ≡ true) (sym (eqb-true p next q)) h) (parts d) a)

-- a walk from t to t
pub around : (g : List TypeDef) (steps t x : ℕ) → x ≡ t → leads g steps t x ≡ true → contains_itself g t ≡ true
around g steps t x e h = cut g steps t t (subst (λ w. leads g steps t w ≡ true) e h)
