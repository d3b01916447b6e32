-- Where each part has a lower rank than its whole, no type contains itself, and the leaves are those of the parts.
use Rattle.std.proofs.Common.{◌≡◌, ℕ, zero, suc, ◌<◌, ◌≤◌, Bool, true, false, ◌||◌, ◌==◌, List, [], ◌∷◌, ◌++◌, length, Option, Some, None, slice_get, refl, sym, ◌∙◌, ap, subst, arith, inl, inr, ◌⊎◌}
use Rattle.std.specs.Prelude.{slice_index}
use Rattle.std.specs.List.{All, list_any, flat_map}
use Rattle.std.proofs.lemmas.Bool.{false≢true, eqb-true, cases_lt}
use Rattle.std.proofs.lemmas.List.Elements.{All-nil, All-cons, All-head, All-tail, All-weaker}
use Rattle.type_definitions.specs.declared.definition.TypeDef.{TypeDef}
use Rattle.type_definitions.specs.declared.definition.TypeDef.TheVariants.{Int, Struct, Array, Hybrid, Void, Ref, Iref, FuncRef, StackRef, ThreadRef, Sig}
use Rattle.type_definitions.specs.Parts.{parts, parts_at, leads, contains_itself}
use Rattle.type_definitions.specs.Leaves.{times, leaves_by, leaves_at, leaves_to, leaves}
use Rattle.type_definitions.specs.Ranks.{Descends, IsFree, AreRanked}

pub past_none : (g : List TypeDef) (a : ℕ) → length g ≤ a → slice_get g a ≡ None
past_none [] a l = refl
past_none (d ∷ g) zero l = absurd (omega arith)
past_none (d ∷ g) (suc a) l = past_none g a (omega arith)

descends_at : (g : List TypeDef) (rank : List ℕ) → Descends g rank → (a : ℕ) → All (λ p. slice_index rank p ≤ slice_index rank a) (parts_at (slice_get g a))
descends_at g rank h a = elim (cases_lt a (length g)) [ inl l ↦ h a l | inr l ↦ rw (past_none g a l) (λ k d m. absurd (none_below k m)) ]
  where
    none_below : (k : ℕ) → k < 0 → ⊥
    none_below k l = omega arith

pub or_cases : (b c : Bool) → (b || c) ≡ true → (b ≡ true) ⊎ (c ≡ true)
or_cases true c h = inl refl
or_cases false c h = inr h

any_gives : (test : ℕ → Bool) (P : ℕ → Type 0) (Q : Type 0) → ((p : ℕ) → P p → test p ≡ true → Q) → (ps : List ℕ) → All P ps → list_any test ps ≡ true → Q
any_gives test P Q f [] al e = absurd (false≢true e)
any_gives test P Q f (p ∷ ps) al e = go (or_cases (test p) (list_any test ps) e) (All-head P p ps al) (λ h. any_gives test P Q f ps (All-tail P p ps al) h)
  where
    go : (test p ≡ true) ⊎ (list_any test ps ≡ true) → P p → (list_any test ps ≡ true → Q) → Q
    go (inl h) a ih = f p a h
    go (inr h) a ih = ih h

-- what a walk leads to stands no higher
pub leads_down : (g : List TypeDef) (rank : List ℕ) → Descends g rank → (steps b a : ℕ) → leads g steps b a ≡ true → slice_index rank b ≤ slice_index rank a
unfolding leads
leads_down g rank h zero b a e = absurd (false≢true e)
leads_down g rank h (suc steps) b a e = any_gives (λ p. (p == b) || leads g steps b p) (λ p. slice_index rank p ≤ slice_index rank a) (slice_index rank b ≤ slice_index rank a)
    (λ p l t. elim (or_cases (p == b) (leads g steps b p) t) [
      | inl q ↦ subst (λ w. slice_index rank w ≤ slice_index rank a) (eqb-true p b q) l
      | inr q ↦ let m = leads_down g rank h steps b p q in omega arith
    ])
    (parts_at (slice_get g a)) (descends_at g rank h a) e

not_so : (b : Bool) → (b ≡ true → ⊥) → b ≡ false
not_so true f = absurd (f refl)
not_so false f = refl

-- a type whose parts all stand lower does not contain itself
pub free_is_finite : (g : List TypeDef) (rank : List ℕ) → Descends g rank → (t : ℕ) → IsFree g rank t → contains_itself g t ≡ false
unfolding leads
free_is_finite g rank h t f = not_so (contains_itself g t) (λ e. go (length g) e)
  where
    go : (n : ℕ) → leads g n t t ≡ true → ⊥
    go zero e = false≢true e
    go (suc n) e = any_gives (λ p. (p == t) || leads g n t p) (λ p. slice_index rank p < slice_index rank t) ⊥
        (λ p l q. elim (or_cases (p == t) (leads g n t p) q) [
          | inl s ↦ let m : slice_index rank t < slice_index rank t = subst (λ w. slice_index rank w < slice_index rank t) (eqb-true p t s) l in absurd (omega arith)
          | inr s ↦ let m = leads_down g rank h n t p s in absurd (omega arith)
        ])
        (parts_at (slice_get g t)) f e

all_left : (P : ℕ → Type 0) (xs ys : List ℕ) → All P (xs ++ ys) → All P xs
all_left P [] ys h = All-nil P
all_left P (x ∷ xs) ys h = All-cons P x xs (All-head P x (xs ++ ys) h) (all_left P xs ys (All-tail P x (xs ++ ys) h))

each_same : (of to : ℕ → List ℕ) (xs : List ℕ) → All (λ p. of p ≡ to p) xs → flat_map of xs ≡ flat_map to xs
each_same of to [] h = refl
each_same of to (x ∷ xs) h = rw (All-head (λ p. of p ≡ to p) x xs h, each_same of to xs (All-tail (λ p. of p ≡ to p) x xs h)) refl

pub by_same : (of to : ℕ → List ℕ) (t : ℕ) (d : TypeDef) → All (λ p. of p ≡ to p) (parts d) → leaves_by of t d ≡ leaves_by to t d
by_same of to t (Int width) h = refl
by_same of to t (Struct fields) h = each_same of to fields h
by_same of to t (Array element size) h = ap (times size) (All-head (λ p. of p ≡ to p) element [] h)
by_same of to t (Hybrid fixed element) h = each_same of to fixed (all_left (λ p. of p ≡ to p) fixed (element ∷ []) h)
by_same of to t Void h = refl
by_same of to t (Ref target) h = refl
by_same of to t (Iref target) h = refl
by_same of to t (FuncRef s) h = refl
by_same of to t StackRef h = refl
by_same of to t ThreadRef h = refl
by_same of to t (Sig takes gives) h = refl

pub at_same : (of to : ℕ → List ℕ) (t : ℕ) (o : Option TypeDef) → All (λ p. of p ≡ to p) (parts_at o) → leaves_at of t o ≡ leaves_at to t o
at_same of to t None h = refl
at_same of to t (Some d) h = by_same of to t d h

free_at : (g : List TypeDef) (rank : List ℕ) → AreRanked g rank → (a : ℕ) → IsFree g rank a
free_at g rank r a = elim (cases_lt a (length g)) [ inl l ↦ r.free a l | inr l ↦ rw (past_none g a l) (λ k d m. absurd (none_below k m)) ]
  where
    none_below : (k : ℕ) → k < 0 → ⊥
    none_below k l = omega arith

pub none_there : (g : List TypeDef) (k a : ℕ) → length g ≤ a → leaves_to g k a ≡ []
unfolding leaves_to
none_there g zero a l = refl
none_there g (suc k) a l = rw (past_none g a l) refl

-- past a type's rank its leaves do not change
leaves_steady : (g : List TypeDef) (rank : List ℕ) → AreRanked g rank → (k j a : ℕ) → (slice_index rank a < k) ⊎ (length g ≤ a) → (slice_index rank a < j) ⊎ (length g ≤ a) → leaves_to g k a ≡ leaves_to g j a
unfolding leaves_to
leaves_steady g rank r k j a (inr l) h = none_there g k a l ∙ sym (none_there g j a l)
leaves_steady g rank r k j a (inl l) (inr m) = none_there g k a m ∙ sym (none_there g j a m)
leaves_steady g rank r zero j a (inl l) (inl m) = absurd (omega arith)
leaves_steady g rank r (suc k) zero a (inl l) (inl m) = absurd (omega arith)
leaves_steady g rank r (suc k) (suc j) a (inl l) (inl m) = at_same (leaves_to g k) (leaves_to g j) a (slice_get g a)
    (All-weaker (λ p. slice_index rank p < slice_index rank a) (λ p. leaves_to g k p ≡ leaves_to g j p)
    (λ p q. leaves_steady g rank r k j p (inl (omega arith)) (inl (omega arith))) (parts_at (slice_get g a)) (free_at g rank r a))

-- the leaves of a type are by its definition those of its parts
pub leaves_level : (g : List TypeDef) (rank : List ℕ) → AreRanked g rank → (a : ℕ) → a < length g → leaves g a ≡ leaves_at (leaves g) a (slice_get g a)
unfolding leaves_to
leaves_level g rank r a l = let w = r.within a l in leaves_steady g rank r (length g) (suc (length g)) a (inl w) (inl (omega arith))
