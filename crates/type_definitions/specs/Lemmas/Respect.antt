-- The leaves of two that are the same type are the same types, one by one.
use Rattle.std.proofs.Common.{◌≡◌, ℕ, zero, suc, ◌<◌, Bool, true, false, List, [], ◌∷◌, ◌++◌, length, refl, sym, ◌∙◌, ap, arith, map}
use Rattle.std.specs.List.{All, flat_map}
use Rattle.std.proofs.lemmas.Bool.{false≢true, and_parts}
use Rattle.std.proofs.lemmas.List.{map-append}
use Rattle.std.proofs.lemmas.List.Elements.{All-head, All-tail, All-cons}
use Rattle.type_definitions.specs.declared.definition.TypeDef.{TypeDef}
use Rattle.type_definitions.specs.declared.definition.TypeDef.TheVariants.{Int, Struct, Array, Hybrid, Void, Ref, Iref, FuncRef, StackRef, ThreadRef, Sig}
use Rattle.type_definitions.specs.Definition.{constructor, number, arguments}
use Rattle.type_definitions.specs.Same.{pairs, same, IsGraph}
use Rattle.type_definitions.specs.Class.{class_of}
use Rattle.type_definitions.specs.Leaves.{times, leaves_by, leaves_to, leaves}
use Rattle.type_definitions.specs.Lemmas.Depth.{same_meets, args_within}
use Rattle.type_definitions.specs.Lemmas.Proved.{decided}

pub map_times : (C : ℕ → ℕ) (n : ℕ) (xs : List ℕ) → map C (times n xs) ≡ times n (map C xs)
map_times C zero xs = refl
map_times C (suc n) xs = map-append C xs (times n xs) ∙ ap (λ ys. map C xs ++ ys) (map_times C n xs)

Alike : (ℕ → ℕ → Bool) → (ℕ → ℕ) → (ℕ → List ℕ) → (ℕ → Type 0) → Type 0
Alike r C L P = (x y : ℕ) → P x → P y → r x y ≡ true → map C (L x) ≡ map C (L y)

each_alike : (r : ℕ → ℕ → Bool) (C : ℕ → ℕ) (L : ℕ → List ℕ) (P : ℕ → Type 0) → Alike r C L P → (xs ys : List ℕ) → All P xs → All P ys → pairs r xs ys ≡ true → map C (flat_map L xs) ≡ map C (flat_map L ys)
unfolding Alike
each_alike r C L P f [] [] a b h = refl
each_alike r C L P f (x ∷ xs) [] a b h = absurd (false≢true h)
each_alike r C L P f [] (y ∷ ys) a b h = absurd (false≢true h)
each_alike r C L P f (x ∷ xs) (y ∷ ys) a b h =
    let p = and_parts (r x y) (pairs r xs ys) h in
    map-append C (L x) (flat_map L xs) ∙ (ap (λ zs. zs ++ map C (flat_map L xs)) (f x y (All-head P x xs a) (All-head P y ys b) p.0)
    ∙ (ap (λ zs. map C (L y) ++ zs) (each_alike r C L P f xs ys (All-tail P x xs a) (All-tail P y ys b) p.1) ∙ sym (map-append C (L y) (flat_map L ys))))

front_pairs : (r : ℕ → ℕ → Bool) (x y : ℕ) (xs ys : List ℕ) → pairs r (xs ++ x ∷ []) (ys ++ y ∷ []) ≡ true → pairs r xs ys ≡ true
front_pairs r x y [] [] h = refl
front_pairs r x y [] (z ∷ []) h = absurd (false≢true ((and_parts (r x z) false h).1))
front_pairs r x y [] (z ∷ w ∷ ys) h = absurd (false≢true ((and_parts (r x z) false h).1))
front_pairs r x y (z ∷ []) [] h = absurd (false≢true ((and_parts (r z y) false h).1))
front_pairs r x y (z ∷ w ∷ xs) [] h = absurd (false≢true ((and_parts (r z y) false h).1))
front_pairs r x y (z ∷ xs) (w ∷ ys) h = let p = and_parts (r z w) (pairs r (xs ++ x ∷ []) (ys ++ y ∷ [])) h in rw (p.0, front_pairs r x y xs ys p.1) refl

pub front_all : (P : ℕ → Type 0) (xs : List ℕ) (x : ℕ) → All P (xs ++ x ∷ []) → All P xs
front_all P [] x h = λ k d l. absurd (none_below k l)
  where
    none_below : (k : ℕ) → k < 0 → ⊥
    none_below k l = omega arith
front_all P (y ∷ xs) x h = All-cons P y xs (All-head P y (xs ++ x ∷ []) h) (front_all P xs x (All-tail P y (xs ++ x ∷ []) h))

by_alike : (r : ℕ → ℕ → Bool) (C : ℕ → ℕ) (L : ℕ → List ℕ) (P : ℕ → Type 0) → Alike r C L P → (a b : ℕ) → C a ≡ C b → (d e : TypeDef) → constructor d ≡ constructor e → number d ≡ number e
    → All P (arguments d) → All P (arguments e) → pairs r (arguments d) (arguments e) ≡ true → map C (leaves_by L a d) ≡ map C (leaves_by L b e)
unfolding Alike
by_alike r C L P f a b q (Int w) (Int v) k n s t h = ap (λ c. c ∷ []) q
by_alike r C L P f a b q (Struct xs) (Struct ys) k n s t h = each_alike r C L P f xs ys s t h
by_alike r C L P f a b q (Array x m) (Array y l) k n s t h =
    map_times C m (L x) ∙ (ap (λ zs. times m zs) (f x y (All-head P x [] s) (All-head P y [] t) (and_parts (r x y) true h).0) ∙ (ap (λ j. times j (map C (L y))) n ∙ sym (map_times C l (L y))))
by_alike r C L P f a b q (Hybrid xs x) (Hybrid ys y) k n s t h = each_alike r C L P f xs ys (front_all P xs x s) (front_all P ys y t) (front_pairs r x y xs ys h)
by_alike r C L P f a b q Void Void k n s t h = refl
by_alike r C L P f a b q (Ref x) (Ref y) k n s t h = ap (λ c. c ∷ []) q
by_alike r C L P f a b q (Iref x) (Iref y) k n s t h = ap (λ c. c ∷ []) q
by_alike r C L P f a b q (FuncRef x) (FuncRef y) k n s t h = ap (λ c. c ∷ []) q
by_alike r C L P f a b q StackRef StackRef k n s t h = ap (λ c. c ∷ []) q
by_alike r C L P f a b q ThreadRef ThreadRef k n s t h = ap (λ c. c ∷ []) q
by_alike r C L P f a b q (Sig xs us) (Sig ys vs) k n s t h = refl
by_alike r C L P f a b q d e k n s t h = absurd (omega (arith, k))

respect_to : (g : List TypeDef) → IsGraph g → (k a b : ℕ) → a < length g → b < length g → same g a b ≡ true → map (class_of g) (leaves_to g k a) ≡ map (class_of g) (leaves_to g k b)
unfolding leaves_to Alike
respect_to g i zero a b la lb h = refl
respect_to g i (suc k) a b la lb h =
    let m = same_meets g i a b la lb h in
    rw (m.at_one, m.at_other) (by_alike (same g) (class_of g) (leaves_to g k) (λ x. x < length g) (λ x y lx ly e. respect_to g i k x y lx ly e) a b (((decided g i).equal a b la lb).1 h) m.one m.other m.kind m.sized
    (args_within g i a m.one m.at_one) (args_within g i b m.other m.at_other) m.args)

pub respected : (g : List TypeDef) → IsGraph g → (a b : ℕ) → a < length g → b < length g → same g a b ≡ true → map (class_of g) (leaves g a) ≡ map (class_of g) (leaves g b)
respected g i a b la lb h = respect_to g i (length g) a b la lb h

pub class_decides : (g : List TypeDef) → IsGraph g → (a b : ℕ) → a < length g → b < length g → class_of g a ≡ class_of g b → map (class_of g) (leaves g a) ≡ map (class_of g) (leaves g b)
class_decides g i a b la lb e = respected g i a b la lb (((decided g i).equal a b la lb).0 e)
