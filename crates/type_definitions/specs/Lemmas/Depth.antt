-- Alike to each depth is an equivalence, and does not change past the number of types.
use Rattle.std.proofs.Common.{◌≡◌, ℕ, zero, suc, ◌+◌, ◌<◌, ◌≤◌, ◌==◌, Bool, true, ◌&&◌, List, [], ◌∷◌, length, Option, Some, None, slice_get, refl, sym, ◌∙◌, ap, subst, arith, inl, inr, ◌⊎◌, get_or}
use Rattle.std.specs.List.{All}
use Rattle.std.proofs.lemmas.Bool.{false≢true, and_from, and_parts, eq-eqb, eqb-true}
use Rattle.std.proofs.lemmas.List.Elements.{All-head, All-tail, All-get_or}
use Rattle.std.proofs.lemmas.Option.{slice_get_within, get_or_from_slice_get, slice_get_cases}
use Rattle.type_definitions.specs.declared.definition.TypeDef.{TypeDef}
use Rattle.type_definitions.specs.Definition.{constructor, number, arguments}
use Rattle.type_definitions.specs.Same.{pairs, agree_at, alike, same, IsGraph}
use Rattle.type_definitions.specs.Lemmas.Steady.{Family, Steady, steady_at}

pub pairs_back : (r s : ℕ → ℕ → Bool) → ((x y : ℕ) → r x y ≡ true → s y x ≡ true) → (xs ys : List ℕ) → pairs r xs ys ≡ true → pairs s ys xs ≡ true
pairs_back r s f [] [] h = refl
pairs_back r s f (x ∷ xs) (y ∷ ys) h = let p = and_parts (r x y) (pairs r xs ys) h in and_from (s y x) (pairs s ys xs) (f x y p.0) (pairs_back r s f xs ys p.1)
pairs_back r s f [] (y ∷ ys) h = absurd (false≢true h)
pairs_back r s f (x ∷ xs) [] h = absurd (false≢true h)

pub pairs_over : (r s t : ℕ → ℕ → Bool) → ((x y z : ℕ) → r x y ≡ true → s y z ≡ true → t x z ≡ true) → (xs ys zs : List ℕ) → pairs r xs ys ≡ true → pairs s ys zs ≡ true → pairs t xs zs ≡ true
pairs_over r s t f [] [] zs h k = pairs_weaker s t (λ x y e. e) zs k
  where
    pairs_weaker : (s t : ℕ → ℕ → Bool) → ((x y : ℕ) → s x y ≡ true → s x y ≡ true) → (zs : List ℕ) → pairs s [] zs ≡ true → pairs t [] zs ≡ true
    pairs_weaker s t f [] k = refl
    pairs_weaker s t f (z ∷ zs) k = absurd (false≢true k)
pairs_over r s t f (x ∷ xs) (y ∷ ys) [] h k = absurd (false≢true k)
pairs_over r s t f (x ∷ xs) (y ∷ ys) (z ∷ zs) h k =
    let p = and_parts (r x y) (pairs r xs ys) h in
    let q = and_parts (s y z) (pairs s ys zs) k in
    and_from (t x z) (pairs t xs zs) (f x y z p.0 q.0) (pairs_over r s t f xs ys zs p.1 q.1)
pairs_over r s t f [] (y ∷ ys) zs h k = absurd (false≢true h)
pairs_over r s t f (x ∷ xs) [] zs h k = absurd (false≢true h)

pub pairs_more : (P : ℕ → Type 0) (r s : ℕ → ℕ → Bool) → ((x y : ℕ) → P x → P y → r x y ≡ true → s x y ≡ true) → (xs ys : List ℕ) → All P xs → All P ys → pairs r xs ys ≡ true → pairs s xs ys ≡ true
pairs_more P r s f [] [] a b h = refl
pairs_more P r s f (x ∷ xs) (y ∷ ys) a b h =
    let p = and_parts (r x y) (pairs r xs ys) h in
    and_from (s x y) (pairs s xs ys) (f x y (All-head P x xs a) (All-head P y ys b) p.0) (pairs_more P r s f xs ys (All-tail P x xs a) (All-tail P y ys b) p.1)
pairs_more P r s f [] (y ∷ ys) a b h = absurd (false≢true h)
pairs_more P r s f (x ∷ xs) [] a b h = absurd (false≢true h)

pub pairs_same : (P : ℕ → Type 0) (r : ℕ → ℕ → Bool) → ((x : ℕ) → P x → r x x ≡ true) → (xs : List ℕ) → All P xs → pairs r xs xs ≡ true
pairs_same P r f [] a = refl
pairs_same P r f (x ∷ xs) a = and_from (r x x) (pairs r xs xs) (f x (All-head P x xs a)) (pairs_same P r f xs (All-tail P x xs a))

-- two types whose definitions agree by r
pub record Meets (g : List TypeDef) (r : ℕ → ℕ → Bool) (a b : ℕ) : Type 0 where
  pub one : TypeDef
  pub other : TypeDef
  pub at_one : slice_get g a ≡ Some one
  pub at_other : slice_get g b ≡ Some other
  pub kind : constructor one ≡ constructor other
  pub sized : number one ≡ number other
  pub args : pairs r (arguments one) (arguments other) ≡ true

pub meets : (g : List TypeDef) (r : ℕ → ℕ → Bool) (a b : ℕ) → agree_at r (slice_get g a) (slice_get g b) ≡ true → Meets g r a b
meets g r a b h = go (slice_get g a) (slice_get g b) refl refl h
  where
    go : (o p : Option TypeDef) → slice_get g a ≡ o → slice_get g b ≡ p → agree_at r o p ≡ true → Meets g r a b
    go (Some d) (Some e) x y h = let p = and_parts ((constructor d == constructor e) && (number d == number e)) (pairs r (arguments d) (arguments e)) h in let q = and_parts (constructor d == constructor e) (number d == number e) p.0 in record { one = d; other = e; at_one = x; at_other = y; kind = eqb-true (constructor d) (constructor e) q.0; sized = eqb-true (number d) (number e) q.1; args = p.1 }
    go None p x y h = absurd (false≢true h)
    go (Some d) None x y h = absurd (false≢true h)

pub from_meets : (g : List TypeDef) (r : ℕ → ℕ → Bool) (a b : ℕ) → Meets g r a b → agree_at r (slice_get g a) (slice_get g b) ≡ true
from_meets g r a b m = rw (m.at_one, m.at_other) (and_from ((constructor m.one == constructor m.other) && (number m.one == number m.other)) (pairs r (arguments m.one) (arguments m.other)) (and_from (constructor m.one == constructor m.other) (number m.one == number m.other) (eq-eqb (constructor m.one) (constructor m.other) m.kind) (eq-eqb (number m.one) (number m.other) m.sized)) m.args)

pub args_within : (g : List TypeDef) → IsGraph g → (x : ℕ) (d : TypeDef) → slice_get g x ≡ Some d → All (λ y. y < length g) (arguments d)
args_within g i x d e = subst (λ (n : TypeDef). All (λ y. y < length g) (arguments n)) (get_or_from_slice_get g x d d e) (All-get_or (λ n. All (λ y. y < length g) (arguments n)) g x d (slice_get_within g x d e) i)

some_one : {A : Type 0} (o : Option A) (x y : A) → o ≡ Some x → o ≡ Some y → x ≡ y
some_one o x y p q = cc

pub alike_same : (g : List TypeDef) → IsGraph g → (k a : ℕ) → a < length g → alike g k a a ≡ true
unfolding alike
alike_same g i zero a l = refl
alike_same g i (suc k) a l = go (slice_get_cases g a).1 (λ y m. alike_same g i k y m)
  where
    go : ((x : TypeDef) × (a < length g) × (slice_get g a ≡ Some x) × (get_or g a x ≡ x)) ⊎ ((length g ≤ a) × (slice_get g a ≡ None)) → ((y : ℕ) → y < length g → alike g k y y ≡ true) → agree_at (alike g k) (slice_get g a) (slice_get g a) ≡ true
    go (inl (x, m, e, f)) ih = from_meets g (alike g k) a a (record { one = x; other = x; at_one = e; at_other = e; kind = refl; sized = refl; args = pairs_same (λ y. y < length g) (alike g k) ih (arguments x) (args_within g i a x e) })
    go (inr (m, e)) ih = absurd (omega arith)

pub alike_back : (g : List TypeDef) (k a b : ℕ) → alike g k a b ≡ true → alike g k b a ≡ true
unfolding alike
alike_back g zero a b h = refl
alike_back g (suc k) a b h =
    let m = meets g (alike g k) a b h in
    from_meets g (alike g k) b a (record { one = m.other; other = m.one; at_one = m.at_other; at_other = m.at_one; kind = sym m.kind; sized = sym m.sized; args = pairs_back (alike g k) (alike g k) (λ x y e. alike_back g k x y e) (arguments m.one) (arguments m.other) m.args })

pub alike_over : (g : List TypeDef) (k a b c : ℕ) → alike g k a b ≡ true → alike g k b c ≡ true → alike g k a c ≡ true
unfolding alike
alike_over g zero a b c h j = refl
alike_over g (suc k) a b c h j =
    let m = meets g (alike g k) a b h in
    let n = meets g (alike g k) b c j in
    let e = some_one (slice_get g b) m.other n.one m.at_other n.at_one in
    from_meets g (alike g k) a c (record {
      one = m.one;
      other = n.other;
      at_one = m.at_one;
      at_other = n.at_other;
      kind = m.kind ∙ ap constructor e ∙ n.kind;
      sized = m.sized ∙ ap number e ∙ n.sized;
      args = pairs_over (alike g k) (alike g k) (alike g k) (λ x y z p q. alike_over g k x y z p q) (arguments m.one) (arguments n.one) (arguments n.other) (subst (λ (d : TypeDef). pairs (alike g k) (arguments m.one) (arguments d) ≡ true) e m.args) n.args;
    })

pub alike_less : (g : List TypeDef) (k a b : ℕ) → alike g (suc k) a b ≡ true → alike g k a b ≡ true
unfolding alike
alike_less g zero a b h = refl
alike_less g (suc k) a b h =
    let m = meets g (alike g (suc k)) a b h in
    from_meets g (alike g k) a b (record { one = m.one; other = m.other; at_one = m.at_one; at_other = m.at_other; kind = m.kind; sized = m.sized; args = pairs_more (λ x. Unit {0}) (alike g (suc k)) (alike g k) (λ x y _ _ e. alike_less g k x y e) (arguments m.one) (arguments m.other) (λ k d l. tt) (λ k d l. tt) m.args })

-- where the definitions of a and b agree by r, and r gives s on types, they agree by s
pub meets_more : (g : List TypeDef) → IsGraph g → (r s : ℕ → ℕ → Bool) → ((x y : ℕ) → x < length g → y < length g → r x y ≡ true → s x y ≡ true) → (a b : ℕ) → Meets g r a b → Meets g s a b
meets_more g i r s f a b m = record { one = m.one; other = m.other; at_one = m.at_one; at_other = m.at_other; kind = m.kind; sized = m.sized; args = pairs_more (λ x. x < length g) r s f (arguments m.one) (arguments m.other) (args_within g i a m.one m.at_one) (args_within g i b m.other m.at_other) m.args }

alike_goes : (g : List TypeDef) → IsGraph g → (k : ℕ) → Steady (length g) (alike g) k → (a b : ℕ) → a < length g → b < length g → alike g (suc k) a b ≡ true → alike g (suc (suc k)) a b ≡ true
unfolding alike
alike_goes g i k s a b la lb h = from_meets g (alike g (suc k)) a b (meets_more g i (alike g k) (alike g (suc k)) s a b (meets g (alike g k) a b h))

pub family : (g : List TypeDef) → IsGraph g → Family (length g) (alike g)
family g i = record { same = alike_same g i; back = alike_back g; over = alike_over g; less = alike_less g; goes = alike_goes g i }

-- the definitions of two that are the same agree by the same
pub same_meets : (g : List TypeDef) → IsGraph g → (a b : ℕ) → a < length g → b < length g → same g a b ≡ true → Meets g (same g) a b
unfolding alike
same_meets g i a b la lb h = meets g (alike g (length g)) a b (steady_at (length g) (alike g) (family g i) a b la lb h)

-- steady at the number of types and at each greater depth
onward : ℕ → ℕ → ℕ
onward n zero = n
onward n (suc j) = suc (onward n j)

steady_after : (g : List TypeDef) → IsGraph g → (j : ℕ) → Steady (length g) (alike g) (onward (length g) j)
unfolding onward
steady_after g i zero = steady_at (length g) (alike g) (family g i)
steady_after g i (suc j) = alike_goes g i (onward (length g) j) (steady_after g i j)

alike_after : (g : List TypeDef) → IsGraph g → (j a b : ℕ) → a < length g → b < length g → same g a b ≡ true → alike g (onward (length g) j) a b ≡ true
unfolding onward
alike_after g i zero a b la lb h = h
alike_after g i (suc j) a b la lb h = steady_after g i j a b la lb (alike_after g i j a b la lb h)

alike_before : (g : List TypeDef) (j k a b : ℕ) → alike g (onward k j) a b ≡ true → alike g k a b ≡ true
unfolding onward
alike_before g zero k a b h = h
alike_before g (suc j) k a b h = alike_before g j k a b (alike_less g (onward k j) a b h)

onward-is : (n j : ℕ) → onward n j ≡ n + j
unfolding onward
onward-is n zero = omega arith
onward-is n (suc j) = let h = onward-is n j in omega arith

-- same types unfold alike to every depth
pub same_to_each_depth : (g : List TypeDef) → IsGraph g → (k a b : ℕ) → a < length g → b < length g → same g a b ≡ true → alike g k a b ≡ true
same_to_each_depth g i k a b la lb h =
    let e : onward (length g) k ≡ onward k (length g) = onward-is (length g) k ∙ (omega (arith, onward-is k (length g))) in
    alike_before g (length g) k a b (subst (λ n. alike g n a b ≡ true) e (alike_after g i k a b la lb h))
