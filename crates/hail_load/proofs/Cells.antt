-- Cells of objects, and objects that differ in what they begin with alone.
use Rattle.std.proofs.Common.{◌≡◌, ◌≢◌, ℕ, zero, suc, ◌+◌, ◌-◌, ◌<◌, ◌≤◌, List, [], ◌∷◌, ◌++◌, ◌⊎◌, inl, inr, length, take, drop, map, Option, Some, None, IsSomeAnd, slice_get, refl, sym, ap, subst, ◌∙◌, arith}
use Rattle.std.specs.Prelude.{slice_set}
use Rattle.std.proofs.lemmas.Bool.{cases_order}
use Rattle.std.proofs.lemmas.List.{length-append}
use Rattle.mu_values.specs.declared.scalars.Scalar.{Scalar}
use Rattle.typed_heap.specs.Objects.{HeapObject, replaced, filled, with_filled}
use Rattle.typed_heap.specs.Heap.{cells_of}
use Rattle.hail_load.specs.Answering.{AreWhole}
use Rattle.hail_load.specs.Fills.{blank, begun, cell, entry, Given}
use Rattle.checked_code.specs.Lemmas.ConstantMembers.{holds_at}
use Rattle.hail_load.proofs.Filling.{filled_whole}
use Rattle.hail_load.proofs.Stepping.{set_long}

-- ---- lists

-- these from an offset on, over what was there, as far as that goes
pub over : {A : Type 0} → List A → ℕ → List A → List A
over old zero [] = old
over [] zero (x ∷ xs) = []
over (y ∷ old) zero (x ∷ xs) = x ∷ over old zero xs
over [] (suc at) xs = []
over (y ∷ old) (suc at) xs = y ∷ over old at xs

put_is : {A : Type 0} (old : List A) (at n : ℕ) (xs : List A) → n ≡ at + length xs → n ≤ length old → take at old ++ xs ++ drop n old ≡ over old at xs
unfolding over
put_is old zero zero [] e l = refl
put_is old zero (suc n) [] e l = absurd (omega (arith, e))
put_is [] zero n (x ∷ xs) e l = absurd (omega (arith, e, l))
put_is (y ∷ old) zero zero (x ∷ xs) e l = absurd (omega (arith, e))
put_is (y ∷ old) zero (suc n) (x ∷ xs) e l = ap (λ ys. x ∷ ys) (put_is old zero n xs (omega (arith, e)) (omega (arith, l)))
put_is [] (suc at) n xs e l = absurd (omega (arith, e, l))
put_is (y ∷ old) (suc at) zero xs e l = absurd (omega (arith, e))
put_is (y ∷ old) (suc at) (suc n) xs e l = ap (λ ys. y ∷ ys) (put_is old at n xs (omega (arith, e)) (omega (arith, l)))

replaced_is : (old : List Scalar) (at : ℕ) (ss : List Scalar) → at + length ss ≤ length old → replaced old at ss ≡ over old at ss
replaced_is old at ss l = put_is old at (at + length ss) ss refl l

over_in : {A : Type 0} (old : List A) (at k n : ℕ) (xs : List A) → n ≡ at + k → at + length xs ≤ length old → k < length xs → slice_get (over old at xs) n ≡ slice_get xs k
unfolding over
over_in old zero k n [] e l m = absurd (omega (arith, m))
over_in [] zero k n (x ∷ xs) e l m = absurd (omega (arith, l))
over_in (y ∷ old) zero zero zero (x ∷ xs) e l m = refl
over_in (y ∷ old) zero zero (suc n) (x ∷ xs) e l m = absurd (omega (arith, e))
over_in (y ∷ old) zero (suc k) zero (x ∷ xs) e l m = absurd (omega (arith, e))
over_in (y ∷ old) zero (suc k) (suc n) (x ∷ xs) e l m = over_in old zero k n xs (omega (arith, e)) (omega (arith, l)) (omega (arith, m))
over_in [] (suc at) k n xs e l m = absurd (omega (arith, l))
over_in (y ∷ old) (suc at) k zero xs e l m = absurd (omega (arith, e))
over_in (y ∷ old) (suc at) k (suc n) xs e l m = over_in old at k n xs (omega (arith, e)) (omega (arith, l)) m

over_before : {A : Type 0} (old : List A) (at k : ℕ) (xs : List A) → k < at → slice_get (over old at xs) k ≡ slice_get old k
unfolding over
over_before old zero k xs l = absurd (omega (arith, l))
over_before [] (suc at) k xs l = refl
over_before (y ∷ old) (suc at) zero xs l = refl
over_before (y ∷ old) (suc at) (suc k) xs l = over_before old at k xs (omega (arith, l))

over_behind : {A : Type 0} (old : List A) (at k : ℕ) (xs : List A) → at + length xs ≤ k → slice_get (over old at xs) k ≡ slice_get old k
unfolding over
over_behind old zero k [] l = refl
over_behind [] zero k (x ∷ xs) l = refl
over_behind (y ∷ old) zero zero (x ∷ xs) l = absurd (omega (arith, l))
over_behind (y ∷ old) zero (suc k) (x ∷ xs) l = over_behind old zero k xs (omega (arith, l))
over_behind [] (suc at) k xs l = refl
over_behind (y ∷ old) (suc at) zero xs l = absurd (omega (arith, l))
over_behind (y ∷ old) (suc at) (suc k) xs l = over_behind old at k xs (omega (arith, l))

pub over_nothing : {A : Type 0} (old : List A) (at : ℕ) → over old at [] ≡ old
unfolding over
over_nothing old zero = refl
over_nothing [] (suc at) = refl
over_nothing (y ∷ old) (suc at) = ap (λ ys. y ∷ ys) (over_nothing old at)

over_both : {A : Type 0} (old : List A) (at n : ℕ) (xs ys : List A) → n ≡ at + length xs → over (over old at xs) n ys ≡ over old at (xs ++ ys)
unfolding over
over_both old zero n [] ys e = ap (λ j. over old j ys) e
over_both [] zero zero (x ∷ xs) ys e = absurd (omega (arith, e))
over_both [] zero (suc n) (x ∷ xs) ys e = refl
over_both (y ∷ old) zero zero (x ∷ xs) ys e = absurd (omega (arith, e))
over_both (y ∷ old) zero (suc n) (x ∷ xs) ys e = ap (λ zs. x ∷ zs) (over_both old zero n xs ys (omega (arith, e)))
over_both [] (suc at) zero xs ys e = absurd (omega (arith, e))
over_both [] (suc at) (suc n) xs ys e = refl
over_both (y ∷ old) (suc at) zero xs ys e = absurd (omega (arith, e))
over_both (y ∷ old) (suc at) (suc n) xs ys e = ap (λ zs. y ∷ zs) (over_both old at n xs ys (omega (arith, e)))

over_long : {A : Type 0} (old : List A) (at : ℕ) (xs : List A) → length (over old at xs) ≡ length old
unfolding over
over_long old zero [] = refl
over_long [] zero (x ∷ xs) = refl
over_long (y ∷ old) zero (x ∷ xs) = ap (λ n. suc n) (over_long old zero xs)
over_long [] (suc at) xs = refl
over_long (y ∷ old) (suc at) xs = ap (λ n. suc n) (over_long old at xs)

set_twice : {A : Type 0} (xs : List A) (n : ℕ) (a b : A) → slice_set (slice_set xs n a) n b ≡ slice_set xs n b
set_twice [] n a b = refl
set_twice (x ∷ xs) zero a b = refl
set_twice (x ∷ xs) (suc n) a b = ap (λ ys. x ∷ ys) (set_twice xs n a b)

set_found : {A : Type 0} (xs : List A) (n : ℕ) (x : A) → slice_get xs n ≡ Some x → slice_set xs n x ≡ xs
set_found [] n x e = refl
set_found (y ∷ xs) zero x e = let same : x ≡ y = cc in ap (λ z. z ∷ xs) same
set_found (y ∷ xs) (suc n) x e = ap (λ ys. y ∷ ys) (set_found xs n x e)

get_set : {A : Type 0} (xs : List A) (n : ℕ) (x y : A) → slice_get xs n ≡ Some x → slice_get (slice_set xs n y) n ≡ Some y
get_set [] n x y e = cc
get_set (z ∷ xs) zero x y e = refl
get_set (z ∷ xs) (suc n) x y e = get_set xs n x y e

get_other : {A : Type 0} (xs : List A) (n m : ℕ) (y : A) → m ≢ n → slice_get (slice_set xs n y) m ≡ slice_get xs m
get_other [] n m y d = refl
get_other (z ∷ xs) zero zero y d = absurd (d refl)
get_other (z ∷ xs) zero (suc m) y d = refl
get_other (z ∷ xs) (suc n) zero y d = refl
get_other (z ∷ xs) (suc n) (suc m) y d = get_other xs n m y (λ e. d (ap (λ k. suc k) e))

pub found_at : {A : Type 0} (xs : List A) (n : ℕ) → n < length xs → (x : A) × (slice_get xs n ≡ Some x)
found_at [] n l = absurd (omega (arith, l))
found_at (x ∷ xs) zero l = (x, refl)
found_at (x ∷ xs) (suc n) l = found_at xs n (omega (arith, l))

-- ---- objects without what they begin with

pub blank_long : (os : List HeapObject) → length (blank os) ≡ length os
blank_long [] = refl
blank_long (o ∷ os) = ap (λ n. suc n) (blank_long os)

blank_cells : (os : List HeapObject) (n : ℕ) → cells_of (slice_get (blank os) n) ≡ cells_of (slice_get os n)
blank_cells [] n = refl
blank_cells (o ∷ os) zero = refl
blank_cells (o ∷ os) (suc n) = blank_cells os n

pub same_long : (os ps : List HeapObject) → blank os ≡ blank ps → length os ≡ length ps
same_long os ps e = sym (blank_long os) ∙ ap (λ (xs : List HeapObject). length xs) e ∙ blank_long ps

pub same_cells : (os ps : List HeapObject) (n : ℕ) → blank os ≡ blank ps → cells_of (slice_get os n) ≡ cells_of (slice_get ps n)
same_cells os ps n e = sym (blank_cells os n) ∙ ap (λ (xs : List HeapObject). cells_of (slice_get xs n)) e ∙ blank_cells ps n

blank_set : (os : List HeapObject) (n : ℕ) (o : HeapObject) (ss : List Scalar) → slice_get os n ≡ Some o → blank (slice_set os n (record o { initial = ss })) ≡ blank os
blank_set [] n o ss e = refl
blank_set (p ∷ os) zero o ss e =
    let same : p ≡ o = cc in
    ap (λ (q : HeapObject). record q { initial = [] } ∷ blank os) (sym same)
blank_set (p ∷ os) (suc n) o ss e = ap (λ (ps : List HeapObject). record p { initial = [] } ∷ ps) (blank_set os n o ss e)

pub blank_filled : (os : List HeapObject) (n at : ℕ) (ss : List Scalar) → blank (with_filled os n at ss (slice_get os n)) ≡ blank os
blank_filled os n at ss = by (slice_get os n) refl
  where
    by : (p : Option HeapObject) → slice_get os n ≡ p → blank (with_filled os n at ss p) ≡ blank os
    by None e = refl
    by (Some o) e = blank_set os n o (replaced o.initial at ss) e

-- an object is what it is without its cells, and these
same_list : {A : Type 0} (xs ys : List A) → ((k : ℕ) → slice_get xs k ≡ slice_get ys k) → xs ≡ ys
same_list [] [] e = refl
same_list [] (y ∷ ys) e = absurd (let k = e 0 in cc)
same_list (x ∷ xs) [] e = absurd (let k = e 0 in cc)
same_list (x ∷ xs) (y ∷ ys) e =
    let k = e 0 in
    let first : x ≡ y = cc in
    ap (λ z. z ∷ xs) first ∙ ap (λ zs. y ∷ zs) (same_list xs ys (λ k. e (suc k)))

same_object : (o p : HeapObject) → (let q : HeapObject = record o { initial = [] } in q) ≡ record p { initial = [] } → o.initial ≡ p.initial → o ≡ p
same_object o p e f =
    let leaves : o.leaves ≡ p.leaves = ap (λ (q : HeapObject). q.leaves) e in
    let dead : o.dead ≡ p.dead = ap (λ (q : HeapObject). q.dead) e in
    grind (arith, leaves, dead, f)

pub same_objects : (os ps : List HeapObject) → blank os ≡ blank ps → ((n k : ℕ) → cell os n k ≡ cell ps n k) → os ≡ ps
same_objects [] [] e f = refl
same_objects [] (p ∷ ps) e f = absurd cc
same_objects (o ∷ os) [] e f = absurd cc
same_objects (o ∷ os) (p ∷ ps) e f =
    let first : (let q : HeapObject = record o { initial = [] } in q) ≡ record p { initial = [] } = cc in
    let rest : blank os ≡ blank ps = cc in
    let one = same_object o p first (same_list o.initial p.initial (λ k. f 0 k)) in
    ap (λ (q : HeapObject). q ∷ os) one ∙ ap (λ (qs : List HeapObject). p ∷ qs) (same_objects os ps rest (λ n k. f (suc n) k))

-- ---- cells that are filled

whole_at : (os : List HeapObject) (n : ℕ) (o : HeapObject) → AreWhole os → slice_get os n ≡ Some o → length o.initial ≡ length o.leaves
whole_at os n o h e = holds_at (λ (x : HeapObject). length x.initial ≡ length x.leaves) os n o h e

-- one of them
pub cell_in : (os : List HeapObject) (n at k : ℕ) (ss : List Scalar) → AreWhole os → n < length os → at + length ss ≤ cells_of (slice_get os n) → at ≤ k → k < at + length ss →
    cell (with_filled os n at ss (slice_get os n)) n k ≡ slice_get ss (k - at)
cell_in os n at k ss h there l a b =
    let found = found_at os n there in
    let o = found.0 in
    let room : at + length ss ≤ cells_of (Some o) = subst (λ (p : Option HeapObject). at + length ss ≤ cells_of p) found.1 l in
    let within : at + length ss ≤ length o.initial = omega (arith, room, whole_at os n o h found.1) in
    let is : at + (k - at) ≡ k = omega (arith, a) in
    ap (λ (p : Option HeapObject). cell (with_filled os n at ss p) n k) found.1
    ∙ ap (λ (p : Option HeapObject). begun p k) (get_set os n o (filled at ss o) found.1)
    ∙ ap (λ (xs : List Scalar). slice_get xs k) (replaced_is o.initial at ss within)
    ∙ over_in o.initial at (k - at) k ss (sym is) within (omega (arith, a, b))

-- and one that is not
pub cell_out : (os : List HeapObject) (n at m k : ℕ) (ss : List Scalar) → AreWhole os → n < length os → at + length ss ≤ cells_of (slice_get os n) → (m ≡ n → at ≤ k → k < at + length ss → ⊥) →
    cell (with_filled os n at ss (slice_get os n)) m k ≡ cell os m k
cell_out os n at m k ss h there l out = ap (λ (p : Option HeapObject). cell (with_filled os n at ss p) m k) found.1 ∙ by (cases_order m n)
  where
    found : (o : HeapObject) × (slice_get os n ≡ Some o)
    found = found_at os n there

    room : at + length ss ≤ cells_of (Some found.0)
    room = subst (λ (p : Option HeapObject). at + length ss ≤ cells_of p) found.1 l

    within : at + length ss ≤ length found.0.initial
    within = omega (arith, room, whole_at os n found.0 h found.1)

    other : m ≢ n → cell (slice_set os n (filled at ss found.0)) m k ≡ cell os m k
    other d = ap (λ (p : Option HeapObject). begun p k) (get_other os n m (filled at ss found.0) d)

    this : (at ≤ k → k < at + length ss → ⊥) → slice_get (over found.0.initial at ss) k ≡ slice_get found.0.initial k
    this o = by (cases_order k at)
      where
        from : at ≤ k → slice_get (over found.0.initial at ss) k ≡ slice_get found.0.initial k
        from a = by (cases_order k (at + length ss))
          where
            by : (k ≡ at + length ss) ⊎ ((k < at + length ss) ⊎ (at + length ss < k)) → slice_get (over found.0.initial at ss) k ≡ slice_get found.0.initial k
            by (inl s) = over_behind found.0.initial at k ss (omega (arith, s))
            by (inr (inl s)) = absurd (o a s)
            by (inr (inr s)) = over_behind found.0.initial at k ss (omega (arith, s))

        by : (k ≡ at) ⊎ ((k < at) ⊎ (at < k)) → slice_get (over found.0.initial at ss) k ≡ slice_get found.0.initial k
        by (inl s) = from (omega (arith, s))
        by (inr (inl s)) = over_before found.0.initial at k ss s
        by (inr (inr s)) = from (omega (arith, s))

    by : (m ≡ n) ⊎ ((m < n) ⊎ (n < m)) → cell (slice_set os n (filled at ss found.0)) m k ≡ cell os m k
    by (inl s) =
        ap (λ (j : ℕ). cell (slice_set os n (filled at ss found.0)) j k) s
        ∙ ap (λ (p : Option HeapObject). begun p k) (get_set os n found.0 (filled at ss found.0) found.1)
        ∙ ap (λ (xs : List Scalar). slice_get xs k) (replaced_is found.0.initial at ss within)
        ∙ this (λ a b. out s a b)
        ∙ sym (ap (λ (p : Option HeapObject). begun p k) found.1)
        ∙ sym (ap (λ (j : ℕ). cell os j k) s)
    by (inr (inl s)) = other (λ t. omega (arith, s, t))
    by (inr (inr s)) = other (λ t. omega (arith, s, t))

pub some_room : (os : List HeapObject) (n many : ℕ) → n < length os → many ≤ cells_of (slice_get os n) → IsSomeAnd (slice_get os n) (λ o. many ≤ length o.leaves)
some_room os n many there l =
    let found = found_at os n there in
    subst (λ (p : Option HeapObject). many ≤ cells_of p → IsSomeAnd p (λ o. many ≤ length o.leaves)) (sym found.1) (λ m. m) l

pub whole_filled : (os : List HeapObject) (n at : ℕ) (ss : List Scalar) → AreWhole os → n < length os → at + length ss ≤ cells_of (slice_get os n) → AreWhole (with_filled os n at ss (slice_get os n))
whole_filled os n at ss h there l = filled_whole os n at ss h (some_room os n (at + length ss) there l)

-- no cells
pub nothing_filled : (os : List HeapObject) (n at : ℕ) → AreWhole os → n < length os → at ≤ cells_of (slice_get os n) → with_filled os n at [] (slice_get os n) ≡ os
nothing_filled os n at h there l =
    let found = found_at os n there in
    let o = found.0 in
    let room : at ≤ cells_of (Some o) = subst (λ (p : Option HeapObject). at ≤ cells_of p) found.1 l in
    let within : at + 0 ≤ length o.initial = omega (arith, room, whole_at os n o h found.1) in
    ap (λ (p : Option HeapObject). with_filled os n at [] p) found.1
    ∙ ap (λ (xs : List Scalar). slice_set os n (record o { initial = xs })) (replaced_is o.initial at [] within ∙ over_nothing o.initial at)
    ∙ set_found os n o found.1

-- some, and those behind them
pub both_filled : (os : List HeapObject) (n at : ℕ) (xs ys : List Scalar) → AreWhole os → n < length os → at + length (xs ++ ys) ≤ cells_of (slice_get os n) →
    with_filled (with_filled os n at xs (slice_get os n)) n (at + length xs) ys (slice_get (with_filled os n at xs (slice_get os n)) n) ≡ with_filled os n at (xs ++ ys) (slice_get os n)
both_filled os n at xs ys h there l =
    let found = found_at os n there in
    let o = found.0 in
    let p = filled at xs o in
    let room : at + length (xs ++ ys) ≤ cells_of (Some o) = subst (λ (p : Option HeapObject). at + length (xs ++ ys) ≤ cells_of p) found.1 l in
    let all : at + length (xs ++ ys) ≤ length o.initial = omega (arith, room, whole_at os n o h found.1) in
    let long : length (xs ++ ys) ≡ length xs + length ys = length-append xs ys in
    let some : at + length xs ≤ length o.initial = omega (arith, all, long) in
    let first = replaced_is o.initial at xs some in
    let behind : (at + length xs) + length ys ≤ length (over o.initial at xs) = omega (arith, all, long, over_long o.initial at xs) in
    let cells : replaced p.initial (at + length xs) ys ≡ replaced o.initial at (xs ++ ys) =
    ap (λ (zs : List Scalar). replaced zs (at + length xs) ys) first ∙ replaced_is (over o.initial at xs) (at + length xs) ys behind
    ∙ over_both o.initial at (at + length xs) xs ys refl ∙ sym (replaced_is o.initial at (xs ++ ys) all) in
    ap (λ (q : Option HeapObject). with_filled (with_filled os n at xs q) n (at + length xs) ys (slice_get (with_filled os n at xs q) n)) found.1
    ∙ ap (λ (q : Option HeapObject). with_filled (slice_set os n p) n (at + length xs) ys q) (get_set os n o p found.1)
    ∙ set_twice os n p (filled (at + length xs) ys p)
    ∙ ap (λ (zs : List Scalar). slice_set os n (record o { initial = zs })) cells
    ∙ sym (ap (λ (q : Option HeapObject). with_filled os n at (xs ++ ys) q) found.1)

-- ---- cells that are given their scalars

pub given_none : (os : List HeapObject) (row : List ℕ) (object at : ℕ) (ss : List Scalar) → AreWhole os → Given os os row object at at ss
given_none os row object at ss h = record {
  whole = h;
  same = refl;
  kept = λ n k out. refl;
  given = λ k a b z. absurd (omega (arith, a, b));
}

-- cells that are covered are passed
pub given_passed : (old new : List HeapObject) (row : List ℕ) (object at to next : ℕ) (ss : List Scalar) → Given old new row object at to ss → ((k : ℕ) → to ≤ k → k < next → 1 ≤ entry row k) → to ≤ next →
    Given old new row object at next ss
given_passed old new row object at to next ss g passed l = record {
  whole = g.whole;
  same = g.same;
  kept = λ n k out. g.kept n k (λ e a b z. out e a (omega (arith, b, l)) z);
  given = λ k a b z. by k a b z (cases_order k to);
}
  where
    by : (k : ℕ) → at ≤ k → k < next → entry row k ≡ 0 → (k ≡ to) ⊎ ((k < to) ⊎ (to < k)) → cell new object k ≡ slice_get ss (k - at)
    by k a b z (inl s) = absurd (let so = passed k (omega (arith, s)) b in omega (arith, so, z))
    by k a b z (inr (inl s)) = g.given k a s z
    by k a b z (inr (inr s)) = absurd (let so = passed k (omega (arith, s)) b in omega (arith, so, z))

-- one that is not is given its scalar
pub given_one : (old now new : List HeapObject) (row : List ℕ) (object at i : ℕ) (ss : List Scalar) (s : Scalar) → Given old now row object at i ss → at ≤ i → entry row i ≡ 0 → slice_get ss (i - at) ≡ Some s →
    object < length now → i + 1 ≤ cells_of (slice_get now object) → new ≡ with_filled now object i (s ∷ []) (slice_get now object) → Given old new row object at (i + 1) ss
given_one old now new row object at i ss s g l z is there room set = record {
  whole = subst (λ (os : List HeapObject). AreWhole os) (sym set) (whole_filled now object i (s ∷ []) g.whole there room);
  same = ap (λ (os : List HeapObject). blank os) set ∙ blank_filled now object i (s ∷ []) ∙ g.same;
  kept = λ n k out.
      ap (λ (os : List HeapObject). cell os n k) set ∙ cell_out now object i n k (s ∷ []) g.whole there room (λ e a b. this n k out e (omega (arith, a, b)))
      ∙ g.kept n k (λ e a b y. out e a (omega (arith, b)) y);
  given = λ k a b y. by k a b y (cases_order k i);
}
  where
    this : (n k : ℕ) → (n ≡ object → at ≤ k → k < i + 1 → entry row k ≡ 0 → ⊥) → n ≡ object → k ≡ i → ⊥
    this n k out e f = out e (omega (arith, l, f)) (omega (arith, f)) (ap (λ (j : ℕ). entry row j) f ∙ z)

    by : (k : ℕ) → at ≤ k → k < i + 1 → entry row k ≡ 0 → (k ≡ i) ⊎ ((k < i) ⊎ (i < k)) → cell new object k ≡ slice_get ss (k - at)
    by k a b y (inl e) =
        ap (λ (os : List HeapObject). cell os object k) set
        ∙ cell_in now object i k (s ∷ []) g.whole there room (omega (arith, e)) (omega (arith, e))
        ∙ ap (λ (j : ℕ). slice_get (s ∷ []) j) (let none : k - i ≡ 0 = omega (arith, e) in none)
        ∙ sym is ∙ ap (λ (j : ℕ). slice_get ss (j - at)) (sym e)
    by k a b y (inr (inl e)) =
        ap (λ (os : List HeapObject). cell os object k) set
        ∙ cell_out now object i object k (s ∷ []) g.whole there room (λ t c d. omega (arith, e, c))
        ∙ g.given k a e y
    by k a b y (inr (inr e)) = absurd (omega (arith, e, b))
