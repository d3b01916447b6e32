-- The run with a number comes to what stands at that place of the leaves, and is there where there are more leaves.
use Rattle.std.specs.Prelude.{◌≡◌, ◌<◌, ◌≤◌, ◌+◌, ℕ, zero, suc, ◌%◌, nat_lt, Bool, true, false, List, [], ◌∷◌, Option, Some, None, option_and_then, option_map, is_some, ◌++◌, length, slice_get, if◌then◌else◌, refl}
use Rattle.std.proofs.Common.{sym, ◌∙◌, ap, subst, arith, inl, inr}
use Rattle.std.proofs.lemmas.Bool.{ltb-true, ltb-false}
use Rattle.std.proofs.lemmas.Bool.Decides.{leb_tells}
use Rattle.std.proofs.lemmas.Nat.{mod_below}
use Rattle.std.proofs.Math.Nat.{mod-eq_of_lt}
use Rattle.std.proofs.lemmas.List.{length-append}
use Rattle.std.proofs.lemmas.Option.{slice_get_within}
use Rattle.odometer.specs.Trees.{Tree, Leaf, Node, leaf}
use Rattle.odometer.specs.Odometer.{path, raised, next, nth, nth_leaf}
use Rattle.leaf_laws.specs.Leaves.{lists_below, leaf_list}

abbrev sum_below : (ℕ → ℕ) → ℕ → ℕ
sum_below f zero = 0
sum_below f (suc n) = f n + sum_below f n

-- how many leaves there are
abbrev leaves : {A : Type 0} → Tree A → ℕ
leaves (Leaf a) = 1
leaves (Node n kids) = sum_below (λ k. leaves (kids k)) (suc (suc n))

-- how many of them come before the one that these numbers lead to
abbrev place : {A : Type 0} → Tree A → List ℕ → ℕ
place (Leaf a) ps = 0
place (Node n kids) [] = sum_below (λ k. leaves (kids k)) 0 + place (kids 0) []
place (Node n kids) (p ∷ ps) = sum_below (λ k. leaves (kids k)) (p % suc (suc n)) + place (kids (p % suc (suc n))) ps

-- what follows a leaf: the one behind it, or none, where it is the last
abbrev Follows : {A : Type 0} → Tree A → ℕ → Option (List ℕ) → Type 0
Follows t here (Some ks) = place t ks ≡ suc here
Follows t here None = leaves t ≡ suc here

-- a number below one of the parts
below_sum : (f : ℕ → ℕ) (n k m : ℕ) → k < n → m < f k → sum_below f k + m < sum_below f n
below_sum f zero k m l h = absurd (omega (arith, l))
below_sum f (suc n) k m l h = elim (leb_tells n k) [
  | inl e ↦
      let same : k ≡ n = omega (arith, l, e.1) in
      let here : m < f n = subst (λ j. m < f j) same h in
      let sums : sum_below f k ≡ sum_below f n = ap (sum_below f) same in
      omega (arith, here, sums)
  | inr e ↦ let r = below_sum f n k m e.1 h in omega (arith, r)
]

-- the leaf with this number is there, or there are no more than so many
abbrev Stands : {A : Type 0} → Tree A → ℕ → Option (List ℕ) → Type 0
Stands t k (Some ks) = place t ks ≡ k
Stands t k None = leaves t ≤ k

module _ {A : Type 0} where
  place_first : (t : Tree A) → place t [] ≡ 0
  place_first (Leaf a) = refl
  place_first (Node n kids) = let r = place_first (kids 0) in omega (arith, r)

  place_node : (n k : ℕ) (kids : ℕ → Tree A) (ps : List ℕ) → k < suc (suc n) → place (Node n kids) (k ∷ ps) ≡ sum_below (λ k. leaves (kids k)) k + place (kids k) ps
  place_node n k kids ps l = ap (λ m. sum_below (λ k. leaves (kids k)) m + place (kids m) ps) (mod-eq_of_lt l)

  follows_node : (n k here : ℕ) (kids : ℕ → Tree A) (o : Option (List ℕ)) → k < suc (suc n) → Follows (kids k) here o
      → Follows (Node n kids) (sum_below (λ k. leaves (kids k)) k + here) (raised (record { picked = k; options = suc (suc n) }) o)
  follows_node n k here kids (Some more) l h = let e = place_node n k kids more l in omega (arith, e, h)
  follows_node n k here kids None l h = by (nat_lt (suc k) (suc (suc n))) refl
    where
      by : (b : Bool) → nat_lt (suc k) (suc (suc n)) ≡ b → Follows (Node n kids) (sum_below (λ k. leaves (kids k)) k + here) (if b then Some (suc k ∷ []) else None)
      by true q =
          let e = place_node n (suc k) kids [] (ltb-true (suc k) (suc (suc n)) q) in
          let z = place_first (kids (suc k)) in
          omega (arith, e, h, z)
      by false q =
          let last : suc n ≡ k = omega (arith, l, ltb-false (suc k) (suc (suc n)) q) in
          ap (λ m. sum_below (λ k. leaves (kids k)) (suc m)) last ∙ omega (arith, h)

  follows : (t : Tree A) (ks : List ℕ) → Follows t (place t ks) (next (path t ks))
  follows (Leaf a) ks = refl
  follows (Node n kids) [] = follows_node n 0 (place (kids 0) []) kids (next (path (kids 0) [])) (omega arith) (follows (kids 0) [])
  follows (Node n kids) (p ∷ ps) =
      let k : ℕ = p % suc (suc n) in
      follows_node n k (place (kids k) ps) kids (next (path (kids k) ps)) (mod_below p (suc (suc n)) (omega arith)) (follows (kids k) ps)

  some_leaf : (t : Tree A) (ks : List ℕ) → place t ks < leaves t
  some_leaf (Leaf a) ks = omega arith
  some_leaf (Node n kids) [] = below_sum (λ k. leaves (kids k)) (suc (suc n)) 0 (place (kids 0) []) (omega arith) (some_leaf (kids 0) [])
  some_leaf (Node n kids) (p ∷ ps) =
      let k : ℕ = p % suc (suc n) in
      below_sum (λ k. leaves (kids k)) (suc (suc n)) k (place (kids k) ps) (mod_below p (suc (suc n)) (omega arith)) (some_leaf (kids k) ps)

  behind : (t : Tree A) (k here : ℕ) (o : Option (List ℕ)) → here ≡ k → Follows t here o → Stands t (suc k) o
  behind t k here (Some ks) e h = omega (arith, e, h)
  behind t k here None e h = omega (arith, e, h)

  stands : (t : Tree A) (k : ℕ) → Stands t k (nth t k)
  stands t zero = place_first t
  stands t (suc k) = by (nth t k) (stands t k)
    where
      by : (o : Option (List ℕ)) → Stands t k o → Stands t (suc k) (option_and_then (λ ks. next (path t ks)) o)
      by None h = omega (arith, h)
      by (Some ks) h = behind t k (place t ks) (next (path t ks)) h (follows t ks)

  below_leaves : (t : Tree A) (k : ℕ) (o : Option (List ℕ)) → Stands t k o → is_some o ≡ true → k < leaves t
  below_leaves t k (Some ks) h e = let l = some_leaf t ks in omega (arith, l, h)
  below_leaves t k None h e = cc

-- ---- the list of what stands at the leaves

sums_same : (f g : ℕ → ℕ) (n : ℕ) → ((k : ℕ) → f k ≡ g k) → sum_below f n ≡ sum_below g n
sums_same f g zero h = refl
sums_same f g (suc n) h = let here = h n in let r = sums_same f g n h in omega (arith, here, r)

module _ {A : Type 0} where
  get_before : (xs ys : List A) (k : ℕ) (x : A) → slice_get xs k ≡ Some x → slice_get (xs ++ ys) k ≡ Some x
  get_before [] ys k x e = cc
  get_before (y ∷ xs) ys zero x e = e
  get_before (y ∷ xs) ys (suc k) x e = get_before xs ys k x e

  get_behind : (xs ys : List A) (k : ℕ) → slice_get (xs ++ ys) (length xs + k) ≡ slice_get ys k
  get_behind [] ys k = let e : 0 + k ≡ k = omega arith in ap (slice_get ys) e
  get_behind (y ∷ xs) ys k = let e : suc (length xs) + k ≡ suc (length xs + k) = omega arith in ap (slice_get (y ∷ (xs ++ ys))) e ∙ get_behind xs ys k

  length_below : (f : ℕ → List A) (n : ℕ) → length (lists_below f n) ≡ sum_below (λ k. length (f k)) n
  length_below f zero = refl
  length_below f (suc n) = let r = length_below f n in let e = length-append (lists_below f n) (f n) in omega (arith, r, e)

  get_part : (f : ℕ → List A) (n k m : ℕ) (x : A) → k < n → slice_get (f k) m ≡ Some x → slice_get (lists_below f n) (sum_below (λ k. length (f k)) k + m) ≡ Some x
  get_part f zero k m x l e = absurd (omega (arith, l))
  get_part f (suc n) k m x l e = elim (leb_tells n k) [
    | inl q ↦
        let same : k ≡ n = omega (arith, l, q.1) in
        ap (λ k. slice_get (lists_below f n ++ f n) (sum_below (λ k. length (f k)) k + m)) same
        ∙ ap (λ d. slice_get (lists_below f n ++ f n) (d + m)) (sym (length_below f n))
        ∙ get_behind (lists_below f n) (f n) m
        ∙ ap (λ k. slice_get (f k) m) (sym same)
        ∙ e
    | inr q ↦ get_before (lists_below f n) (f n) (sum_below (λ k. length (f k)) k + m) x (get_part f n k m x q.1 e)
  ]

  leaves_listed : (t : Tree A) → leaves t ≡ length (leaf_list t)
  leaves_listed (Leaf a) = refl
  leaves_listed (Node n kids) = sums_same (λ k. leaves (kids k)) (λ k. length (leaf_list (kids k))) (suc (suc n)) (λ k. leaves_listed (kids k)) ∙ sym (length_below (λ k. leaf_list (kids k)) (suc (suc n)))

  get_node : (n k : ℕ) (kids : ℕ → Tree A) (ps : List ℕ) → k < suc (suc n) → slice_get (leaf_list (kids k)) (place (kids k) ps) ≡ Some (leaf (kids k) ps)
      → slice_get (leaf_list (Node n kids)) (sum_below (λ k. leaves (kids k)) k + place (kids k) ps) ≡ Some (leaf (kids k) ps)
  get_node n k kids ps l e =
      ap (λ d. slice_get (leaf_list (Node n kids)) (d + place (kids k) ps)) (sums_same (λ k. leaves (kids k)) (λ k. length (leaf_list (kids k))) k (λ k. leaves_listed (kids k)))
      ∙ get_part (λ k. leaf_list (kids k)) (suc (suc n)) k (place (kids k) ps) (leaf (kids k) ps) l e

  -- at its place stands the leaf that the numbers lead to
  get_leaf : (t : Tree A) (ps : List ℕ) → slice_get (leaf_list t) (place t ps) ≡ Some (leaf t ps)
  get_leaf (Leaf a) ps = refl
  get_leaf (Node n kids) [] = get_node n 0 kids [] (omega arith) (get_leaf (kids 0) [])
  get_leaf (Node n kids) (p ∷ ps) = get_node n (p % suc (suc n)) kids ps (mod_below p (suc (suc n)) (omega arith)) (get_leaf (kids (p % suc (suc n))) ps)

  -- Where there is a run with this number there are more leaves.
  pub nth_within : (t : Tree A) (k : ℕ) → is_some (nth t k) ≡ true → k < length (leaf_list t)
  nth_within t k h = let few = below_leaves t k (nth t k) (stands t k) h in let e = leaves_listed t in omega (arith, few, e)

  -- What stands at a place is what the run with that number comes to.
  pub get_nth : (t : Tree A) (k : ℕ) (x : A) → slice_get (leaf_list t) k ≡ Some x → nth_leaf t k ≡ Some x
  get_nth t k x e = by (nth t k) (stands t k)
    where
      by : (o : Option (List ℕ)) → Stands t k o → option_map (leaf t) o ≡ Some x
      by None h = let low = slice_get_within (leaf_list t) k x e in let many = leaves_listed t in absurd (omega (arith, h, low, many))
      by (Some ks) h = sym (get_leaf t ks) ∙ ap (slice_get (leaf_list t)) h ∙ e
