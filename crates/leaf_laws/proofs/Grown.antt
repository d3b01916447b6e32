-- What stands at the leaves of a tree that is grown from another.
use Rattle.std.specs.Prelude.{◌≡◌, ◌<◌, ℕ, zero, suc, List, [], ◌∷◌, ◌++◌, map, refl}
use Rattle.std.proofs.Common.{sym, ◌∙◌, ap, subst, arith, inl, inr}
use Rattle.std.proofs.lemmas.Bool.Decides.{leb_tells}
use Rattle.odometer.specs.Trees.{Tree, Leaf, Node, branches, grown}
use Rattle.leaf_laws.specs.Leaves.{lists_below, leaf_list, Among}
use Rattle.leaf_laws.specs.Lemmas.Members.{among_self, among_behind, among_before, among_both}

module _ {A : Type 0} where
  -- a part is among the whole, and parts are among parts
  part_among : (f : ℕ → List A) (n k : ℕ) → k < n → Among (f k) (lists_below f n)
  part_among f zero k l = absurd (omega (arith, l))
  part_among f (suc n) k l = elim (leb_tells n k) [
    | inl e ↦ let same : n ≡ k = omega (arith, l, e.1) in subst (λ k. Among (f k) (lists_below f n ++ f n)) same (among_behind (f n) (lists_below f n) (f n) (among_self (f n)))
    | inr e ↦ among_before (f k) (lists_below f n) (f n) (part_among f n k e.1)
  ]

  parts_among : (f g : ℕ → List A) (n : ℕ) → ((k : ℕ) → Among (f k) (g k)) → Among (lists_below f n) (lists_below g n)
  parts_among f g zero h = tt
  parts_among f g (suc n) h = among_both (lists_below f n) (f n) (lists_below g n) (g n) (parts_among f g n h) (h n)

map_both : {A B : Type 0} (f : A → B) (xs ys : List A) → map f (xs ++ ys) ≡ map f xs ++ map f ys
map_both f [] ys = refl
map_both f (x ∷ xs) ys = ap (λ zs. f x ∷ zs) (map_both f xs ys)

map_below : {A B : Type 0} (f : A → B) (g : ℕ → List B) (h : ℕ → List A) (n : ℕ) → ((k : ℕ) → g k ≡ map f (h k)) → lists_below g n ≡ map f (lists_below h n)
map_below f g h zero e = refl
map_below f g h (suc n) e = ap (λ zs. zs ++ g n) (map_below f g h n e) ∙ ap (λ zs. map f (lists_below h n) ++ zs) (e n) ∙ sym (map_both f (lists_below h n) (h n))

-- what is grown from a kid is among what is grown from its node
kid_among : {A B : Type 0} (n k : ℕ) (kids : ℕ → Tree A) (more : A → Tree B) → k < n → Among (leaf_list (grown (kids k) more)) (leaf_list (grown (branches n kids) more))
kid_among zero k kids more l = absurd (omega (arith, l))
kid_among (suc zero) k kids more l =
    let same : 0 ≡ k = omega (arith, l) in
    subst (λ k. Among (leaf_list (grown (kids k) more)) (leaf_list (grown (kids 0) more))) same (among_self (leaf_list (grown (kids 0) more)))
kid_among (suc (suc n)) k kids more l = part_among (λ k. leaf_list (grown (kids k) more)) (suc (suc n)) k l

module _ {A B : Type 0} where
  -- less grows from each leaf
  pub grown_among : (less more : A → Tree B) (t : Tree A) → ((a : A) → Among (leaf_list (less a)) (leaf_list (more a))) → Among (leaf_list (grown t less)) (leaf_list (grown t more))
  grown_among less more (Leaf a) h = h a
  grown_among less more (Node n kids) h = parts_among (λ k. leaf_list (grown (kids k) less)) (λ k. leaf_list (grown (kids k) more)) (suc (suc n)) (λ k. grown_among less more (kids k) h)

  -- what each leaf is made to
  pub leaves_mapped : (f : A → B) (t : Tree A) → leaf_list (grown t (λ a. Leaf (f a))) ≡ map f (leaf_list t)
  leaves_mapped f (Leaf a) = refl
  leaves_mapped f (Node n kids) = map_below f (λ k. leaf_list (grown (kids k) (λ a. Leaf (f a)))) (λ k. leaf_list (kids k)) (suc (suc n)) (λ k. leaves_mapped f (kids k))

  -- what is grown from a kid that is a leaf is among what is grown from the pick
  pub branch_among : (n k : ℕ) (kids : ℕ → Tree A) (a : A) (more : A → Tree B) (t : Tree A) → k < n → kids k ≡ Leaf a → t ≡ branches n kids → Among (leaf_list (more a)) (leaf_list (grown t more))
  branch_among n k kids a more t l e same =
      subst (λ t. Among (leaf_list (more a)) (leaf_list (grown t more))) (sym same)
      (subst (λ (u : Tree A). Among (leaf_list (grown u more)) (leaf_list (grown (branches n kids) more))) e (kid_among n k kids more l))
