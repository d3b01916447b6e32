-- A tree of picks, and the leaf that a schedule leads to.
use Rattle.std.specs.Prelude.{ℕ, zero, suc, ◌%◌, nat_le, List, [], ◌∷◌, if◌then◌else◌}

-- the number of one of n options, by the first number of a schedule, or 0 where the schedule has none; and the numbers that are left
abbrev pub picked_from : ℕ → List ℕ → ℕ × List ℕ
picked_from n [] = (0, [])
picked_from n (p ∷ ps) = (p % n, ps)

abbrev pub pick : ℕ → List ℕ → ℕ × List ℕ
pick n ps = if nat_le n 1 then (0, ps) else picked_from n ps

-- A leaf, at which nothing is left to pick; or a pick among n + 2 options, with the tree of each.
pub data Tree (A : Type 0) : Type 0 where
  Leaf : A → Tree A
  Node : ℕ → (ℕ → Tree A) → Tree A

-- a pick among n options; one option is taken without a pick
abbrev pub branches : {A : Type 0} → ℕ → (ℕ → Tree A) → Tree A
branches zero kids = kids 0
branches (suc zero) kids = kids 0
branches (suc (suc n)) kids = Node n kids

-- the leaf that these numbers lead to
abbrev pub leaf : {A : Type 0} → Tree A → List ℕ → A
leaf (Leaf a) ps = a
leaf (Node n kids) [] = leaf (kids 0) []
leaf (Node n kids) (p ∷ ps) = leaf (kids (p % suc (suc n))) ps

-- the numbers that are left at that leaf
abbrev pub rest : {A : Type 0} → Tree A → List ℕ → List ℕ
rest (Leaf a) ps = ps
rest (Node n kids) [] = rest (kids 0) []
rest (Node n kids) (p ∷ ps) = rest (kids (p % suc (suc n))) ps

-- a tree grown from each leaf
abbrev pub grown : {A B : Type 0} → Tree A → (A → Tree B) → Tree B
grown (Leaf a) more = more a
grown (Node n kids) more = Node n (λ k. grown (kids k) more)

-- P holds of each leaf
abbrev pub AllLeaves : {A : Type 0} → (A → Type 0) → Tree A → Type 0
AllLeaves P t = (ps : List ℕ) → P (leaf t ps)
