-- What stands at the leaves of a tree of picks, and lists that have the members of others among theirs.
use Rattle.std.specs.Prelude.{◌≡◌, ◌⊎◌, ℕ, zero, suc, List, [], ◌∷◌, ◌++◌}
use Rattle.odometer.specs.Trees.{Tree, Leaf, Node}

abbrev pub lists_below : {A : Type 0} → (ℕ → List A) → ℕ → List A
lists_below f zero = []
lists_below f (suc n) = lists_below f n ++ f n

-- what its leaves come to, in the order of the odometer: one for each way in which the picks may go
abbrev pub leaf_list : {A : Type 0} → Tree A → List A
leaf_list (Leaf a) = a ∷ []
leaf_list (Node n kids) = lists_below (λ k. leaf_list (kids k)) (suc (suc n))

-- The members of the first list are members of the second, at as many places, in the same order.
abbrev pub Among : {A : Type 0} → List A → List A → Type 0
Among [] ys = Unit {0}
Among (x ∷ xs) [] = ⊥
Among (x ∷ xs) (y ∷ ys) = ((x ≡ y) × Among xs ys) ⊎ Among (x ∷ xs) ys
