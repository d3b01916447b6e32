-- Picks. One of n options takes the next number, save where there is but one.
use Rattle.std.specs.Prelude.{ℕ, ◌%◌, nat_le, List, [], ◌∷◌, if◌then◌else◌}

-- what is picked, and the numbers that are left; a list that is spent picks option 0
abbrev pub picked_from : ℕ → List ℕ → ℕ × List ℕ
picked_from n [] = (0, [])
picked_from n (p ∷ ps) = (p % n, ps)

abbrev pub pick : ℕ → List ℕ → ℕ × List ℕ
pick n ps = if nat_le n 1 then (0, ps) else picked_from n ps
