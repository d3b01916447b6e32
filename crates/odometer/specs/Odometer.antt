-- The odometer: which picks follow some picks.
use Rattle.std.specs.Prelude.{◌<◌, ℕ, zero, suc, ◌%◌, nat_lt, Bool, true, List, [], ◌∷◌, map, Option, Some, None, option_map, option_and_then, is_some, is_none, ◌&&◌, if◌then◌else◌}
use Rattle.odometer.specs.Trees.{Tree, Leaf, Node, leaf, AllLeaves}
use Rattle.odometer.specs.declared.picks.Pick.{Pick}

abbrev pub IsPick : Pick → Type 0
IsPick p = p.picked < p.options

abbrev pub digits : List Pick → List ℕ
digits ps = map (λ (p : Pick). p.picked) ps

-- how many options each pick had
abbrev pub choices_of : List Pick → List ℕ
choices_of ps = map (λ (p : Pick). p.options) ps

-- the picks that these numbers make
abbrev pub path : {A : Type 0} → Tree A → List ℕ → List Pick
path (Leaf a) ps = []
path (Node n kids) [] = record { picked = 0; options = suc (suc n) } ∷ path (kids 0) []
path (Node n kids) (p ∷ ps) = record { picked = p % suc (suc n); options = suc (suc n) } ∷ path (kids (p % suc (suc n))) ps

-- the last pick that has a further option takes it, and later picks are dropped
abbrev pub raised : Pick → Option (List ℕ) → Option (List ℕ)
raised p (Some more) = Some (p.picked ∷ more)
raised p None = if nat_lt (suc p.picked) p.options then Some (suc p.picked ∷ []) else None

abbrev pub next : List Pick → Option (List ℕ)
next [] = None
next (p ∷ ps) = raised p (next ps)

-- ---- the runs in the order of the odometer

-- The numbers by which the run with this number is made, if there are so many runs: the first run takes the first option of each pick.
abbrev pub nth : {A : Type 0} → Tree A → ℕ → Option (List ℕ)
nth t zero = Some []
nth t (suc k) = option_and_then (λ ks. next (path t ks)) (nth t k)

-- the result of that run
abbrev pub nth_leaf : {A : Type 0} → Tree A → ℕ → Option A
nth_leaf t k = option_map (leaf t) (nth t k)

-- there is no such run, or it has a result
abbrev pub says : {A : Type 0} → Option (Option A) → Bool
says None = true
says (Some o) = is_some o

abbrev pub all_say : {A : Type 0} → Tree (Option A) → ℕ → Bool
all_say t zero = true
all_say t (suc n) = all_say t n && says (nth_leaf t n)

-- there is no run after the first n, and each of these has a result
abbrev pub is_searched : {A : Type 0} → Tree (Option A) → ℕ → Bool
is_searched t n = is_none (nth t n) && all_say t n

-- ---- what holds of the leaves so far

-- P holds of each leaf that comes before these picks, which are picks of the tree
abbrev pub Before : {A : Type 0} → (A → Type 0) → Tree A → List ℕ → Type 0
Before P (Leaf a) ks = Unit {0}
Before P (Node n kids) [] = Unit {0}
Before P (Node n kids) (k ∷ ks) = (k < suc (suc n)) × ((j : ℕ) → j < k → AllLeaves P (kids j)) × Before P (kids k) ks

-- P holds of each leaf before the next picks, or of all leaves where there are no next picks
abbrev pub Onward : {A : Type 0} → (A → Type 0) → Tree A → Option (List ℕ) → Type 0
Onward P t None = AllLeaves P t
Onward P t (Some ks) = Before P t ks
