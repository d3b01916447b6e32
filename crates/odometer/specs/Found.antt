-- What a search found so far.
use Rattle.std.specs.Prelude.{◌≡◌, ◌<◌, ◌^◌, ◌⊎◌, All, ℕ, true, List, Option, Some, IsSome, IsSomeAnd, is_some}
use Rattle.std.specs.BTreeMap.{BTreeMap, get_by}
use Rattle.std.specs.Global.{Vec}
use Rattle.std.specs.Cmp.Lexicographic.{slice_cmp}
use Rattle.std.specs.Ordering.{nat_cmp}
use Rattle.odometer.specs.Trees.{Tree, leaf}
use Rattle.odometer.specs.Odometer.{path, next, nth_leaf, Before, Onward}

-- the schedule that is kept with a text
abbrev pub numbers_at : BTreeMap (Vec ℕ) (Vec ℕ) → List ℕ → Option (Vec ℕ)
numbers_at m text = get_by (λ (k : Vec ℕ). slice_cmp nat_cmp text k.items) m

-- each text is the result of the run by its schedule
abbrev pub Shown : (List ℕ → Option (List ℕ)) → BTreeMap (Vec ℕ) (Vec ℕ) → Type 0
Shown shows m = (text : List ℕ) (v : Vec ℕ) → numbers_at m text ≡ Some v → shows v.items ≡ Some text

-- the numbers of each schedule have 32 bits
abbrev pub AreNumbers : BTreeMap (Vec ℕ) (Vec ℕ) → Type 0
AreNumbers m = (text : List ℕ) (v : Vec ℕ) → numbers_at m text ≡ Some v → All (λ n. n < 2 ^ 32) v.items

abbrev pub IsAmongFound : BTreeMap (Vec ℕ) (Vec ℕ) → Option (List ℕ) → Type 0
IsAmongFound m o = IsSomeAnd o (λ text. IsSome (numbers_at m text))

-- the texts of the first n runs are found
abbrev pub HasRuns : BTreeMap (Vec ℕ) (Vec ℕ) → Tree (Option (List ℕ)) → ℕ → Type 0
HasRuns m t n = (k : ℕ) → k < n → (text : List ℕ) → nth_leaf t k ≡ Some (Some text) → IsSome (numbers_at m text)

-- the text was found, with this schedule where it was not found before, and nothing else changed
pub record Keeps (m n : BTreeMap (Vec ℕ) (Vec ℕ)) (text numbers : List ℕ) : Type 0 where
  pub here : IsSome (numbers_at n text)
  pub each : (other : List ℕ) (v : Vec ℕ) → numbers_at n other ≡ Some v → (numbers_at m other ≡ Some v) ⊎ ((other ≡ text) × (v.items ≡ numbers))
  pub stay : (other : List ℕ) → IsSome (numbers_at m other) → IsSome (numbers_at n other)

-- what was found after a run by these numbers
pub record RanOn (t : Tree (Option (List ℕ))) (shows : List ℕ → Option (List ℕ)) (m n : BTreeMap (Vec ℕ) (Vec ℕ)) (numbers : List ℕ) : Type 0 where
  pub shown : Shown shows m → Shown shows n
  pub fits : AreNumbers m → AreNumbers n
  pub here : (text : List ℕ) → leaf t numbers ≡ Some text → IsSome (numbers_at n text)
  pub stay : (text : List ℕ) → IsSome (numbers_at m text) → IsSome (numbers_at n text)
  pub onward : is_some (leaf t numbers) ≡ true → Before (IsAmongFound m) t numbers → Onward (IsAmongFound n) t (next (path t numbers))
