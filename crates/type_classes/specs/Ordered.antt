-- Values of types that are found in an order in which parts come before their wholes.
-- Contracts inside the crate cite this; no public one does, so no reader of those needs it.
use Rattle.std.proofs.Common.{◌≡◌, ℕ, ◌<◌, List, get_or}
use Rattle.std.specs.Prelude.{slice_index}

-- the type with each rank stands there in the order
abbrev pub IsOrder : ℕ → List ℕ → List ℕ → Type 0
IsOrder n rank order = (a : ℕ) → a < n → slice_index order (slice_index rank a) ≡ a

-- the values of the types of the first ranks are found
abbrev pub Found : {V : Type 0} → V → ℕ → List ℕ → (ℕ → V) → List V → ℕ → Type 0
Found d n rank F vals i = (a : ℕ) → a < n → slice_index rank a < i → get_or vals a d ≡ F a
