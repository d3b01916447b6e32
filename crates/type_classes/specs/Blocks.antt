-- Blocks and their lists of members, one move at a time.
-- Contracts inside the crate cite this; no public one does, so no reader of those needs it.
use Rattle.std.proofs.Common.{◌≡◌, ℕ, ◌<◌, List, length}
use Rattle.std.specs.Prelude.{slice_index}
use Rattle.mu_types.specs.Rows.{Holds}

-- each type stands in the list of its block
abbrev pub Listed : List ℕ → List (List ℕ) → Type 0
Listed block members = (x : ℕ) → x < length block → Holds members (slice_index block x) x

abbrev pub HaveMoved : List ℕ → List ℕ → List ℕ → ℕ → List ℕ → Type 0
HaveMoved was touched target n block = (x k : ℕ) → k < n → slice_index touched k ≡ x → slice_index block x ≡ slice_index target (slice_index was x)

abbrev pub OthersStay : List ℕ → List ℕ → ℕ → List ℕ → Type 0
OthersStay was touched n block = (x : ℕ) → ((k : ℕ) → k < n → slice_index touched k ≡ x → ⊥) → slice_index block x ≡ slice_index was x
