-- Marks on the types from which a walk leads to a goal.
-- Contracts inside the crate cite this; no public one does, so no reader of those needs it.
use Rattle.std.proofs.Common.{◌≡◌, ℕ, Bool, false, List}
use Rattle.std.specs.Prelude.{slice_index_or}
use Rattle.type_definitions.specs.declared.definition.TypeDef.{TypeDef}
use Rattle.type_definitions.specs.Parts.{leads}

abbrev pub is_marked : List Bool → ℕ → Bool
is_marked marks x = slice_index_or marks x false

-- those marked are those from which a walk of that many steps leads to b
abbrev pub Marks : List TypeDef → ℕ → ℕ → List Bool → Type 0
Marks g k b marks = (x : ℕ) → is_marked marks x ≡ leads g k b x
