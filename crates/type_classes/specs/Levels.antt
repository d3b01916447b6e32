-- Numbers of leaves by depth.
-- Contracts inside the crate cite this; no public one does, so no reader of those needs it.
use Rattle.std.proofs.Common.{◌≡◌, ℕ, List, length, min}
use Rattle.std.specs.Prelude.{slice_index}
use Rattle.type_definitions.specs.declared.definition.TypeDef.{TypeDef}
use Rattle.type_definitions.specs.Leaves.{leaves_to}

-- the number of leaves to a depth of each type, up to a cap
abbrev pub Counts : List TypeDef → ℕ → ℕ → List ℕ → Type 0
Counts g k cap counts = (x : ℕ) → slice_index counts x ≡ min cap (length (leaves_to g k x))
