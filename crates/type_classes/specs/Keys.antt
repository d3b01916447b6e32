-- One number for the constructor, the number and the number of arguments of a definition.
-- Contracts inside the crate cite this; no public one does, so no reader of those needs it.
use Rattle.std.proofs.Common.{◌≡◌, ℕ, ◌+◌, ◌*◌, ◌%◌, List, length, Some, slice_get}
use Rattle.std.specs.Prelude.{slice_index}
use Rattle.type_definitions.specs.declared.definition.TypeDef.{TypeDef}
use Rattle.type_definitions.specs.Definition.{constructor, number, arguments}

abbrev pub key_of : TypeDef → ℕ
key_of d = (number d % 16777216 * 4294967296 + length (arguments d) % 4294967296) * 16 + constructor d

-- definitions of one key are in one block
abbrev pub IsKeyed : List TypeDef → List ℕ → Type 0
IsKeyed g block = (a b : ℕ) (d e : TypeDef) → slice_get g a ≡ Some d → slice_get g b ≡ Some e → key_of d ≡ key_of e → slice_index block a ≡ slice_index block b
