-- Offsets that a place may have, and what is found at one.
-- Contracts inside the crate cite this; no public one does, so no reader of those needs it.
use Rattle.std.specs.Prelude.{ℕ, ◌^◌, Bool, ◌&&◌, ◌||◌, ◌==◌, not, nat_lt, List, Option, Some, None, length, drop, ℤ, pos, nat_abs, int_lt, if◌then◌else◌}
use Rattle.type_definitions.specs.declared.definition.TypeDef.{TypeDef}
use Rattle.typed_heap.specs.Fits.{fits}

-- an offset of 32 bits, where the number is one
abbrev pub offset_of : ℤ → Option ℕ
offset_of z = if not (int_lt z (pos 0)) && int_lt z (pos (2 ^ 32)) then Some (nat_abs z) else None

-- a type is found at a place of these leaves, or the place is their end
abbrev pub leaves_fit : List TypeDef → ℕ → List ℕ → ℕ → Bool
leaves_fit graph t cs at = (at == length cs) || (nat_lt at (length cs) && fits graph t (drop at cs))
