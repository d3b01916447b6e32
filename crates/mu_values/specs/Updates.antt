-- Updates of cells that hold integers of w bits: what stands in the cell after an update by b, where a stood before.
use Rattle.std.specs.Prelude.{ℕ, pos, ◌+◌, ◌-◌, ◌%◌, ◌^◌, ◌-ℤ◌, nat_lt, int_lt, bit_and, bit_or, bit_xor, if◌then◌else◌}
use Rattle.mu_base.specs.declared.operators.UpdateOp.{UpdateOp}
use Rattle.mu_base.specs.declared.operators.UpdateOp.TheVariants as updates
use Rattle.mu_values.specs.Integers.{signed, bits_of}

-- Sums and differences wrap. NAND is the complement of AND. MAX and MIN are signed, UMAX and UMIN unsigned.
abbrev pub updated_bits : UpdateOp → ℕ → ℕ → ℕ → ℕ
updated_bits updates.Xchg w a b = b
updated_bits updates.Add w a b = (a + b) % 2 ^ w
updated_bits updates.Sub w a b = bits_of w (pos a -ℤ pos b)
updated_bits updates.And w a b = bit_and a b
updated_bits updates.Nand w a b = 2 ^ w - 1 - bit_and a b
updated_bits updates.Or w a b = bit_or a b
updated_bits updates.Xor w a b = bit_xor a b
updated_bits updates.Max w a b = if int_lt (signed w a) (signed w b) then b else a
updated_bits updates.Min w a b = if int_lt (signed w a) (signed w b) then a else b
updated_bits updates.Umax w a b = if nat_lt a b then b else a
updated_bits updates.Umin w a b = if nat_lt a b then a else b
