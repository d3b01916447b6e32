-- Worked examples. What updates leave in a cell.
use Rattle.std.specs.Prelude.{◌≡◌, refl}
use Rattle.mu_base.specs.declared.operators.UpdateOp.TheVariants as updates
use Rattle.mu_values.specs.Updates.{updated_bits}

sums_and_differences_wrap : (updated_bits updates.Add 8 255 1 ≡ 0) × (updated_bits updates.Sub 8 0 1 ≡ 255)
sums_and_differences_wrap = (refl, refl)

nand_is_the_complement_of_and : (updated_bits updates.Nand 8 12 10 ≡ 247) × (updated_bits updates.Nand 1 1 1 ≡ 0)
nand_is_the_complement_of_and = (refl, refl)

-- 128 is -128 as a signed integer of 8 bits
the_greater_and_the_less :
    (updated_bits updates.Max 8 128 127 ≡ 127)
    × (updated_bits updates.Min 8 128 127 ≡ 128)
    × (updated_bits updates.Umax 8 128 127 ≡ 128)
    × (updated_bits updates.Umin 8 128 127 ≡ 127)
the_greater_and_the_less = (refl, refl, refl, refl)
