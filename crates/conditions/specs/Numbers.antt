-- The numbers of a condition.
use Rattle.std.specs.Prelude.{ℕ, Bool, not, nat_lt, ◌^◌, ◌&&◌, if◌then◌else◌}
use Rattle.ir_lex.specs.declared.token.Number.{Number}
use Rattle.ir_lex.specs.declared.name.Numeral.{Numeral}

-- from 0 to 2^32 - 1
abbrev pub is_count : Number → Bool
is_count n = not n.negative && nat_lt n.magnitude (2 ^ 32)

-- the number. Another one is refused, and 0 stands for it
abbrev pub count_in : Numeral → ℕ
count_in n = if is_count n.number then n.number.magnitude else 0
