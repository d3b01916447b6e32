-- Comparisons of two scalars of one type.
use Rattle.std.specs.Prelude.{◌≡◌, ℕ, Bool, false, not, nat_lt, nat_le, int_lt, int_le}
use Rattle.mu_base.specs.declared.operators.CompareOp.{CompareOp}
use Rattle.mu_base.specs.declared.operators.CompareOp.TheVariants as comparisons
use Rattle.mu_values.specs.declared.scalars.Scalar.{Scalar}
use Rattle.mu_values.specs.declared.scalars.Scalar.TheVariants.{Int}
use Rattle.mu_values.specs.SameScalar.{same_scalar}
use Rattle.mu_values.specs.Integers.{IsInteger, signed}

-- integers of one width, or no two integers
abbrev pub AreComparable : Scalar → Scalar → Type 0
AreComparable (Int w a) (Int w' b) = (w ≡ w') × IsInteger w a × IsInteger w b
AreComparable _ _ = Unit {0}

-- an order of integers; other scalars have none
abbrev pub ordered : (ℕ → ℕ → ℕ → Bool) → Scalar → Scalar → Bool
ordered before (Int w a) (Int w' b) = before w a b
ordered before _ _ = false

-- S is signed, U unsigned
abbrev pub compared : CompareOp → Scalar → Scalar → Bool
compared comparisons.Eq a b = same_scalar a b
compared comparisons.Ne a b = not (same_scalar a b)
compared comparisons.Slt a b = ordered (λ w m n. int_lt (signed w m) (signed w n)) a b
compared comparisons.Sle a b = ordered (λ w m n. int_le (signed w m) (signed w n)) a b
compared comparisons.Sgt a b = ordered (λ w m n. int_lt (signed w n) (signed w m)) a b
compared comparisons.Sge a b = ordered (λ w m n. int_le (signed w n) (signed w m)) a b
compared comparisons.Ult a b = ordered (λ w m n. nat_lt m n) a b
compared comparisons.Ule a b = ordered (λ w m n. nat_le m n) a b
compared comparisons.Ugt a b = ordered (λ w m n. nat_lt n m) a b
compared comparisons.Uge a b = ordered (λ w m n. nat_le n m) a b
