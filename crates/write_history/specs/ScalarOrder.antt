-- An order on scalars: by kind, then by what they hold. Any order would do.
use Rattle.std.specs.Prelude.{◌==◌, Bool, if◌then◌else◌, nat_lt}
use Rattle.mu_values.specs.declared.scalars.Scalar.{Scalar}
use Rattle.mu_values.specs.declared.scalars.Scalar.TheVariants.{Int, Null, Object, Place, Func, Stack, Thread}
use Rattle.write_history.specs.declared.scalar_order.SortKey.{SortKey}

-- No two scalars have one key.
abbrev pub key_of : Scalar → SortKey
key_of Null = record { kind = 0; first = 0; second = 0 }
key_of (Object object) = record { kind = 1; first = object; second = 0 }
key_of (Place object position) = record { kind = 2; first = object; second = position }
key_of (Func function) = record { kind = 3; first = function; second = 0 }
key_of (Stack stack) = record { kind = 4; first = stack; second = 0 }
key_of (Thread thread) = record { kind = 5; first = thread; second = 0 }
key_of (Int width bits) = record { kind = 6; first = bits; second = width }

abbrev pub is_below : SortKey → SortKey → Bool
is_below a b =
    if a.kind == b.kind then (if a.first == b.first then nat_lt a.second b.second else nat_lt a.first b.first)
    else nat_lt a.kind b.kind

abbrev pub is_lower : Scalar → Scalar → Bool
is_lower a b = is_below (key_of a) (key_of b)
