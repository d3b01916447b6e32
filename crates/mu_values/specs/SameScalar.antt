-- Whether two scalars are one.
use Rattle.std.specs.Prelude.{Bool, true, false, ◌&&◌, ◌==◌}
use Rattle.mu_values.specs.declared.scalars.Scalar.{Scalar}
use Rattle.mu_values.specs.declared.scalars.Scalar.TheVariants.{Int, Null, Object, Place, Func, Stack, Thread}

-- Integers are one where both width and bits are, places where object and cell are. Scalars of two kinds differ.
abbrev pub same_scalar : Scalar → Scalar → Bool
same_scalar (Int width bits) (Int width' bits') = (width == width') && (bits == bits')
same_scalar Null Null = true
same_scalar (Object object) (Object object') = object == object'
same_scalar (Place object at') (Place object' at'') = (object == object') && (at' == at'')
same_scalar (Func function) (Func function') = function == function'
same_scalar (Stack stack) (Stack stack') = stack == stack'
same_scalar (Thread thread) (Thread thread') = thread == thread'
same_scalar _ _ = false
