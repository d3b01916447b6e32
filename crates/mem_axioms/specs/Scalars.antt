-- The scalars of the values of objects.
use Rattle.std.specs.Prelude.{List, map}
use Rattle.mu_base.specs.Lists.{Roomy}
use Rattle.mu_values.specs.declared.scalars.Scalar.{Scalar}

abbrev pub scalars_of : List (Roomy Scalar) → List (List Scalar)
scalars_of values = map (λ value. value.members) values
