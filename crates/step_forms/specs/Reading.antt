-- Nothing that a reader believes of a run rests on this. It is the value that was read of an operand.
use Rattle.std.specs.Prelude.{List, [], ◌∷◌}
use Rattle.mu_values.specs.declared.scalars.Scalar.{Scalar}
use Rattle.step_forms.specs.declared.operands.Reading.{Reading}
use Rattle.step_forms.specs.declared.operands.Reading.TheVariants.{Held, Made}

abbrev pub scalars_read : Reading → List Scalar
scalars_read (Held scalars) = scalars.now
scalars_read (Made scalar) = scalar ∷ []
