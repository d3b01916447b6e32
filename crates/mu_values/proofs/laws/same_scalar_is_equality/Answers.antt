use Rattle.mu_values.specs.ScalarLaws.{same_scalar-iff}
use Rattle.mu_values.proofs.laws.same_scalar_is_equality.Goals as goal

pub returns : goal.returns
returns c = same_scalar-iff
