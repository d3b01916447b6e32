use Rattle.mu_values.specs.Lemmas.Widths.{binary_below}
use Rattle.mu_values.proofs.laws.results_keep_the_width.Goals as goal

pub returns : goal.returns
returns c = binary_below
