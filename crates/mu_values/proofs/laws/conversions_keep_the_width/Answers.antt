use Rattle.mu_values.specs.Lemmas.Widths.{converted_below}
use Rattle.mu_values.proofs.laws.conversions_keep_the_width.Goals as goal

pub returns : goal.returns
returns c = converted_below
