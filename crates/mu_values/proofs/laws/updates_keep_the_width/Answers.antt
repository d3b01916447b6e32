use Rattle.mu_values.specs.Lemmas.Widths.{updated_below}
use Rattle.mu_values.proofs.laws.updates_keep_the_width.Goals as goal

pub returns : goal.returns
returns c = updated_below
