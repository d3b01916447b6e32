use Rattle.bundle_laws.specs.Lemmas.Tables.{tables_fit}
use Rattle.bundle_laws.proofs.laws.accepted_tables_fit.Goals as goal

pub returns : goal.returns
returns c = tables_fit
