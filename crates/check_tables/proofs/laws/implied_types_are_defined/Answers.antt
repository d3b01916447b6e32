use Rattle.check_tables.specs.Lemmas.Defined.{are_defined}
use Rattle.check_tables.proofs.laws.implied_types_are_defined.Goals as goal

pub returns : goal.returns
returns c = are_defined
