use Rattle.bundle_laws.specs.Lemmas.Tables.{tables_fit}
use Rattle.checked_code.specs.Checking.{bundle_tables}
use Rattle.model_numbers.proofs.Classes.{width_same}
use Rattle.model_numbers.proofs.laws.widths_are_written.Goals as goal

pub returns : goal.returns
returns c = λ bundle names checked t int. width_same (bundle_tables bundle) t (tables_fit bundle names checked) int
