use Rattle.way_laws.proofs.Entries.{entry_answers_fit}
use Rattle.way_laws.proofs.laws.entry_answers_fit.Goals as goal

pub returns : goal.returns
returns c = entry_answers_fit
