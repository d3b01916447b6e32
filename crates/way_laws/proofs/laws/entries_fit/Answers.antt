use Rattle.way_laws.proofs.Entries.{entries_fit}
use Rattle.way_laws.proofs.laws.entries_fit.Goals as goal

pub returns : goal.returns
returns c = entries_fit
