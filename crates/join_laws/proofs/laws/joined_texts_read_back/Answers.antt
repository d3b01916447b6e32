use Rattle.join_laws.proofs.Texts.{joined_reads_back}
use Rattle.join_laws.proofs.laws.joined_texts_read_back.Goals as goal

pub returns : goal.returns
returns c = joined_reads_back
