use Rattle.run_lines.proofs.PlainLines.{texts_plain}
use Rattle.run_lines.proofs.laws.texts_are_plain.Goals as goal

pub returns : goal.returns
returns c = texts_plain
