use Rattle.text_programs.specs.Lemmas.RunLogs.{lines_tell}
use Rattle.text_programs.proofs.laws.lines_tell_the_log.Goals as goal

pub returns : goal.returns
returns c = lines_tell
