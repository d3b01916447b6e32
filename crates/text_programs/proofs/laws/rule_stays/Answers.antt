use Rattle.text_programs.specs.Lemmas.RunLogs.{rule_stays}
use Rattle.text_programs.proofs.laws.rule_stays.Goals as goal

pub returns : goal.returns
returns c = rule_stays
