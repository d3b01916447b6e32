use Rattle.text_programs.specs.Lemmas.Entered.{entered_runs_have_an_ending}
use Rattle.text_programs.proofs.laws.entered_runs_have_an_ending.Goals as goal

pub returns : goal.returns
returns c = entered_runs_have_an_ending
