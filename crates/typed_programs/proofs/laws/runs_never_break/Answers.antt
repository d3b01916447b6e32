use Rattle.typed_programs.specs.Lemmas.Running.{runs_have_an_ending, never_breaks}
use Rattle.typed_programs.proofs.laws.runs_never_break.Goals as goal

pub returns-clause-endings : goal.returns-clause-endings
returns-clause-endings c = runs_have_an_ending

pub returns-clause-breaks : goal.returns-clause-breaks
returns-clause-breaks c = never_breaks
