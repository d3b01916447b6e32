use Rattle.typed_programs.specs.Lemmas.Running.{plain_runs_have_an_ending, plain_runs_never_break}
use Rattle.typed_programs.proofs.laws.plain_runs_never_break.Goals as goal

pub returns-clause-endings : goal.returns-clause-endings
returns-clause-endings c = plain_runs_have_an_ending

pub returns-clause-breaks : goal.returns-clause-breaks
returns-clause-breaks c = plain_runs_never_break
