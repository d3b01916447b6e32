use Rattle.mu_osr.specs.Lemmas.EditLaws.{pops, pushes}
use Rattle.mu_osr.proofs.laws.edits_are_abstract_edits.Goals as goal

pub returns-clause-pops : goal.returns-clause-pops
returns-clause-pops c = pops

pub returns-clause-pushes : goal.returns-clause-pushes
returns-clause-pushes c = pushes
