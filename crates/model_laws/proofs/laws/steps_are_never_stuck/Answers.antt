use Rattle.model_laws.specs.Lemmas.Proved.{steps_well, clients_settle}
use Rattle.model_laws.proofs.laws.steps_are_never_stuck.Goals as goal

pub returns-clause-steps : goal.returns-clause-steps
returns-clause-steps c = steps_well

pub returns-clause-clients : goal.returns-clause-clients
returns-clause-clients c = clients_settle
