use Rattle.model_laws.specs.Lemmas.Proved.{meets, race_free, reads_offered}
use Rattle.model_laws.proofs.laws.logs_meet_the_axioms.Goals as goal

pub returns-clause-axioms : goal.returns-clause-axioms
returns-clause-axioms c = meets

pub returns-clause-races : goal.returns-clause-races
returns-clause-races c = race_free

pub returns-clause-reads : goal.returns-clause-reads
returns-clause-reads c = reads_offered
