use Rattle.mem_axioms.specs.Lemmas.Racings.{race-is, race_free-is, race_free-from}
use Rattle.mem_axioms.proofs.laws.least_race_is_named.Goals as goal

pub returns-clause-race : goal.returns-clause-race
returns-clause-race c = race-is

pub returns-clause-race_free : goal.returns-clause-race_free
returns-clause-race_free c = λ rule log. (race_free-is rule log, race_free-from rule log)
