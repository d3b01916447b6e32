use Rattle.mem_axioms.specs.Lemmas.Growing.{sound-none, sound-more}
use Rattle.mem_axioms.proofs.laws.fitting_events_stay_sound.Goals as goal

pub returns-clause-empty : goal.returns-clause-empty
returns-clause-empty c = sound-none

pub returns-clause-fitting : goal.returns-clause-fitting
returns-clause-fitting c = sound-more
