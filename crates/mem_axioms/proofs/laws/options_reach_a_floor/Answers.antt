use Rattle.mem_axioms.specs.Lemmas.Floors.{options-floor}
use Rattle.mem_axioms.specs.Lemmas.Options.{floor-option, floor-below, options-number, options-nth}
use Rattle.mem_axioms.proofs.laws.options_reach_a_floor.Goals as goal

pub returns-clause-options : goal.returns-clause-options
returns-clause-options c = options-floor

pub returns-clause-option : goal.returns-clause-option
returns-clause-option c = λ rule initial log thread cell order m. floor-option rule initial log thread cell m order

pub returns-clause-reached : goal.returns-clause-reached
returns-clause-reached c = λ rule initial log thread cell order m. floor-below rule initial log thread cell m order

pub returns-clause-number : goal.returns-clause-number
returns-clause-number c = λ rule initial log thread cell order m. options-number rule initial log thread cell m order

pub returns-clause-position : goal.returns-clause-position
returns-clause-position c = λ rule initial log thread cell order m. options-nth rule initial log thread cell m order
