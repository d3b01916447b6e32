use Rattle.mem_axioms.specs.Lemmas.Options.{newest-is, newest-first, newest-first-choice, choices-some}
use Rattle.mem_axioms.proofs.laws.newest_is_an_option.Goals as goal

pub returns-clause-option : goal.returns-clause-option
returns-clause-option c = λ rule initial log thread cell order m. newest-is rule initial log thread cell m order

pub returns-clause-first : goal.returns-clause-first
returns-clause-first c = λ rule initial log thread cell order m. newest-first rule initial log thread cell m order

pub returns-clause-first_choice : goal.returns-clause-first_choice
returns-clause-first_choice c = λ rule initial log thread cell order m. newest-first-choice rule initial log thread cell m order

pub returns-clause-choice : goal.returns-clause-choice
returns-clause-choice c = λ rule initial log thread cell wanted m. choices-some rule initial log thread cell m wanted
