use Rattle.model_laws.specs.Lemmas.Printing.{first_is_printable, steps_stay_printable}
use Rattle.model_laws.proofs.laws.logs_stay_printable.Goals as goal

pub returns-clause-first : goal.returns-clause-first
returns-clause-first c = first_is_printable

pub returns-clause-steps : goal.returns-clause-steps
returns-clause-steps c = steps_stay_printable
