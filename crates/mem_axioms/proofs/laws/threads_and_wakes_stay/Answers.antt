use Rattle.mem_axioms.specs.Lemmas.Fitting.{thread-stays, thread-made, thread-same, wake-numbered, wake-stays}
use Rattle.mem_axioms.proofs.laws.threads_and_wakes_stay.Goals as goal

pub returns-clause-threads : goal.returns-clause-threads
returns-clause-threads c = thread-stays

pub returns-clause-made : goal.returns-clause-made
returns-clause-made c = thread-made

pub returns-clause-same : goal.returns-clause-same
returns-clause-same c = thread-same

pub returns-clause-numbered : goal.returns-clause-numbered
returns-clause-numbered c = wake-numbered

pub returns-clause-wakes : goal.returns-clause-wakes
returns-clause-wakes c = wake-stays
