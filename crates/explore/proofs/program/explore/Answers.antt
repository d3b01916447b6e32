use Rattle.explore.proofs.Causes.{refused_cause, read_fault_cause, too_long_cause, accepted_cause, no_other, usage_only, usage_is, complete}
use Rattle.explore.proofs.program.explore.Goals as goal

pub returns-clause-usage : goal.returns-clause-usage
returns-clause-usage g c = λ none whole. usage_is _ _ _ _ _ _ _ c.answer.ensures.explored none whole

pub returns-clause-usage_only : goal.returns-clause-usage_only
returns-clause-usage_only g c = λ s. usage_only _ _ _ _ _ _ _ c.answer.ensures.explored s

pub returns-clause-read_fault : goal.returns-clause-read_fault
returns-clause-read_fault g c = λ s. read_fault_cause _ _ _ _ _ _ _ c.answer.ensures.explored s

pub returns-clause-too_long : goal.returns-clause-too_long
returns-clause-too_long g c = λ s. too_long_cause _ _ _ _ _ _ _ c.answer.ensures.explored s

pub returns-clause-refused : goal.returns-clause-refused
returns-clause-refused g c = λ s. refused_cause _ _ _ _ _ _ _ c.answer.ensures.explored s

pub returns-clause-accepted : goal.returns-clause-accepted
returns-clause-accepted g c = λ s. accepted_cause _ _ _ _ _ _ _ c.answer.ensures.explored s

pub returns-clause-no_other : goal.returns-clause-no_other
returns-clause-no_other g c = λ whole u f l r. no_other _ _ _ _ _ _ _ c.answer.ensures.explored whole u f l r

pub returns-clause-complete : goal.returns-clause-complete
returns-clause-complete g c = λ files told quiet. complete _ files _ _ _ _ _ _ c.answer.ensures.explored told quiet
