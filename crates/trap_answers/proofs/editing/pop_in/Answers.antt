use Rattle.std.proofs.Common.{ap}
use Rattle.mu_osr.specs.Rooms.{Room}
use Rattle.trap_answers.proofs.editing.pop_in.Goals as goal

pub returns-clause-made : goal.returns-clause-made
returns-clause-made c = ap (λ (r : Room). r.frames) c.in-Ok.ensures.used

pub returns-clause-pushed : goal.returns-clause-pushed
returns-clause-pushed c = ap (λ (r : Room). r.pushed) c.in-Ok.ensures.used

pub returns-clause-parameters : goal.returns-clause-parameters
returns-clause-parameters c = ap (λ (r : Room). r.parameters) c.in-Ok.ensures.used
