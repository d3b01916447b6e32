use Rattle.std.proofs.Common.{subst}
use Rattle.run_state.specs.Held.{Held}
use Rattle.run_state.specs.Hand.{IsSound}
use Rattle.mu_step.proofs.locals.stands.Goals as goal

pub returns : goal.returns
returns g c = subst (λ (s : Held). IsSound s.left s.thread s.stack s.seats s.log) c.state.view_is c.state.invariant.5
