use Rattle.std.proofs.Common.{◌∙◌}
use Rattle.mu_step.specs.CastLaws.{good_at_once}
use Rattle.mu_step.proofs.machine.Machine.advance.Goals as goal

pub invariant_of-self : goal.invariant_of-self
invariant_of-self g c = (
  c.step_at_once.ensures.whole,
  c.step_at_once.ensures.same ∙ c.self.invariant.1,
  good_at_once g.C.Determined.way c.self.inside.code.now c.self.inside.state.client c.self.inside.state c.step_at_once.new.state c.step_at_once.result c.self.inside.casts
      c.step_at_once.ensures.made c.step_at_once.ensures.left c.self.invariant.2,
)
