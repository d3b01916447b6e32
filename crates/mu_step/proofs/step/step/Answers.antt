use Rattle.mu_step.specs.CastLaws.{good_then}
use Rattle.mu_step.proofs.step.step.Goals as goal

pub returns-then-steps-state-clause-casts : goal.returns-then-steps-state-clause-casts
returns-then-steps-state-clause-casts g c =
    good_then g.C.Determined.way c.args.code.now c.args.state.now.client c.args.state.now c.make_step.new.state c.make_step.result c.make_step.new.casts c.make_step.ensures.ok c.make_step.ensures.err c.make_step.ensures.stays
    c.make_step.ensures.casts
