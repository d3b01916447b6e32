use Rattle.mu_step.proofs.AtOnce.{settled_at_once}
use Rattle.mu_step.proofs.at_once.step_at_once.Goals as goal

pub returns-clause-made : goal.returns-clause-made
returns-clause-made g c = λ made.
    settled_at_once g.C.Determined.way c.args.code.now c.args.state.now.client c.pick_thread.new.state.client c.args.state.now c.pick_thread.new.state c.turn_at_once-made.new.state c.settle.new.state
    c.pick_thread.ensures.client (c.pick_thread.ensures.step c.args.code.now) (c.turn_at_once-made.ensures.made made) (c.settle.ensures.made made)
