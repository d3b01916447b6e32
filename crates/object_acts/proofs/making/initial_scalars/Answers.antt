use Rattle.run_state.specs.Remembering.{one_more_scalar}
use Rattle.object_acts.proofs.making.initial_scalars.Goals as goal

pub loop-at-preserved : goal.loop-at-preserved
loop-at-preserved c = one_more_scalar _ _ _ _ _ c.loop-at.invariant c.initial.ensures c.in_ok-push.ensures.ok
