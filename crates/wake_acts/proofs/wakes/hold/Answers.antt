use Rattle.wake_acts.proofs.WakeViews.{copied_stays}
use Rattle.wake_acts.proofs.wakes.hold.Goals as goal

pub returns-in_ok-place-in-None-clause-seats : goal.returns-in_ok-place-in-None-clause-seats
returns-in_ok-place-in-None-clause-seats c = copied_stays c.args.code.now c.args.seats.now c.args.thread c.stack_of-stack.result _ _ _ c.in_ok-place-in-None.ensures
