use Rattle.wake_acts.proofs.WakeViews.{taken_back}
use Rattle.wake_acts.proofs.wakes.take.Goals as goal

pub returns-in-Err-clause-err : goal.returns-in-Err-clause-err
returns-in-Err-clause-err c = taken_back c.args.seats.now _ _ c.args.thread c.args.stack _ _ _ c.exchange_variables.ensures.seats c.exchange_variables.ensures.variables c.reserve.ensures.values c.exchange_variables-in-Err.ensures.seats
