use Rattle.wake_acts.proofs.WakeViews.{nothing_back}
use Rattle.wake_acts.proofs.wakes.give_back.Goals as goal

pub returns-clause-seats : goal.returns-clause-seats
returns-clause-seats c = λ fs there. nothing_back c.args.seats.now c.args.thread c.args.onward.stack c.args.onward.taken c.args.onward.variables.values fs c.if-taken.false there
