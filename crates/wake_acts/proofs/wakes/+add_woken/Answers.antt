use Rattle.wake_acts.proofs.WakeViews.{lines_none, empty_is}
use Rattle.wake_acts.proofs.wakes.+add_woken.Goals as goal

pub returns-in-None : goal.returns-in-None
returns-in-None t c = lines_none c.args.wake c.args.number c.args.woken.now c.args.lines.now (empty_is c.args.woken.now c.in-None.ensures.cases)
