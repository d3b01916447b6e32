use Rattle.wake_acts.proofs.WakeViews.{logged_rest}
use Rattle.wake_acts.proofs.wakes.+log_woken.Goals as goal

pub returns-in-Some-clause-added : goal.returns-in-Some-clause-added
returns-in-Some-clause-added g t c = logged_rest c.args.wake c.args.woken.now _ _ _ _ _ c.in-Some.ensures.cases.0 c.log_other.ensures.added c.log_woken.ensures.added
