use Rattle.std.proofs.Common.{length}
use Rattle.wake_acts.proofs.wakes.+log_woken.Given as goal

abbrev pub decreases-log_woken : goal.decreases-log_woken
decreases-log_woken g l = length l.woken.now
