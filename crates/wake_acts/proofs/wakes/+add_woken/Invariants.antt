use Rattle.std.proofs.Common.{length}
use Rattle.wake_acts.proofs.wakes.+add_woken.Given as goal

abbrev pub decreases-add_woken : goal.decreases-add_woken
decreases-add_woken l = length l.woken.now
