use Rattle.std.proofs.Common.{length}
use Rattle.wake_acts.proofs.wakes.+go_on_all.Given as goal

abbrev pub decreases-go_on_all : goal.decreases-go_on_all
decreases-go_on_all l = length l.woken.now
