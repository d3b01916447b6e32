use Rattle.std.proofs.Common.{◌≡◌, take}
use Rattle.seats.specs.Kept.{all_running}
use Rattle.seats.proofs.waits.run_all_again.Given as goal

abbrev pub invariant-loop-n : goal.invariant-loop-n
invariant-loop-n l = l.threads ≡ all_running (take l.n l.ones) l.fn.threads
