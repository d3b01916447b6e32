use Rattle.std.proofs.Common.{◌≡◌, take}
use Rattle.futex.specs.Waiting.{oldest_at, threads_of}
use Rattle.futex.proofs.waiters.oldest_at.Given as goal

abbrev pub invariant-loop-n : goal.invariant-loop-n
invariant-loop-n l = l.woken ≡ threads_of (oldest_at l.cell l.count (take l.n l.list))
