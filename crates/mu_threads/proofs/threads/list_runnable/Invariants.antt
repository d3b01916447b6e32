use Rattle.std.proofs.Common.{◌≡◌, ◌≤◌, take}
use Rattle.std.specs.Vec.{vec_capacity}
use Rattle.mu_threads.specs.Threads.{runnable_from}
use Rattle.mu_threads.proofs.threads.list_runnable.Given as goal

abbrev pub invariant-loop-n : goal.invariant-loop-n
invariant-loop-n l = (l.runnable.items ≡ runnable_from 0 (take l.n l.states)) × (64 ≤ vec_capacity l.runnable)
