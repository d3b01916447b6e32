use Rattle.std.proofs.Common.{◌≡◌, drop}
use Rattle.std.specs.List.{find}
use Rattle.futex.specs.Waiting.{is_of}
use Rattle.futex.proofs.waiters.find.Given as goal

abbrev pub invariant-loop-n : goal.invariant-loop-n
invariant-loop-n l = find (is_of l.thread) l.list ≡ find (is_of l.thread) (drop l.n l.list)
