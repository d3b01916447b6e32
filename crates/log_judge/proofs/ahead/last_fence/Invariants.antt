use Rattle.log_judge.proofs.Passed.{IsLast, knows_fence}
use Rattle.log_judge.proofs.ahead.last_fence.Given as goal

abbrev pub invariant-loop-i : goal.invariant-loop-i
invariant-loop-i l = IsLast (knows_fence l.clock) l.past.tape.events l.i l.last
