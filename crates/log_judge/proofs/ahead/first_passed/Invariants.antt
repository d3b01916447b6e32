use Rattle.log_judge.proofs.Passed.{FirstsBelow}
use Rattle.log_judge.proofs.ahead.first_passed.Given as goal

abbrev pub invariant-loop-i : goal.invariant-loop-i
invariant-loop-i l = FirstsBelow l.firsts l.past.tape.events l.event l.i
