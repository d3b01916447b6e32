use Rattle.std.proofs.Common.{◌<◌, List, length, sym, subst, arith}
use Rattle.mem_axioms.specs.declared.types.Event.{Event}
use Rattle.mem_axioms.specs.Threads.{HaveFewThreads}
use Rattle.log_reading.proofs.Few.{few_more}
use Rattle.log_reading.proofs.reading.Reading.line.Goals as goal

pub invariant_of-self-in_err-push : goal.invariant_of-self-in_err-push
invariant_of-self-in_err-push c = subst (λ (log : List Event). HaveFewThreads log × (length log < 4294967295)) (sym c.in_err-push.ensures.err) c.self.invariant

pub invariant_of-self-2 : goal.invariant_of-self-2
invariant_of-self-2 c =
    let n = c.len-n.ensures in
    let few = c.if-n-ge-MOST_EVENTS.false in
    subst (λ (log : List Event). HaveFewThreads log × (length log < 4294967295)) (sym c.in_ok-push.ensures.ok)
    (few_more c.self.inside.log c.in_ok-event.event c.self.invariant.0 c.in_ok-event.ensures.few, omega (arith, n, few))
