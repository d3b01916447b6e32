use Rattle.std.proofs.Common.{sym, ◌∙◌, arith}
use Rattle.std.proofs.lemmas.Bool.{false≢true}
use Rattle.log_judge.proofs.Listed.{small-in}
use Rattle.log_judge.proofs.Passed.{firsts-set, firsts-stay, firsts-are, not-zero, event-in}
use Rattle.log_judge.proofs.ahead.first_passed.Goals as goal
use Rattle.log_judge.proofs.ahead.first_passed.Goals.{then-passes_over+then-of-eq0, else-passes_over, else-passes_over-via-then-passes_over+else-of-eq0, else-passes_over-via-else-passes_over}

pub of-requires : goal.of-requires
of-requires c =
    let past = c.args.past.now in
    let l = c.loop-i-test.true in
    small-in past.threads.items past.tape.events c.args.whole.now c.loop-i.i c.event-earlier.result.now past.threads_hold c.requires (let n = past.counted in omega (arith, l, n)) c.event-earlier.ensures

pub set-requires-clause-thread : goal.set-requires-clause-thread
set-requires-clause-thread c =
    let past = c.args.past.now in
    let l = c.loop-i-test.true in
    small-in past.threads.items past.tape.events c.args.whole.now c.loop-i.i c.event-earlier.result.now past.threads_hold c.requires (let n = past.counted in omega (arith, l, n)) c.event-earlier.ensures

pub loop-i-preserved : goal.loop-i-preserved
loop-i-preserved c =
    let past = c.args.past.now in
    let log = past.tape.events in
    let e = c.event-earlier.result.now in
    let l = c.loop-i-test.true in
    let at = event-in log c.args.whole.now c.loop-i.i e c.requires (let n = past.counted in omega (arith, l, n)) c.event-earlier.ensures in
    elim c.if-passes_over.branch [
      | then-passes_over+then-of-eq0 w ↦ rw w.firsts-is (firsts-set c.loop-i.firsts w.set.new.self log c.args.event.now c.loop-i.i e at
          (sym c.passes_over.ensures ∙ w.if-passes_over.true) (sym w.of.ensures ∙ w.if-of-eq0.true) w.set.ensures c.loop-i.invariant)
      | else-passes_over w ↦ rw w.firsts-is (firsts-stay c.loop-i.firsts log c.args.event.now c.loop-i.i e at
          (elim w.else-passes_over.branch [
            | else-passes_over-via-then-passes_over+else-of-eq0 v ↦ (λ t. not-zero _ (λ z. v.if-of-eq0.false (v.of.ensures ∙ z)))
            | else-passes_over-via-else-passes_over v ↦ (λ t. absurd (false≢true (sym v.if-passes_over.false ∙ (c.passes_over.ensures ∙ t))))
          ])
          c.loop-i.invariant)
    ]

pub returns : goal.returns
returns c =
    let past = c.args.past.now in
    let l = c.loop-i-test.false in
    firsts-are c.loop-i.firsts past.tape.events c.args.event.now c.loop-i.i (let n = past.counted in omega (arith, l, n)) c.loop-i.invariant
