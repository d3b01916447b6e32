use Rattle.std.proofs.Common.{sym, ◌∙◌, slice_index, arith}
use Rattle.std.proofs.lemmas.Bool.{lt-ltb, le-ltb}
use Rattle.mem_axioms.specs.Events.{is_seq_cst_fence}
use Rattle.log_judge.proofs.Listed.{small-in}
use Rattle.log_judge.proofs.Passed.{knows_fence, last_here, last_stays, last_is, fence-holds, not-first, not-second, event-in}
use Rattle.log_judge.proofs.ahead.last_fence.Goals as goal
use Rattle.log_judge.proofs.ahead.last_fence.Goals.{then-seq_cst_fence+then-i-of, else-seq_cst_fence, else-seq_cst_fence-via-then-seq_cst_fence+else-i-of, else-seq_cst_fence-via-else-seq_cst_fence}

pub of-requires : goal.of-requires
of-requires c =
    let past = c.args.past.now in
    let l = c.loop-i-test.true in
    small-in past.threads.items past.tape.events c.args.whole.now c.loop-i.i c.event-earlier.result.now past.threads_hold c.requires (let n = past.counted in omega (arith, l, n)) c.event-earlier.ensures

pub loop-i-preserved : goal.loop-i-preserved
loop-i-preserved c =
    let past = c.args.past.now in
    let log = past.tape.events in
    let clock = c.args.clock.now in
    let e = c.event-earlier.result.now in
    let l = c.loop-i-test.true in
    let at = event-in log c.args.whole.now c.loop-i.i e c.requires (let n = past.counted in omega (arith, l, n)) c.event-earlier.ensures in
    elim c.if-seq_cst_fence.branch [
      | then-seq_cst_fence+then-i-of w ↦ rw w.last-is (last_here (knows_fence clock) log c.loop-i.i e at
          (fence-holds _ _ _ w.if-seq_cst_fence.true c.seq_cst_fence.ensures (lt-ltb c.loop-i.i (slice_index clock e.thread) (rw w.of.ensures at w.if-i-of.true))))
      | else-seq_cst_fence w ↦ rw w.last-is (last_stays (knows_fence clock) log c.loop-i.i e c.loop-i.last at
          (elim w.else-seq_cst_fence.branch [
            | else-seq_cst_fence-via-then-seq_cst_fence+else-i-of v ↦ not-second (is_seq_cst_fence e) _ (le-ltb c.loop-i.i (slice_index clock e.thread) (rw v.of.ensures at v.if-i-of.false))
            | else-seq_cst_fence-via-else-seq_cst_fence v ↦ not-first (is_seq_cst_fence e) _ (sym c.seq_cst_fence.ensures ∙ v.if-seq_cst_fence.false)
          ])
          c.loop-i.invariant)
    ]

pub returns : goal.returns
returns c =
    let past = c.args.past.now in
    let l = c.loop-i-test.false in
    last_is past.tape.events c.args.clock.now c.loop-i.i c.loop-i.last (let n = past.counted in omega (arith, l, n)) c.loop-i.invariant
