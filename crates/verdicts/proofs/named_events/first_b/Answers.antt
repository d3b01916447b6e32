use Rattle.std.proofs.Common.{sym, ap, ◌∙◌, arith}
use Rattle.mem_axioms.specs.Events.{is_seq_cst, order_of}
use Rattle.mem_axioms.specs.PassedOver.{has_seq_cst_from}
use Rattle.verdicts.specs.Searches.{passed_by}
use Rattle.verdicts.specs.Newer.{event_there}
use Rattle.verdicts.proofs.Searched.{found, none_found, none_more, three_hold, first_of_three, second_of_three, third_fails}
use Rattle.verdicts.proofs.named_events.first_b.Goals as goal
use Rattle.verdicts.proofs.named_events.first_b.Goals.{else-seq_cst-via-then-seq_cst+then-has_passed+else-has_from, else-seq_cst-via-then-seq_cst+else-has_passed, else-seq_cst-via-else-seq_cst}

pub has_passed-requires-clause-there : goal.has_passed-requires-clause-there
has_passed-requires-clause-there g c = let l = c.loop-b-test.true in let n = c.requires.number in event_there _ _ _ _ c.requires.part (omega arith) c.event-earlier.ensures

pub has_passed-requires-clause-seq_cst : goal.has_passed-requires-clause-seq_cst
has_passed-requires-clause-seq_cst g c = sym (c.seq_cst.ensures ∙ ap is_seq_cst c.order_in.ensures) ∙ c.if-seq_cst.true

pub returns-then-has_from : goal.returns-then-has_from
returns-then-has_from g c =
    let rule = g.K.Knows.rule c.args.next.now in
    let past = g.K.Knows.log c.args.next.now in
    let k = g.K.Knows.event c.args.next.now in
    let x = c.event-earlier.result.now in
    let s = is_seq_cst (order_of x) in
    let p = passed_by rule past k c.loop-b.b x in
    let r = has_seq_cst_from rule past k c.loop-b.b in
    let l = c.loop-b-test.true in
    let n = c.requires.number in
    found _ _ _ _ c.loop-b.invariant (event_there _ _ _ _ c.requires.part (omega arith) c.event-earlier.ensures)
    (rw c.requires.event (three_hold _ _ _ s p r c.if-seq_cst.true (c.seq_cst.ensures ∙ ap is_seq_cst c.order_in.ensures) c.if-has_passed.true c.has_passed.ensures c.if-has_from.true c.has_from.ensures))

pub loop-b-preserved : goal.loop-b-preserved
loop-b-preserved g c =
    let rule = g.K.Knows.rule c.args.next.now in
    let past = g.K.Knows.log c.args.next.now in
    let k = g.K.Knows.event c.args.next.now in
    let x = c.event-earlier.result.now in
    let s = is_seq_cst (order_of x) in
    let p = passed_by rule past k c.loop-b.b x in
    let r = has_seq_cst_from rule past k c.loop-b.b in
    let l = c.loop-b-test.true in
    let n = c.requires.number in
    none_more _ _ _ _ c.loop-b.invariant (event_there _ _ _ _ c.requires.part (omega arith) c.event-earlier.ensures)
    (elim c.else-seq_cst.branch [
      | else-seq_cst-via-then-seq_cst+then-has_passed+else-has_from w ↦ rw c.requires.event (third_fails _ s p r w.if-has_from.false w.has_from.ensures)
      | else-seq_cst-via-then-seq_cst+else-has_passed w ↦ rw c.requires.event (second_of_three _ s p r w.if-has_passed.false w.has_passed.ensures)
      | else-seq_cst-via-else-seq_cst w ↦ rw c.requires.event (first_of_three _ s p r w.if-seq_cst.false (c.seq_cst.ensures ∙ ap is_seq_cst c.order_in.ensures))
    ])

pub returns : goal.returns
returns g c = let l = c.loop-b-test.false in let n = c.requires.number in none_found _ _ _ (omega arith) c.loop-b.invariant
