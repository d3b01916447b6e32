use Rattle.std.proofs.Common.{◌∷◌, length, sym, ap, ◌∙◌, arith}
use Rattle.mem_axioms.specs.Events.{is_seq_cst, is_fence, order_of}
use Rattle.mem_axioms.specs.HappensBefore.{happens_before}
use Rattle.mem_axioms.specs.declared.types.Event.{Event}
use Rattle.mem_axioms.specs.Lemmas.Numbers.{event-kept}
use Rattle.verdicts.specs.Searches.{comes_from}
use Rattle.verdicts.specs.Newer.{event_there}
use Rattle.verdicts.proofs.Searched.{found, none_more, here, nowhere, three_hold, first_of_three, second_of_three, third_fails, a_fails, a_holds, read_holds, read_fails}
use Rattle.verdicts.proofs.named_events.first_a.Goals as goal
use Rattle.verdicts.proofs.named_events.first_a.Goals.{else-seq_cst-via-then-seq_cst+then-fence+else-knows, else-seq_cst-via-then-seq_cst+else-fence, else-seq_cst-via-else-seq_cst}

pub knows-requires : goal.knows-requires
knows-requires g c = let l = c.loop-a-test.true in let n = c.requires.number in event_there _ _ _ _ c.requires.part (omega arith) c.event-earlier.ensures

pub returns-then-knows : goal.returns-then-knows
returns-then-knows g c =
    let rule = g.K.Knows.rule c.args.next.now in
    let past = g.K.Knows.log c.args.next.now in
    let e = c.args.event.now in
    let x = c.event-earlier.result.now in
    let s = is_seq_cst (order_of x) in
    let f = is_fence x in
    let h = happens_before rule (e ∷ past) c.loop-a.a (length past) in
    let l = c.loop-a-test.true in
    let n = c.requires.number in
    found (comes_from (g.K.Knows.rule c.args.next.now) past e c.args.b) (e ∷ past) c.loop-a.a x c.loop-a.invariant (event-kept e past c.loop-a.a x (event_there _ _ _ _ c.requires.part (omega arith) c.event-earlier.ensures))
    (a_holds c.args.b c.loop-a.a (length past) s f h c.loop-a.auto.a
    (three_hold _ _ _ s f h c.if-seq_cst.true (c.seq_cst.ensures ∙ ap is_seq_cst c.order_in.ensures) c.if-fence.true c.fence.ensures c.if-knows.true (c.knows.ensures ∙ ap (λ (y : Event). happens_before (g.K.Knows.rule c.args.next.now) (y ∷ g.K.Knows.log c.args.next.now) c.loop-a.a (length (g.K.Knows.log c.args.next.now))) (sym c.requires.event))))

pub loop-a-preserved : goal.loop-a-preserved
loop-a-preserved g c =
    let rule = g.K.Knows.rule c.args.next.now in
    let past = g.K.Knows.log c.args.next.now in
    let e = c.args.event.now in
    let x = c.event-earlier.result.now in
    let s = is_seq_cst (order_of x) in
    let f = is_fence x in
    let h = happens_before rule (e ∷ past) c.loop-a.a (length past) in
    let l = c.loop-a-test.true in
    let n = c.requires.number in
    none_more (comes_from (g.K.Knows.rule c.args.next.now) past e c.args.b) (e ∷ past) c.loop-a.a x c.loop-a.invariant (event-kept e past c.loop-a.a x (event_there _ _ _ _ c.requires.part (omega arith) c.event-earlier.ensures))
    (a_fails c.args.b c.loop-a.a (length past) s f h (omega arith)
    (elim c.else-seq_cst.branch [
      | else-seq_cst-via-then-seq_cst+then-fence+else-knows w ↦ third_fails _ s f h w.if-knows.false (w.knows.ensures ∙ ap (λ (y : Event). happens_before (g.K.Knows.rule c.args.next.now) (y ∷ g.K.Knows.log c.args.next.now) c.loop-a.a (length (g.K.Knows.log c.args.next.now))) (sym c.requires.event))
      | else-seq_cst-via-then-seq_cst+else-fence w ↦ second_of_three _ s f h w.if-fence.false w.fence.ensures
      | else-seq_cst-via-else-seq_cst w ↦ first_of_three _ s f h w.if-seq_cst.false (c.seq_cst.ensures ∙ ap is_seq_cst c.order_in.ensures)
    ]))

pub returns-then-seq_cst-2 : goal.returns-then-seq_cst-2
returns-then-seq_cst-2 g c =
    let past = g.K.Knows.log c.args.next.now in
    let e = c.args.event.now in
    let l = c.loop-a-test.false in
    let n = c.requires.number in
    let le = c.requires.within in
    here (comes_from (g.K.Knows.rule c.args.next.now) past e c.args.b) past c.args.n c.loop-a.a e n (omega arith) c.loop-a.invariant
    (read_holds c.args.b (length past) _ _ (omega arith) (sym (c.seq_cst-2.ensures ∙ ap is_seq_cst c.order_in-2.ensures) ∙ c.if-seq_cst-2.true))

pub returns-else-seq_cst-2 : goal.returns-else-seq_cst-2
returns-else-seq_cst-2 g c =
    let past = g.K.Knows.log c.args.next.now in
    let e = c.args.event.now in
    let l = c.loop-a-test.false in
    let n = c.requires.number in
    nowhere (comes_from (g.K.Knows.rule c.args.next.now) past e c.args.b) past c.args.n c.loop-a.a e n (omega arith) c.loop-a.invariant
    (read_fails _ _ _ (sym (c.seq_cst-2.ensures ∙ ap is_seq_cst c.order_in-2.ensures) ∙ c.if-seq_cst-2.false))
