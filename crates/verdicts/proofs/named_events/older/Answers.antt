use Rattle.std.proofs.Common.{ap, ◌∙◌, arith}
use Rattle.mem_axioms.specs.Axioms.{reads_older}
use Rattle.verdicts.specs.Newer.{event_there}
use Rattle.verdicts.proofs.Searched.{found, none_found, none_more, both_hold, first_fails, second_fails}
use Rattle.verdicts.proofs.named_events.older.Goals as goal
use Rattle.verdicts.proofs.named_events.older.Goals.{else-passes_over-via-then-passes_over+else-knows, else-passes_over-via-else-passes_over}

pub knows-requires : goal.knows-requires
knows-requires g c = let l = c.loop-i-test.true in let n = c.requires.number in event_there _ _ _ _ c.requires.part (omega arith) c.event-earlier.ensures

pub returns-then-knows : goal.returns-then-knows
returns-then-knows g c =
    let l = c.loop-i-test.true in
    let n = c.requires.number in
    found _ _ _ _ c.loop-i.invariant (event_there _ _ _ _ c.requires.part (omega arith) c.event-earlier.ensures)
    (rw c.requires.event (both_hold _ _ _ _ c.if-passes_over.true (c.passes_over.ensures ∙ ap (λ e. reads_older e c.event-earlier.result.now) c.requires.event) c.if-knows.true c.knows.ensures))

pub loop-i-preserved : goal.loop-i-preserved
loop-i-preserved g c =
    let l = c.loop-i-test.true in
    let n = c.requires.number in
    none_more _ _ _ _ c.loop-i.invariant (event_there _ _ _ _ c.requires.part (omega arith) c.event-earlier.ensures)
    (elim c.else-passes_over.branch [
      | else-passes_over-via-then-passes_over+else-knows w ↦ rw c.requires.event (second_fails _ _ _ w.if-knows.false w.knows.ensures)
      | else-passes_over-via-else-passes_over w ↦ first_fails _ _ _ w.if-passes_over.false c.passes_over.ensures
    ])

pub returns : goal.returns
returns g c = let l = c.loop-i-test.false in let n = c.requires.number in none_found _ _ _ (omega arith) c.loop-i.invariant
