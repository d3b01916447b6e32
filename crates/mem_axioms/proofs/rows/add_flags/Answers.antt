use Rattle.std.proofs.Common.{◌≡◌, ◌∙◌, sym, ap, true, [], reverse, arith}
use Rattle.std.proofs.lemmas.List.{get_or_read, length-reverse}
use Rattle.mem_axioms.specs.Flags.{flag}
use Rattle.mem_axioms.specs.HappensBefore.{precedes, happens_before}
use Rattle.mem_axioms.specs.Lemmas.Steps.{before-not}
use Rattle.mem_axioms.proofs.RowLemmas.{marked_joined}
use Rattle.mem_axioms.proofs.rows.add_flags.Goals as goal

pub returns-then-precedes_next-clause-flags : goal.returns-then-precedes_next-clause-flags
returns-then-precedes_next-clause-flags c = λ i.
    let log = reverse c.args.events.now in
    let n = length-reverse c.args.events.now in
    let s = c.requires.rows.size in
    let precedes_it : precedes c.args.rule log c.args.by.number c.args.by.event.now c.args.next.now ≡ true = sym c.precedes_next.ensures ∙ c.if-precedes_next.true in
    let other_row = c.index-rows-by.result in
    let here : flag other_row i ≡ happens_before c.args.rule log i c.args.by.number =
    ap (λ row. flag row i) (get_or_read c.args.rows.now c.args.by.number other_row (omega arith) c.index-rows-by.is []) ∙ c.requires.rows.right c.args.by.number i (omega arith) in
    rw precedes_it (marked_joined c.args.row.now c.mark.new.self c.join.new.self other_row c.args.by.number i _ c.mark.ensures (omega arith) c.join.ensures.size c.join.ensures.flags here (λ later. before-not c.args.rule log i c.args.by.number (omega arith)))
