use Rattle.std.proofs.Common.{◌∙◌, List, ◌∷◌, [], sym, ap, reverse, length, length-append}
use Rattle.std.proofs.lemmas.List.{reverse-append, length-reverse}
use Rattle.mem_axioms.specs.HappensBefore.{happens_before}
use Rattle.mem_axioms.specs.Scalars.{scalars_of}
use Rattle.mem_axioms.specs.declared.types.Event.{Event}
use Rattle.mem_axioms.specs.Lemmas.Growing.{cells-more, sound-more}
use Rattle.mem_axioms.proofs.RowsKept.{rows-more, blanks-less}
use Rattle.mem_axioms.proofs.log_memory.LogMemory.add.Goals as goal

pub invariant_of-self-clause-flags : goal.invariant_of-self-clause-flags
invariant_of-self-clause-flags c =
    let events = c.args.self.now.events.items in
    let log = reverse events in
    rw (c.push_in_room.ensures.items, reverse-append events (c.args.event ∷ []), c.push_in_room-2.ensures.items)
    (rows-more c.args.self.now.rule log c.args.self.now.rows.items c.args.event c.fill_row.new.row c.args.self.now.flags
    (λ i. c.fill_row.ensures i ∙ (ap (λ (read : List Event). happens_before c.args.self.now.rule (c.args.event ∷ reverse read) i (length read)) c.deref.ensures.value ∙ ap (happens_before c.args.self.now.rule (c.args.event ∷ log) i) (sym (length-reverse events)))))

pub invariant_of-self-clause-cells : goal.invariant_of-self-clause-cells
invariant_of-self-clause-cells c =
    let events = c.args.self.now.events.items in
    rw (c.push_in_room.ensures.items, reverse-append events (c.args.event ∷ []))
    (cells-more c.args.self.now.rule (scalars_of c.args.self.now.objects.items) (reverse events) c.args.event c.requires.fits c.args.self.now.cells)

pub invariant_of-self-clause-sound : goal.invariant_of-self-clause-sound
invariant_of-self-clause-sound c =
    let events = c.args.self.now.events.items in
    rw (c.push_in_room.ensures.items, reverse-append events (c.args.event ∷ []))
    (sound-more c.args.self.now.rule (scalars_of c.args.self.now.objects.items) (reverse events) c.args.event c.requires.fits c.requires.alone c.args.self.now.sound)

pub invariant_of-self-clause-blanks_fit : goal.invariant_of-self-clause-blanks_fit
invariant_of-self-clause-blanks_fit c =
    let events = c.args.self.now.events.items in
    rw (c.push_in_room.ensures.items, length-append events (c.args.event ∷ []))
    (blanks-less c.args.self.now.blanks.items c.pop.new.self.items c.in-Some.row (length events) c.args.self.now.room.events c.in-Some.ensures.items c.requires.room c.args.self.now.blanks_fit)
