use Rattle.std.proofs.Common.{◌∙◌, cond, sym, slice_index}
use Rattle.mem_axioms.specs.Events.{is_modification, is_update, position_of}
use Rattle.mem_axioms.specs.Synchronizes.{continues}
use Rattle.clocks.specs.Knowing.{known_by}
use Rattle.clocks.specs.KeptClocks.{kept_at}
use Rattle.view_parts.proofs.Releasing.{released-put, sequence-put}
use Rattle.view_parts.proofs.cell.release_position.Goals as goal

pub returns-then-modification-clause-released : goal.returns-then-modification-clause-released
returns-then-modification-clause-released c p u =
    let e = c.args.next.event.now in
    let made = sym c.modification.ensures ∙ c.if-modification.true in
    let own = rw c.deref.ensures.value at (c.own_sequence-own.ensures.kept u) in
    let number = rw c.deref-then-modification.ensures.value at (c.released_by-number.ensures.kept u) in
    rw c.push_reserved.ensures.items
    (released-put c.args.clocks.now c.own_sequence-own.new.clocks c.released_by-number.new.clocks c.own_sequence-own.ensures.grown c.released_by-number.ensures.grown u c.args.released.now.items c.own_sequence-own.result
    c.released_by-number.result (known_by c.args.next.given.now u) (cond (continues c.args.rule e e.thread) (kept_at c.args.clocks.now (slice_index c.args.sequence.now.items e.thread) u) 0) (position_of e) p (is_modification e) (is_update e)
    c.requires.released made (c.requires.position made) own number)

pub returns-then-modification-clause-sequence : goal.returns-then-modification-clause-sequence
returns-then-modification-clause-sequence c t u =
    let made = sym c.modification.ensures ∙ c.if-modification.true in
    let own = rw c.deref.ensures.value at (c.own_sequence-own.ensures.kept u) in
    rw made
    (sequence-put c.args.clocks.now c.own_sequence-own.new.clocks c.released_by-number.new.clocks c.own_sequence-own.ensures.grown c.released_by-number.ensures.grown u c.args.rule c.args.next.event.now c.args.sequence.now.items
    c.go_on.new.sequence.items c.own_sequence-own.result (known_by c.args.next.given.now u) t c.requires.sequence c.own_sequence-own.ensures.there (c.go_on.ensures.numbers t) own)
