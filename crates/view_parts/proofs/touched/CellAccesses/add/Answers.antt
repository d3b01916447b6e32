use Rattle.std.proofs.Common.{◌≡◌, ◌<◌, ◌-◌, suc, slice_index, subst, sym, arith}
use Rattle.std.specs.Prelude.{All}
use Rattle.std.proofs.lemmas.List.{get_or_read}
use Rattle.mem_axioms.specs.Events.{position_of}
use Rattle.write_history.specs.Rooms.{Accesses}
use Rattle.view_parts.specs.Families.{belongs}
use Rattle.view_parts.specs.Lemmas.Places.{slot-there, index-read, replaced-entries}
use Rattle.view_parts.proofs.touched.CellAccesses.add.Goals as goal

pub add-requires-clause-above : goal.add-requires-clause-above
add-requires-clause-above c family =
    let all = c.args.self.now in
    let thread = c.args.next.event.now.thread in
    let there = slot-there all.slots.items thread c.requires.there in
    let slot : c.index.result.now ≡ slice_index all.slots.items thread = get_or_read all.slots.items thread c.index.result.now there c.index.ensures 0 in
    let some : slice_index all.slots.items thread ≡ suc (c.index.result.now - 1) = (let n = c.requires.there in omega (arith, slot, n)) in
    subst (λ (index : Accesses). All (λ entry. entry.event < suc c.args.next.number) index.accesses) (sym (index-read all thread (c.index.result.now - 1) c.index_mut.result.now some all.placed c.index_mut.ensures.value family)) (c.requires.above family)

pub returns-clause-entries : goal.returns-clause-entries
returns-clause-entries c family =
    let all = c.args.self.now in
    let thread = c.args.next.event.now.thread in
    let there = slot-there all.slots.items thread c.requires.there in
    let slot : c.index.result.now ≡ slice_index all.slots.items thread = get_or_read all.slots.items thread c.index.result.now there c.index.ensures 0 in
    let some : slice_index all.slots.items thread ≡ suc (c.index.result.now - 1) = (let n = c.requires.there in omega (arith, slot, n)) in
    replaced-entries all thread (c.index.result.now - 1) c.index_mut.result.now c.add.new.self some all.placed c.index_mut.ensures.value family (belongs family c.args.next.event.now)
    (record { event = suc c.args.next.number; position = position_of c.args.next.event.now }) (c.add.ensures.entries family)
