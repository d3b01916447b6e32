use Rattle.std.proofs.Common.{◌≡◌, ◌-◌, suc, slice_index, arith}
use Rattle.std.proofs.lemmas.List.{get_or_read}
use Rattle.std.proofs.lemmas.Result.{on_ok_weaker}
use Rattle.view_parts.specs.Lemmas.Places.{slot-there, replaced-room}
use Rattle.view_parts.proofs.touched.CellAccesses.reserve_placed.Goals as goal

pub returns-clause-room : goal.returns-clause-room
returns-clause-room c =
    let all = c.args.self.now in
    let thread = c.args.thread in
    let there = slot-there all.slots.items thread c.requires in
    let slot : c.index.result.now ≡ slice_index all.slots.items thread = get_or_read all.slots.items thread c.index.result.now there c.index.ensures 0 in
    let some : slice_index all.slots.items c.args.thread ≡ suc (c.index.result.now - 1) = (let n = c.requires in omega (arith, slot, n)) in
    on_ok_weaker c.reserve.result (λ r family. replaced-room all c.args.thread (c.index.result.now - 1) c.index_mut.result.now c.reserve.new.self some all.placed c.index_mut.ensures.value family c.args.count (r family)) c.reserve.ensures.room
