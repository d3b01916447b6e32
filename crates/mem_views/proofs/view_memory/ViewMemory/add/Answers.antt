use Rattle.std.proofs.Common.{◌≡◌, ◌+◌, ◌-◌, arith}
use Rattle.view_parts.specs.Lemmas.Gained.{gives-are}
use Rattle.view_parts.specs.Lemmas.RowsKept.{rows-more, rows-below}
use Rattle.view_parts.specs.Lemmas.ValuesKept.{newest-few}
use Rattle.mem_views.proofs.ThreadsMade.{log-more, made-more, child-small}
use Rattle.view_parts.specs.Lemmas.CellsKept.{can-add}
use Rattle.mem_views.proofs.Fitting.{next-position}
use Rattle.mem_views.proofs.Roomy.{room-at, fits-less, made-longer}
use Rattle.mem_views.specs.Placing.{place_in}
use Rattle.mem_views.proofs.view_memory.ViewMemory.add.Goals as goal

pub add-requires-clause-child : goal.add-requires-clause-child
add-requires-clause-child c t =
    let memory = c.args.self.now in
    child-small memory.rule memory.objects.values memory.tape.events c.args.event t c.requires.fits

pub add-requires-clause-above : goal.add-requires-clause-above
add-requires-clause-above c =
    let memory = c.args.self.now in
    rw memory.counted (rows-below memory.rule memory.tape.events memory.rows c.args.event.thread memory.rows_hold)

pub add_access-requires-clause-can : goal.add_access-requires-clause-can
add_access-requires-clause-can c cell a =
    let memory = c.args.self.now in
    let few = newest-few memory.tape.events cell in
    let count = c.requires.count in
    let room = room-at memory.room c.args.event cell (place_in memory.places.objects.items) memory.kept.items memory.cell_fits c.requires.room (memory.log_holds.small c.args.event.thread c.requires.fits.thread) a in
    rw memory.counted (can-add memory.rule memory.tape.events c.args.event memory.clocks (place_in memory.places.objects.items) memory.places.owners.items memory.kept.items cell (memory.room.events - 1) memory.places.owned memory.placed memory.cells_hold (omega (arith, few, count)) (next-position memory.rule memory.objects.values memory.tape.events c.args.event cell c.requires.fits a) room)

pub invariant_of-self-clause-log_holds : goal.invariant_of-self-clause-log_holds
invariant_of-self-clause-log_holds c =
    let memory = c.args.self.now in
    rw c.push.ensures.events (log-more memory.rule memory.objects.values memory.tape.events c.args.event c.requires.fits c.requires.alone memory.log_holds)

pub invariant_of-self-clause-made_holds : goal.invariant_of-self-clause-made_holds
invariant_of-self-clause-made_holds c =
    let memory = c.args.self.now in
    rw c.push.ensures.events (made-more c.args.event memory.tape.events memory.made.items c.add_thread.new.made.items (memory.made_some c.requires.room.0) memory.made_holds c.add_thread.ensures.made)

pub invariant_of-self-clause-rows_hold : goal.invariant_of-self-clause-rows_hold
invariant_of-self-clause-rows_hold c =
    let memory = c.args.self.now in
    rw c.push.ensures.events (rows-more memory.rule memory.tape.events c.args.event memory.rows c.add.new.self c.args.clock.now c.args.taken.now (rw memory.counted at c.add.ensures.added) memory.rows_hold c.requires.knows c.requires.taken)

pub invariant_of-self-clause-cells_hold : goal.invariant_of-self-clause-cells_hold
invariant_of-self-clause-cells_hold c =
    let memory = c.args.self.now in
    let given = gives-are memory.rule memory.tape.events c.args.event memory.rows c.args.clock.now c.of.result.now c.given_by-given.result memory.rows_hold c.requires.knows c.of.ensures c.given_by-given.ensures in
    rw c.push.ensures.events (c.add_access.ensures.holds memory.tape.events memory.counted (λ u. rw memory.counted (given u)) memory.cells_hold)

pub invariant_of-self-clause-made_some : goal.invariant_of-self-clause-made_some
invariant_of-self-clause-made_some c l = made-longer c.args.event c.args.self.now.made.items c.add_thread.new.made.items (c.args.self.now.made_some c.requires.room.0) c.add_thread.ensures.made

pub invariant_of-self-clause-rows_fit : goal.invariant_of-self-clause-rows_fit
invariant_of-self-clause-rows_fit c =
    let memory = c.args.self.now in
    let some = c.requires.room.0 in
    let n : memory.room.events - 1 + 1 ≡ memory.room.events = omega (arith, some) in
    c.add.ensures.room (memory.room.events - 1) (rw n memory.rows_fit)

pub invariant_of-self-clause-cell_fits : goal.invariant_of-self-clause-cell_fits
invariant_of-self-clause-cell_fits c =
    let memory = c.args.self.now in
    fits-less memory.room c.args.event (place_in memory.places.objects.items) memory.kept.items c.add_access.new.kept.items memory.cell_fits c.requires.room c.add_access.ensures.same c.add_access.ensures.room
