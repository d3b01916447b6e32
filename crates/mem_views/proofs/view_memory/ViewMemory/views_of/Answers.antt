use Rattle.std.proofs.Common.{◌≡◌, ◌<◌, suc, arith, length}
use Rattle.mem_views.specs.Placing.{place_in}
use Rattle.view_parts.specs.Lemmas.CellsKept.{place-below}
use Rattle.mem_views.proofs.view_memory.ViewMemory.views_of.Goals as goal

pub index-requires : goal.index-requires
index-requires c =
    let memory = c.args.self.now in
    let at = c.in-Some.ensures in
    let below = place-below (place_in memory.places.objects.items) memory.places.owners.items (length memory.kept.items) c.args.cell c.in-Some.place memory.places.owned memory.placed (omega (arith, at)) in
    omega (arith, below)

pub returns-in-Some-clause-clocks : goal.returns-in-Some-clause-clocks
returns-in-Some-clause-clocks c =
    let memory = c.args.self.now in
    let e = c.in-Some.ensures in
    let at : place_in memory.places.objects.items c.args.cell ≡ suc c.in-Some.place = omega (arith, e) in
    let below : c.in-Some.place < length memory.kept.items = place-below (place_in memory.places.objects.items) memory.places.owners.items (length memory.kept.items) c.args.cell c.in-Some.place memory.places.owned memory.placed at in
    rw c.index.ensures (memory.cells_hold.clocked c.args.cell c.in-Some.place c.index.result.now at below)

pub returns-in-Some-clause-views : goal.returns-in-Some-clause-views
returns-in-Some-clause-views c =
    let memory = c.args.self.now in
    let e = c.in-Some.ensures in
    let at : place_in memory.places.objects.items c.args.cell ≡ suc c.in-Some.place = omega (arith, e) in
    let below : c.in-Some.place < length memory.kept.items = place-below (place_in memory.places.objects.items) memory.places.owners.items (length memory.kept.items) c.args.cell c.in-Some.place memory.places.owned memory.placed at in
    rw c.index.ensures (memory.cells_hold.touched c.args.cell c.in-Some.place c.index.result.now at below)
