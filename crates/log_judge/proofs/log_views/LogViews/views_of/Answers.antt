use Rattle.std.proofs.Common.{◌≡◌, ◌<◌, suc, arith, length}
use Rattle.log_judge.specs.CellKeys.{number_in}
use Rattle.view_parts.specs.Lemmas.CellsKept.{place-below}
use Rattle.log_judge.proofs.log_views.LogViews.views_of.Goals as goal

pub index-requires : goal.index-requires
index-requires c =
    let memory = c.args.self.now in
    let at = c.in-Some.ensures in
    let below = place-below (number_in memory.places.places) memory.places.owners.items (length memory.kept.items) c.args.cell c.in-Some.place memory.places.owned memory.placed (omega (arith, at)) in
    omega (arith, below)

pub returns-in-Some-clause-clocks : goal.returns-in-Some-clause-clocks
returns-in-Some-clause-clocks c =
    let memory = c.args.self.now in
    let e = c.in-Some.ensures in
    let at : number_in memory.places.places c.args.cell ≡ suc c.in-Some.place = omega (arith, e) in
    let below : c.in-Some.place < length memory.kept.items = place-below (number_in memory.places.places) memory.places.owners.items (length memory.kept.items) c.args.cell c.in-Some.place memory.places.owned memory.placed at in
    rw c.index.ensures (memory.cells_hold.clocked c.args.cell c.in-Some.place c.index.result.now at below)

pub returns-in-Some-clause-views : goal.returns-in-Some-clause-views
returns-in-Some-clause-views c =
    let memory = c.args.self.now in
    let e = c.in-Some.ensures in
    let at : number_in memory.places.places c.args.cell ≡ suc c.in-Some.place = omega (arith, e) in
    let below : c.in-Some.place < length memory.kept.items = place-below (number_in memory.places.places) memory.places.owners.items (length memory.kept.items) c.args.cell c.in-Some.place memory.places.owned memory.placed at in
    rw c.index.ensures (memory.cells_hold.touched c.args.cell c.in-Some.place c.index.result.now at below)
