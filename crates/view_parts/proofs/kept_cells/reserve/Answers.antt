use Rattle.std.proofs.Common.{◌<◌, length, arith}
use Rattle.view_parts.specs.Lemmas.CellsKept.{place-below, cells-set}
use Rattle.view_parts.proofs.kept_cells.reserve.Goals as goal

pub index_mut-requires : goal.index_mut-requires
index_mut-requires g c =
    let e = c.in-Some.ensures in
    let below = place-below (g.P.CellPlaces.number c.args.places.now) (g.P.CellPlaces.owners c.args.places.now) (length c.args.kept.now.items) c.args.cell c.in-Some.place (g.met.P.CellPlaces.owned c.args.places.now) c.requires.placed (omega (arith, e)) in
    omega (arith, below)

pub returns-clause-holds : goal.returns-clause-holds
returns-clause-holds g c rule log clocks h =
    let e = c.in-Some.ensures in
    let below : c.in-Some.place < length c.args.kept.now.items = place-below (g.P.CellPlaces.number c.args.places.now) (g.P.CellPlaces.owners c.args.places.now) (length c.args.kept.now.items) c.args.cell c.in-Some.place (g.met.P.CellPlaces.owned c.args.places.now) c.requires.placed (omega (arith, e)) in
    cells-set rule log clocks (g.P.CellPlaces.number c.args.places.now) c.args.kept.now.items c.in-Some.place c.index_mut.result.now c.reserve.new.self below c.index_mut.ensures.value c.reserve.ensures.same h
