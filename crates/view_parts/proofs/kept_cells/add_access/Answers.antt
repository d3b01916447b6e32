use Rattle.std.proofs.Common.{◌≡◌, suc, arith}
use Rattle.view_parts.specs.Lemmas.CellsKept.{cells-added, cells-same, one-access, room-less}
use Rattle.view_parts.proofs.kept_cells.add_access.Goals as goal

pub add_at-requires-clause-there : goal.add_at-requires-clause-there
add_at-requires-clause-there g c =
    let e = c.in-Some-find.ensures in
    let at : g.P.CellPlaces.number c.args.places.now c.in-Some.cell ≡ suc c.in-Some-find.place = omega (arith, e) in
    (c.requires.can c.in-Some.cell c.in-Some.ensures).there c.in-Some-find.place at

pub add_at-requires-clause-below : goal.add_at-requires-clause-below
add_at-requires-clause-below g c d =
    let e = c.in-Some-find.ensures in
    let at : g.P.CellPlaces.number c.args.places.now c.in-Some.cell ≡ suc c.in-Some-find.place = omega (arith, e) in
    (c.requires.can c.in-Some.cell c.in-Some.ensures).below c.in-Some-find.place d at

pub add_at-requires-clause-named : goal.add_at-requires-clause-named
add_at-requires-clause-named g c d =
    let e = c.in-Some-find.ensures in
    let at : g.P.CellPlaces.number c.args.places.now c.in-Some.cell ≡ suc c.in-Some-find.place = omega (arith, e) in
    (c.requires.can c.in-Some.cell c.in-Some.ensures).named c.in-Some-find.place d at

pub returns-in-Some-find-clause-holds : goal.returns-in-Some-find-clause-holds
returns-in-Some-find-clause-holds g c log n k h =
    let e = c.in-Some-find.ensures in
    let at : g.P.CellPlaces.number c.args.places.now c.in-Some.cell ≡ suc c.in-Some-find.place = omega (arith, e) in
    cells-added c.args.rule log c.args.next.event.now (g.P.CellPlaces.number c.args.places.now) (g.P.CellPlaces.owners c.args.places.now) (g.met.P.CellPlaces.owned c.args.places.now) c.args.clocks.now c.add_at.new.clocks c.args.kept.now.items c.add_at.new.kept.items c.in-Some.cell c.in-Some-find.place c.args.next.number c.args.next.given.now n
    c.add_at.ensures.added at c.in-Some.ensures k h

pub returns-in-Some-find-clause-room : goal.returns-in-Some-find-clause-room
returns-in-Some-find-clause-room g c count cell a r =
    let e = c.in-Some-find.ensures in
    let at : g.P.CellPlaces.number c.args.places.now c.in-Some.cell ≡ suc c.in-Some-find.place = omega (arith, e) in
    let same : cell ≡ c.in-Some.cell = one-access c.args.next.event.now cell c.in-Some.cell a c.in-Some.ensures in
    let here : g.P.CellPlaces.number c.args.places.now cell ≡ suc c.in-Some-find.place = rw same at in
    room-less c.args.rule c.args.clocks.now c.add_at.new.clocks c.args.kept.now.items c.add_at.new.kept.items c.in-Some-find.place c.args.next.number c.args.next.event.now c.args.next.given.now (g.P.CellPlaces.number c.args.places.now) cell count c.add_at.ensures.added here r

pub returns-in_default-find-clause-holds : goal.returns-in_default-find-clause-holds
returns-in_default-find-clause-holds g c log n k h =
    let z = c.in_default-find.ensures in
    let p = (c.requires.can c.in-Some.cell c.in-Some.ensures).placed in
    absurd (omega (arith, z, p))

pub returns-in_default-clause-holds : goal.returns-in_default-clause-holds
returns-in_default-clause-holds g c log n k h =
    cells-same c.args.rule log c.args.next.event.now (g.P.CellPlaces.number c.args.places.now) (g.P.CellPlaces.owners c.args.places.now) (g.met.P.CellPlaces.owned c.args.places.now) c.args.clocks.now c.args.kept.now.items c.in_default.ensures h
