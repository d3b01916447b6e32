use Rattle.std.proofs.Common.{◌≡◌, suc, arith}
use Rattle.view_parts.specs.Lemmas.CellsKept.{cells-added, cells-same, one-access, room-less}
use Rattle.mem_views.specs.Placing.{place_in}
use Rattle.mem_views.proofs.places.Places.add_access.Goals as goal

pub add_at-requires-clause-there : goal.add_at-requires-clause-there
add_at-requires-clause-there c =
    let e = rw c.in-Some-place.is at (c.requires.found c.in-Some._cell c.in-Some.ensures) in
    let at : place_in c.args.self.now.objects.items c.in-Some._cell ≡ suc c.in-Some-place.place = omega (arith, e) in
    (c.requires.can c.in-Some._cell c.in-Some.ensures).there c.in-Some-place.place at

pub returns-in-Some-place-clause-holds : goal.returns-in-Some-place-clause-holds
returns-in-Some-place-clause-holds c log n k h =
    let e = rw c.in-Some-place.is at (c.requires.found c.in-Some._cell c.in-Some.ensures) in
    let at : place_in c.args.self.now.objects.items c.in-Some._cell ≡ suc c.in-Some-place.place = omega (arith, e) in
    cells-added c.args.rule log c.args.next.event.now (place_in c.args.self.now.objects.items) c.args.self.now.owners.items c.args.self.now.owned c.args.clocks.now c.add_at.new.clocks c.args.kept.now.items c.add_at.new.kept.items c.in-Some._cell c.in-Some-place.place c.args.next.number c.args.next.given.now n
    c.add_at.ensures.added at c.in-Some.ensures k h

pub returns-in-Some-place-clause-room : goal.returns-in-Some-place-clause-room
returns-in-Some-place-clause-room c count cell a r =
    let e = rw c.in-Some-place.is at (c.requires.found c.in-Some._cell c.in-Some.ensures) in
    let at : place_in c.args.self.now.objects.items c.in-Some._cell ≡ suc c.in-Some-place.place = omega (arith, e) in
    let same : cell ≡ c.in-Some._cell = one-access c.args.next.event.now cell c.in-Some._cell a c.in-Some.ensures in
    let here : place_in c.args.self.now.objects.items cell ≡ suc c.in-Some-place.place = rw same at in
    room-less c.args.rule c.args.clocks.now c.add_at.new.clocks c.args.kept.now.items c.add_at.new.kept.items c.in-Some-place.place c.args.next.number c.args.next.event.now c.args.next.given.now (place_in c.args.self.now.objects.items) cell count c.add_at.ensures.added here r

pub returns-in_default-clause-holds : goal.returns-in_default-clause-holds
returns-in_default-clause-holds c log n k h =
    cells-same c.args.rule log c.args.next.event.now (place_in c.args.self.now.objects.items) c.args.self.now.owners.items c.args.self.now.owned c.args.clocks.now c.args.kept.now.items c.in_default.ensures h
