use Rattle.std.proofs.Common.{◌+◌, ◌∙◌, cond, ap, ℕ, length}
use Rattle.mu_values.specs.SameCell.{same_cell}
use Rattle.view_parts.specs.Lemmas.CellsKept.{cells-touched, cells-moved, place-below}
use Rattle.view_parts.proofs.kept_cells.make_place.Goals as goal

pub returns-clause-holds : goal.returns-clause-holds
returns-clause-holds g c rule log clocks h =
    let number = g.P.CellPlaces.number c.args.places.now in
    let owners = g.P.CellPlaces.owners c.args.places.now in
    rw (c.push_reserved.ensures.items, c.reserve.ensures.items)
    (cells-touched rule log clocks number (g.P.CellPlaces.number c.touch.new.self) c.args.kept.now.items c.in_ok-fresh.fresh c.args.cell c.requires.none
    (λ x. c.in_ok-touch.ensures.numbers x ∙ ap (λ (n : ℕ). cond (same_cell x c.args.cell) (n + 1) (number x)) c.requires.placed)
    (λ x p q. place-below number owners (length c.args.kept.now.items) x p (g.met.P.CellPlaces.owned c.args.places.now) c.requires.placed q)
    c.in_ok-fresh.ensures.fresh h)

pub returns-in_err-touch-clause-holds : goal.returns-in_err-touch-clause-holds
returns-in_err-touch-clause-holds g c rule log clocks h =
    rw c.reserve.ensures.items (cells-moved rule log clocks (g.P.CellPlaces.number c.args.places.now) (g.P.CellPlaces.number c.touch.new.self) c.args.kept.now.items c.in_err-touch.ensures.same h)
