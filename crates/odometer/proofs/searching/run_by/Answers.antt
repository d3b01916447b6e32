use Rattle.odometer.proofs.FoundLaws.{run_kept}
use Rattle.odometer.proofs.searching.run_by.Goals as goal

pub returns-clause-found : goal.returns-clause-found
returns-clause-found g c =
    run_kept (g.P.Play.tree c.args.play.now) (g.P.Play.shows c.args.play.now) c.args.found.now c.keep.new.found c.play.new.text.items c.args.numbers.now c.play.new.schedule.items
    (c.in_ok-says.ensures.text c.if-not-says.false) (c.in_ok-says.ensures.shown c.if-not-says.false) (rw (c.deref.ensures.value, c.deref-2.ensures.value) at c.in_ok-keep.ensures) (rw c.deref-3.ensures.value at c.numbers_fit.ensures)
