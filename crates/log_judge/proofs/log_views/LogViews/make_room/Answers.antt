use Rattle.std.proofs.Common.{◌∙◌}
use Rattle.log_judge.specs.CellKeys.{number_in}
use Rattle.log_judge.proofs.Listed.{room-for}
use Rattle.log_judge.proofs.log_views.LogViews.make_room.Goals as goal

pub invariant_of-self-in-Break-branch-5 : goal.invariant_of-self-in-Break-branch-5
invariant_of-self-in-Break-branch-5 c =
    let views = c.args.self.now in
    let log = views.tape.events in
    let same = c.reserve_many.ensures.events in
    record {
      counted = rw same views.counted;
      placed = views.placed;
      threads_hold = rw same (c.list_threads.ensures.holds log views.threads_hold);
      rows_hold = rw same (c.reserve.ensures.holds views.rule log views.rows_hold);
      fences_hold = rw same (λ a e at f u. c.reserve-2.ensures.same a u ∙ views.fences_hold a e at f u);
      cells_hold = rw same (c.reserve_clocks.ensures.holds views.rule log (number_in views.places.places) views.kept.items views.cells_hold);
      initials_hold = rw same views.initials_hold;
    }

pub invariant_of-self-2 : goal.invariant_of-self-2
invariant_of-self-2 c =
    let views = c.args.self.now in
    let log = views.tape.events in
    let same = c.reserve_many.ensures.events in
    record {
      counted = rw same views.counted;
      placed = c.reserve_step.ensures.placed;
      threads_hold = rw same (c.list_threads.ensures.holds log views.threads_hold);
      rows_hold = rw same (c.reserve.ensures.holds views.rule log views.rows_hold);
      fences_hold = rw same (λ a e at f u. c.reserve-2.ensures.same a u ∙ views.fences_hold a e at f u);
      cells_hold = rw same (c.reserve_step.ensures.holds views.rule log c.reserve_clocks.new.clocks (c.reserve_clocks.ensures.holds views.rule log (number_in views.places.places) views.kept.items views.cells_hold));
      initials_hold = rw same views.initials_hold;
    }

pub returns-clause-cell : goal.returns-clause-cell
returns-clause-cell c cell a =
    room-for c.args.event.now c.cell_of.result (number_in c.reserve_step.new.places.places) c.reserve_step.new.kept.items c.in_ok-reserve_step.ensures.room c.cell_of.ensures c.requires cell a
