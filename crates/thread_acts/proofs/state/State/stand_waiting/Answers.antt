use Rattle.std.proofs.Common.{◌∙◌, refl, sym, ap, length}
use Rattle.futex.specs.declared.waiters.Waiter.{Waiter}
use Rattle.memory_acts.specs.FutexLaws.{stopped_same}
use Rattle.memory_acts.specs.FutexViews.{goes_on_view, stop_again, sound_still, nothing_left, waits_race, waits_on}
use Rattle.thread_acts.proofs.state.State.stand_waiting.Goals as goal

pub stop-requires : goal.stop-requires
stop-requires g c =
    let w : Waiter = record { thread = c.self.inside.thread; cell = c.args.cell; timed = c.args.timed } in
    stop_again c.self.inside.seats _ w (goes_on_view _ _ c.self.view_is c.requires.goes_on) c.in_ok-wait.ensures.ok

pub invariant_of-self-in-Some : goal.invariant_of-self-in-Some
invariant_of-self-in-Some g c =
    let w : Waiter = record { thread = c.self.inside.thread; cell = c.args.cell; timed = c.args.timed } in
    let seats = stopped_same c.self.inside.seats _ _ w (goes_on_view _ _ c.self.view_is c.requires.goes_on) c.in_ok-wait.ensures.ok c.stop.ensures in
    let log = c.in-Some.ensures.raced refl ∙ c.reserve.ensures.same_log in
    (c.in-Some.ensures.same_objects ∙ c.reserve.ensures.same_objects ∙ c.self.invariant.0, c.self.invariant.1 ∙ ap length (sym log), c.self.invariant.2, c.self.invariant.3, c.self.invariant.4, sound_still _ _ _ _ _ _ _ c.self.invariant.5 seats log)

pub returns-in-Some-clause-ok : goal.returns-in-Some-clause-ok
returns-in-Some-clause-ok g c =
    waits_race c.args.self.now _ c.args.event c.args.cell c.args.timed _ _ _ _ _ c.self.view_is c.reserve.ensures.same_log c.reserve.ensures.same_rule c.in-Some.ensures.race c.race_ending.ensures (c.ended.ensures.is _)

pub returns-in-Some-clause-stays : goal.returns-in-Some-clause-stays
returns-in-Some-clause-stays g c =
    let w : Waiter = record { thread = c.self.inside.thread; cell = c.args.cell; timed = c.args.timed } in
    let seats = stopped_same c.self.inside.seats _ _ w (goes_on_view _ _ c.self.view_is c.requires.goes_on) c.in_ok-wait.ensures.ok c.stop.ensures in
    nothing_left _ _ _ _ _ _ c.self.view_is seats (c.in-Some.ensures.raced refl ∙ c.reserve.ensures.same_log) (c.in-Some.ensures.same_rule ∙ c.reserve.ensures.same_rule) c.ended.ensures.end

pub returns-in-None-clause-ok : goal.returns-in-None-clause-ok
returns-in-None-clause-ok g c =
    waits_on c.args.self.now _ c.args.event c.args.cell c.args.timed _ _ _ _ _ _ _ c.self.view_is c.requires.left c.reserve.ensures.same_log c.reserve.ensures.same_rule c.in-None.ensures.race (c.in-None.ensures.added refl)
    c.in-None.ensures.same_rule c.in_ok-wait.ensures.ok c.self.invariant.1 c.in_ok-lines.ensures
