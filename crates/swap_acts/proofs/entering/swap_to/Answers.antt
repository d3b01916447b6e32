use Rattle.std.proofs.Common.{refl}
use Rattle.stack_moves.specs.SwapLaws.{swap_looks}
use Rattle.stack_moves.specs.Lemmas.EnteringViews.{awaits_at, no_misfit, lands_there, ready_takes, swap_answered}
use Rattle.swap_acts.proofs.entering.swap_to.Goals as goal

pub waiting_for-requires : goal.waiting_for-requires
waiting_for-requires g c = awaits_at c.args.code.now _ _ _ _ _ _ _ c.state.view_is c.requires.there c.top.ensures c.in_ok-waits.ensures

pub hand_over-requires : goal.hand_over-requires
hand_over-requires g c = no_misfit c.args.code.now _ _ c.args.landing.arrival _ _ _ c.requires.lands (swap_looks c.args.code.now _ _ _ _ c.requires.there _ refl c.requires.other c.requires.ready)

pub move_to-requires-clause-takes : goal.move_to-requires-clause-takes
move_to-requires-clause-takes g c =
    ready_takes c.args.code.now _ _ _ c.args.landing.arrival _ c.requires.ready c.requires.lands (swap_looks c.args.code.now _ _ _ _ c.requires.there _ refl c.requires.other c.requires.ready) c.in_ok-handing.ensures

pub move_to-requires-clause-lands : goal.move_to-requires-clause-lands
move_to-requires-clause-lands g c = lands_there c.args.code.now _ _ c.args.landing.arrival _ c.requires.lands (swap_looks c.args.code.now _ _ _ _ c.requires.there _ refl c.requires.other c.requires.ready)

pub returns-clause-ok : goal.returns-clause-ok
returns-clause-ok g c =
    swap_answered c.args.code.now c.args.state.now _ _ _ _ _ _ c.args.landing.arrival _ _ _ _ _ c.move_to.result c.state.view_is c.requires.there c.requires.other c.requires.ready c.requires.lands c.top.ensures c.in_ok-waits.ensures c.in_ok-wait.ensures
    c.state.invariant.1 c.in_ok-lines.ensures c.move_to.ensures.ok
