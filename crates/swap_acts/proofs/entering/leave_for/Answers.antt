use Rattle.std.proofs.Common.{refl}
use Rattle.stack_moves.specs.SwapLaws.{leave_looks}
use Rattle.stack_moves.specs.Lemmas.EnteringViews.{no_misfit, lands_there, ready_takes, leave_answered}
use Rattle.swap_acts.proofs.entering.leave_for.Goals as goal

pub hand_over-requires : goal.hand_over-requires
hand_over-requires g c = no_misfit c.args.code.now _ _ c.args.landing.arrival _ _ _ c.requires.lands (leave_looks c.args.code.now _ _ _ c.requires.there _ refl c.requires.other c.requires.ready)

pub die_to-requires-clause-takes : goal.die_to-requires-clause-takes
die_to-requires-clause-takes g c =
    ready_takes c.args.code.now _ _ _ c.args.landing.arrival _ c.requires.ready c.requires.lands (leave_looks c.args.code.now _ _ _ c.requires.there _ refl c.requires.other c.requires.ready) c.in_ok-handing.ensures

pub die_to-requires-clause-lands : goal.die_to-requires-clause-lands
die_to-requires-clause-lands g c = lands_there c.args.code.now _ _ c.args.landing.arrival _ c.requires.lands (leave_looks c.args.code.now _ _ _ c.requires.there _ refl c.requires.other c.requires.ready)

pub returns-clause-ok : goal.returns-clause-ok
returns-clause-ok g c = leave_answered c.args.code.now c.args.state.now _ _ _ c.args.landing.arrival _ c.die_to.result c.requires.there c.requires.other c.requires.ready c.requires.lands c.die_to.ensures.ok
