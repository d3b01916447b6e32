use Rattle.std.proofs.Common.{ap, refl}
use Rattle.client_hooks.specs.Plans.{end_planned}
use Rattle.trap_acts.specs.Trapping.{left_by, change_by}
use Rattle.trap_acts.proofs.TrapViews.{stop_answered}
use Rattle.trap_acts.proofs.replying.reply.Goals as goal

pub returns-in-Stop-clause-ok : goal.returns-in-Stop-clause-ok
returns-in-Stop-clause-ok g c =
    stop_answered g.C.Determined.way c.args.code.now c.args.state.now _ (left_by c.args.code.now c.args.state.now c.args.trapped) (change_by c.args.state.now c.args.trapped) (end_planned c.args.end) _ c.requires.there (ap end_planned c.in-Stop.is) refl
