use Rattle.std.proofs.Common.{rules}
use Rattle.trap_acts.specs.Trapping.{change_by, left_by}
use Rattle.trap_acts.proofs.TrapViews.{rebind_answered, rebind_ended, rebind_unready}
use Rattle.trap_acts.proofs.replying.rebind.Goals as goal

pub returns-in_default-clause-ok : goal.returns-in_default-clause-ok
returns-in_default-clause-ok g c = rebind_unready g.C.Determined.way c.args.code.now c.args.state.now _ (left_by c.args.code.now c.args.state.now c.args.trapped) (change_by c.args.state.now c.args.trapped) _ _ _ _ c.requires.there c.target-scalar.ensures (search rules) c.in_default.ensures.none c.case_ending-ending.ensures

pub returns-in-Refused-clause-ok : goal.returns-in-Refused-clause-ok
returns-in-Refused-clause-ok g c =
    rebind_ended g.C.Determined.way c.args.code.now c.args.state.now _ _ (left_by c.args.code.now c.args.state.now c.args.trapped) (change_by c.args.state.now c.args.trapped) _ _ _ _ _ _ _ _ _ c.state.view_is c.requires.there c.target-scalar.ensures c.in-Some.ensures.named c.in-Some.ensures.other c.in-Some.ensures.ready
    c.bring-entering.ensures c.in_ok-case.ensures.is c.in_ok-case.ensures.plain c.in-Refused.is c.case_ending.ensures

pub returns-clause-ok : goal.returns-clause-ok
returns-clause-ok g c =
    rebind_answered g.C.Determined.way c.args.code.now c.args.state.now _ _ (left_by c.args.code.now c.args.state.now c.args.trapped) (change_by c.args.state.now c.args.trapped) _ _ _ _ _ _ _ _ _ c.state.view_is c.requires.there c.target-scalar.ensures c.in-Some.ensures.named c.in-Some.ensures.other c.in-Some.ensures.ready
    c.bring-entering.ensures c.in_ok-case.ensures.is c.in-Lands.is c.rebind_to.ensures.ok
