use Rattle.client_hooks.specs.Plans.{end_planned}
use Rattle.client_hooks.specs.Replies.{edit_of}
use Rattle.trap_acts.proofs.TrapViews.{taken_lines, take_there, take_answered}
use Rattle.trap_acts.proofs.asking.take.Goals as goal

pub edit_and_reply-requires-clause-there : goal.edit_and_reply-requires-clause-there
edit_and_reply-requires-clause-there g c =
    take_there c.args.code.now c.args.state.now c.args.wait (edit_of c.args.plan.edit) _ _ _ (end_planned c.args.plan.end) (taken_lines c.args.state.now _ _ _ c.args.note _ c.state.view_is c.state.invariant.1 c.in_ok-trap_lines.ensures) c.requires.there

pub returns-clause-ok : goal.returns-clause-ok
returns-clause-ok g c =
    take_answered g.C.Determined.way c.args.code.now c.args.state.now _ c.args.wait (edit_of c.args.plan.edit) _ _ _ (end_planned c.args.plan.end) c.edit_and_reply.result (taken_lines c.args.state.now _ _ _ c.args.note _ c.state.view_is c.state.invariant.1 c.in_ok-trap_lines.ensures) c.edit_and_reply.ensures.ok
