use Rattle.std.proofs.Common.{ap}
use Rattle.client_hooks.specs.Plans.{end_planned}
use Rattle.client_hooks.specs.Replies.{edit_of}
use Rattle.run_state.specs.Held.{Held}
use Rattle.trap_acts.specs.TrapLaws.{edit_there}
use Rattle.trap_acts.specs.Trapping.{change_by}
use Rattle.trap_acts.proofs.TrapViews.{edit_ended, edited_again, reply_there, edit_answered}
use Rattle.trap_acts.proofs.asking.edit_and_reply.Goals as goal

pub refusal-requires : goal.refusal-requires
refusal-requires g c = record { there = edit_there c.args.code.now c.args.state.now c.args.trapped.wait (edit_of c.args.trapped.edit) (change_by c.args.state.now c.args.trapped) (end_planned c.args.end) c.requires.there }

pub returns-in-Some-clause-ok : goal.returns-in-Some-clause-ok
returns-in-Some-clause-ok g c =
    edit_ended g.C.Determined.way c.args.code.now c.args.state.now _ _ c.args.trapped.wait (edit_of c.args.trapped.edit) (change_by c.args.state.now c.args.trapped) (end_planned c.args.end) _ _ c.refusal.ensures.same c.requires.there c.in-Some.ensures.refused c.case_ending.ensures

pub reply-requires-clause-edited : goal.reply-requires-clause-edited
reply-requires-clause-edited g c = edited_again c.args.code.now c.args.state.now _ c.args.trapped.wait _ (edit_of c.args.trapped.edit) c.refusal.ensures.same c.refusal.ensures.wait c.in-None.ensures.goes

pub reply-requires-clause-there : goal.reply-requires-clause-there
reply-requires-clause-there g c =
    reply_there c.args.code.now c.args.state.now _ c.args.trapped.wait _ (edit_of c.args.trapped.edit) (change_by c.args.state.now c.args.trapped) _ (end_planned c.args.end) c.refusal.ensures.same c.refusal.ensures.wait (ap (λ (s : Held). change_by s c.args.trapped) c.refusal.ensures.same) c.requires.there c.in-None.ensures.goes

pub returns-in-None-clause-ok : goal.returns-in-None-clause-ok
returns-in-None-clause-ok g c =
    edit_answered g.C.Determined.way c.args.code.now c.args.state.now _ _ c.args.trapped.wait _ (edit_of c.args.trapped.edit) (change_by c.args.state.now c.args.trapped) _ (end_planned c.args.end) c.reply.result c.refusal.ensures.same c.refusal.ensures.wait (ap (λ (s : Held). change_by s c.args.trapped) c.refusal.ensures.same) c.requires.there c.in-None.ensures.goes c.reply.ensures.ok
