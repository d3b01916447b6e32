use Rattle.std.proofs.Common.{ap, ◌∙◌}
use Rattle.client_hooks.specs.Replies.{edit_of}
use Rattle.run_state.specs.Held.{Held}
use Rattle.run_state.specs.Hand.{hand_within}
use Rattle.trap_acts.specs.TrapLaws.{resume_enters}
use Rattle.trap_acts.specs.Trapping.{change_by, left_by}
use Rattle.trap_acts.proofs.TrapViews.{low_in, edited_again, lands_again, resume_answered, resume_ended}
use Rattle.trap_acts.proofs.replying.resume.Goals as goal

pub look_back-requires-clause-there : goal.look_back-requires-clause-there
look_back-requires-clause-there g c = (resume_enters c.args.code.now c.args.state.now (left_by c.args.code.now c.args.state.now c.args.trapped) (change_by c.args.state.now c.args.trapped) _ c.requires.there _ (low_in _ _ c.state.view_is (hand_within _ _ _ _ _ c.state.invariant.5 (ap (λ (s : Held). s.left) c.state.view_is ∙ c.requires.left))) c.bring-entering.ensures)

pub resume_at-requires-clause-edited : goal.resume_at-requires-clause-edited
resume_at-requires-clause-edited g c = edited_again c.args.code.now c.args.state.now _ c.args.trapped.wait _ (edit_of c.args.trapped.edit) c.look_back.ensures.same c.look_back.ensures.wait c.requires.edited

pub resume_at-requires-clause-lands : goal.resume_at-requires-clause-lands
resume_at-requires-clause-lands g c =
    lands_again c.args.code.now c.args.state.now _ c.args.trapped.wait _ (edit_of c.args.trapped.edit) _ _ _ _ c.look_back.ensures.same c.look_back.ensures.wait c.in_ok-case.ensures.is c.in-Lands.is
    (resume_enters c.args.code.now c.args.state.now (left_by c.args.code.now c.args.state.now c.args.trapped) (change_by c.args.state.now c.args.trapped) _ c.requires.there _ (low_in _ _ c.state.view_is (hand_within _ _ _ _ _ c.state.invariant.5 (ap (λ (s : Held). s.left) c.state.view_is ∙ c.requires.left))) c.bring-entering.ensures)

pub returns-in-Refused-clause-ok : goal.returns-in-Refused-clause-ok
returns-in-Refused-clause-ok g c =
    resume_ended g.C.Determined.way c.args.code.now c.args.state.now _ _ (left_by c.args.code.now c.args.state.now c.args.trapped) (change_by c.args.state.now c.args.trapped) _ _ _ _ _ _ c.look_back.ensures.same c.requires.there (low_in _ _ c.state.view_is (hand_within _ _ _ _ _ c.state.invariant.5 (ap (λ (s : Held). s.left) c.state.view_is ∙ c.requires.left)))
    c.bring-entering.ensures c.in_ok-case.ensures.is c.in_ok-case.ensures.plain c.in-Refused.is c.case_ending.ensures

pub returns-in-Lands-clause-ok : goal.returns-in-Lands-clause-ok
returns-in-Lands-clause-ok g c =
    resume_answered g.C.Determined.way c.args.code.now c.args.state.now _ _ c.args.trapped.wait _ (edit_of c.args.trapped.edit) (change_by c.args.state.now c.args.trapped) _ _ _ _ _ _ _ c.look_back.ensures.same c.look_back.ensures.wait (ap (λ (s : Held). change_by s c.args.trapped) c.look_back.ensures.same) c.requires.there
    (low_in _ _ c.state.view_is (hand_within _ _ _ _ _ c.state.invariant.5 (ap (λ (s : Held). s.left) c.state.view_is ∙ c.requires.left))) c.bring-entering.ensures c.in_ok-case.ensures.is c.in-Lands.is c.resume_at.ensures.ok
