use Rattle.std.proofs.Common.{ap, sym, refl, ◌∙◌}
use Rattle.frames.specs.Chains.{chain_of}
use Rattle.client_hooks.specs.Replies.{edit_of}
use Rattle.run_state.specs.Held.{Held}
use Rattle.run_state.specs.Hand.{hand_made, hand_on, hand_within}
use Rattle.stack_moves.specs.EnteringLaws.{leave_fits, enter_fits_then}
use Rattle.stack_moves.specs.Lemmas.EnteringViews.{counts_two, low_two, steps_low}
use Rattle.trap_acts.specs.Trapping.{change_by, left_by}
use Rattle.trap_acts.proofs.TrapViews.{enabled_so, edited_is, edited_ends, made_in, lands_low_own, resumed_so, stays_sound}
use Rattle.trap_acts.proofs.replying.resume_at.Goals as goal

pub wait_and_edit-requires-clause-on : goal.wait_and_edit-requires-clause-on
wait_and_edit-requires-clause-on g c = (hand_on _ _ _ _ _ c.state.invariant.5 (ap (λ (s : Held). s.left) c.state.view_is ∙ c.requires.left))

pub wait_and_edit-requires-clause-within : goal.wait_and_edit-requires-clause-within
wait_and_edit-requires-clause-within g c = (hand_within _ _ _ _ _ c.state.invariant.5 (ap (λ (s : Held). s.left) c.state.view_is ∙ c.requires.left))

pub wait_and_edit-requires-clause-goes : goal.wait_and_edit-requires-clause-goes
wait_and_edit-requires-clause-goes g c = made_in c.args.code.now c.args.state.now _ (edit_of c.args.trapped.edit) c.args.trapped.wait _ (chain_of c.state.inside.frames) c.state.view_is refl refl c.requires.edited

pub arrive-requires : goal.arrive-requires
arrive-requires g c = lands_low_own (left_by c.args.code.now c.args.state.now c.args.trapped) (chain_of c.wait_and_edit.new.frames) c.args.arrival _ (edited_is c.args.code.now c.args.state.now _ (edit_of c.args.trapped.edit) c.args.trapped.wait _ (chain_of c.state.inside.frames) (chain_of c.wait_and_edit.new.frames) c.state.view_is refl refl c.in_ok-wait_and_edit.ensures.frames) c.requires.lands

pub log_two-requires-clause-first_fits : goal.log_two-requires-clause-first_fits
log_two-requires-clause-first_fits g c = leave_fits _ _ _ _ _ _ c.reserve.ensures.same_log (hand_made _ _ _ _ _ c.state.invariant.5 (ap (λ (s : Held). s.left) c.state.view_is ∙ c.requires.left))

pub log_two-requires-clause-second_fits : goal.log_two-requires-clause-second_fits
log_two-requires-clause-second_fits g c = enter_fits_then _ _ _ _ _ _ _ c.reserve.ensures.same_log (hand_made _ _ _ _ _ c.state.invariant.5 (ap (λ (s : Held). s.left) c.state.view_is ∙ c.requires.left))

pub returns-clause-ok : goal.returns-clause-ok
returns-clause-ok g c =
    resumed_so g.C.Determined.way c.args.state.now _ (left_by c.args.code.now c.args.state.now c.args.trapped) (change_by c.args.state.now c.args.trapped) c.args.arrival _ (chain_of c.wait_and_edit.new.frames) _ _ _ _ _ _ _ _ _ _ _ _ _ _ c.state.view_is c.requires.left (hand_on _ _ _ _ _ c.state.invariant.5 (ap (λ (s : Held). s.left) c.state.view_is ∙ c.requires.left)) (hand_within _ _ _ _ _ c.state.invariant.5 (ap (λ (s : Held). s.left) c.state.view_is ∙ c.requires.left))
    (edited_is c.args.code.now c.args.state.now _ (edit_of c.args.trapped.edit) c.args.trapped.wait _ (chain_of c.state.inside.frames) (chain_of c.wait_and_edit.new.frames) c.state.view_is refl refl c.in_ok-wait_and_edit.ensures.frames) c.wait_and_edit.ensures.seats (edited_ends c.args.code.now c.args.state.now _ (edit_of c.args.trapped.edit) c.args.trapped.wait _ (chain_of c.state.inside.frames) _ _ c.state.view_is refl refl refl c.in_ok-wait_and_edit.ensures.objects) c.wait_and_edit.ensures.left
    c.arrive.ensures.frames c.arrive.ensures.objects c.arrive.ensures.left c.reserve.ensures.same_log c.reserve.ensures.same_rule c.log_two.ensures.log c.log_two.ensures.same_rule
    (enabled_so c.args.state.now _ _ _ c.args.trapped.watches c.state.view_is c.reserve-2.ensures.enabled c.apply.ensures.enabled) (g.met.C.Determined.goes_on _ _ c.advance.ensures.advanced) c.state.invariant.1 c.in_ok-push.ensures.ok

pub invariant_of-state-2 : goal.invariant_of-state-2
invariant_of-state-2 g c = (
  c.log_two.ensures.same_objects ∙ c.reserve.ensures.same_objects ∙ c.state.invariant.0 ∙ sym c.wait_and_edit.ensures.initials ∙ sym c.arrive.ensures.initials,
  counts_two _ _ _ _ _ _ c.state.invariant.1 c.reserve.ensures.same_log c.log_two.ensures.log,
  low_two _ _ c.state.invariant.2,
  steps_low _ _ c.state.view_is c.requires.room,
  c.state.invariant.4,
  stays_sound _ _ _ _ _ _ _ _ c.state.invariant.5 (ap (λ (s : Held). s.left) c.state.view_is ∙ c.requires.left) c.wait_and_edit.ensures.seats c.reserve.ensures.same_log c.log_two.ensures.log,
)
