use Rattle.std.proofs.Common.{ap, refl, sym, ◌∙◌}
use Rattle.frames.specs.Chains.{chain_of}
use Rattle.client_hooks.specs.Replies.{edit_of}
use Rattle.run_state.specs.Held.{Held}
use Rattle.run_state.specs.Hand.{hand_made, hand_on, hand_within}
use Rattle.stack_moves.specs.EnteringLaws.{leave_fits}
use Rattle.trap_acts.specs.Trapping.{change_by, left_by}
use Rattle.stack_moves.specs.Lemmas.EnteringViews.{counts_one, low_one, steps_low}
use Rattle.trap_acts.proofs.TrapViews.{enabled_so, edited_is, edited_ends, made_in, waits_edited, top_waits, on_same, exited_so, exit_waits, gone_sound}
use Rattle.trap_acts.proofs.replying.exit_ready.Goals as goal

pub waits_after-requires : goal.waits_after-requires
waits_after-requires g c = made_in c.args.code.now c.args.state.now _ (edit_of c.args.trapped.edit) c.args.trapped.wait _ (chain_of c.state.inside.frames) c.state.view_is refl refl c.requires.edited

pub wait_and_edit-requires-clause-on : goal.wait_and_edit-requires-clause-on
wait_and_edit-requires-clause-on g c = (hand_on _ _ _ _ _ c.state.invariant.5 (ap (λ (s : Held). s.left) c.state.view_is ∙ c.requires.left))

pub wait_and_edit-requires-clause-within : goal.wait_and_edit-requires-clause-within
wait_and_edit-requires-clause-within g c = (hand_within _ _ _ _ _ c.state.invariant.5 (ap (λ (s : Held). s.left) c.state.view_is ∙ c.requires.left))

pub wait_and_edit-requires-clause-goes : goal.wait_and_edit-requires-clause-goes
wait_and_edit-requires-clause-goes g c = made_in c.args.code.now c.args.state.now _ (edit_of c.args.trapped.edit) c.args.trapped.wait _ (chain_of c.waits_after.new.frames) c.state.view_is c.waits_after.ensures.frames c.waits_after.ensures.wait c.requires.edited

pub exchange-requires : goal.exchange-requires
exchange-requires g c = on_same _ _ _ _ c.wait_and_edit.ensures.seats (hand_on _ _ _ _ _ c.state.invariant.5 (ap (λ (s : Held). s.left) c.state.view_is ∙ c.requires.left))

pub exit-requires-clause-on : goal.exit-requires-clause-on
exit-requires-clause-on g c = on_same _ _ _ _ c.exchange.ensures.seats (on_same _ _ _ _ c.wait_and_edit.ensures.seats (hand_on _ _ _ _ _ c.state.invariant.5 (ap (λ (s : Held). s.left) c.state.view_is ∙ c.requires.left)))

pub exit-requires-clause-waits : goal.exit-requires-clause-waits
exit-requires-clause-waits g c =
    exit_waits _ _ _ _ _ (chain_of c.wait_and_edit.new.frames) _ (hand_within _ _ _ _ _ c.state.invariant.5 (ap (λ (s : Held). s.left) c.state.view_is ∙ c.requires.left)) c.wait_and_edit.ensures.seats c.exchange.ensures.seats
    (top_waits (chain_of c.wait_and_edit.new.frames) _ _ (edited_is c.args.code.now c.args.state.now _ (edit_of c.args.trapped.edit) c.args.trapped.wait _ (chain_of c.waits_after.new.frames) (chain_of c.wait_and_edit.new.frames) c.state.view_is c.waits_after.ensures.frames c.waits_after.ensures.wait c.in_ok-wait_and_edit.ensures.frames) (waits_edited c.args.code.now c.args.state.now _ (edit_of c.args.trapped.edit) c.args.trapped.wait (chain_of c.state.inside.frames) _ c.state.view_is refl c.in_ok-waits.ensures.waits))

pub log_other-requires-clause-fits : goal.log_other-requires-clause-fits
log_other-requires-clause-fits g c = leave_fits _ _ _ _ _ _ c.reserve.ensures.same_log (hand_made _ _ _ _ _ c.state.invariant.5 (ap (λ (s : Held). s.left) c.state.view_is ∙ c.requires.left))

pub returns-clause-ok : goal.returns-clause-ok
returns-clause-ok g c =
    exited_so g.C.Determined.way c.args.code.now c.args.state.now _ (left_by c.args.code.now c.args.state.now c.args.trapped) (change_by c.args.state.now c.args.trapped) (chain_of c.wait_and_edit.new.frames) _ _ _ _ _ _ _ _ _ _ _ _ _ c.state.view_is c.requires.there (edited_is c.args.code.now c.args.state.now _ (edit_of c.args.trapped.edit) c.args.trapped.wait _ (chain_of c.waits_after.new.frames) (chain_of c.wait_and_edit.new.frames) c.state.view_is c.waits_after.ensures.frames c.waits_after.ensures.wait c.in_ok-wait_and_edit.ensures.frames)
    (edited_ends c.args.code.now c.args.state.now _ (edit_of c.args.trapped.edit) c.args.trapped.wait _ (chain_of c.waits_after.new.frames) _ _ c.state.view_is c.waits_after.ensures.frames c.waits_after.ensures.wait refl c.in_ok-wait_and_edit.ensures.objects) c.wait_and_edit.ensures.left
    c.wait_and_edit.ensures.seats c.exchange.ensures.seats c.exit.ensures
    c.reserve.ensures.same_log c.reserve.ensures.same_rule c.log_other.ensures.added c.log_other.ensures.same_rule (enabled_so c.args.state.now _ _ _ c.args.trapped.watches c.state.view_is c.reserve-2.ensures.enabled c.apply.ensures.enabled) (g.met.C.Determined.goes_on _ _ c.advance.ensures.advanced) c.in_ok-push.ensures.ok

pub invariant_of-state-2 : goal.invariant_of-state-2
invariant_of-state-2 g c = (
  c.log_other.ensures.same_objects ∙ c.reserve.ensures.same_objects ∙ c.state.invariant.0 ∙ sym c.wait_and_edit.ensures.initials,
  counts_one _ _ _ _ _ c.state.invariant.1 c.reserve.ensures.same_log c.log_other.ensures.added,
  low_one _ _ c.state.invariant.2,
  steps_low _ _ c.state.view_is c.requires.room,
  c.state.invariant.4,
  gone_sound _ _ _ _ _ _ _ _ _ _ _ c.state.invariant.5 c.wait_and_edit.ensures.seats c.exchange.ensures.seats c.exit.ensures c.reserve.ensures.same_log c.log_other.ensures.added,
)
