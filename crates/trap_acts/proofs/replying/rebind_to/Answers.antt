use Rattle.std.proofs.Common.{ap, sym, refl, ◌∙◌}
use Rattle.frames.specs.Chains.{chain_of}
use Rattle.client_hooks.specs.Replies.{edit_of}
use Rattle.run_state.specs.Held.{Held}
use Rattle.run_state.specs.Hand.{hand_made, hand_on, hand_within}
use Rattle.stack_moves.specs.EnteringLaws.{leave_fits, enter_fits_then, swapped_sound}
use Rattle.stack_moves.specs.Lemmas.EnteringViews.{no_misfit, lands_there, ready_takes, counts_two, low_two, steps_low}
use Rattle.trap_acts.specs.Trapping.{change_by, left_by}
use Rattle.trap_acts.proofs.TrapViews.{enabled_so, edited_is, edited_ends, made_in, waits_edited, top_waits, on_same, low_same, takes_same, lands_same, rebound_so, moved_from}
use Rattle.trap_acts.proofs.replying.rebind_to.Goals as goal

pub hand_over-requires : goal.hand_over-requires
hand_over-requires g c = no_misfit c.args.code.now _ _ c.args.landing.arrival _ _ _ c.requires.lands c.requires.there

pub waits_after-requires : goal.waits_after-requires
waits_after-requires g c = made_in c.args.code.now c.args.state.now _ (edit_of c.args.trapped.edit) c.args.trapped.wait _ (chain_of c.state.inside.frames) c.state.view_is refl refl c.requires.edited

pub wait_and_edit-requires-clause-on : goal.wait_and_edit-requires-clause-on
wait_and_edit-requires-clause-on g c = (hand_on _ _ _ _ _ c.state.invariant.5 (ap (λ (s : Held). s.left) c.state.view_is ∙ c.requires.left))

pub wait_and_edit-requires-clause-within : goal.wait_and_edit-requires-clause-within
wait_and_edit-requires-clause-within g c = (hand_within _ _ _ _ _ c.state.invariant.5 (ap (λ (s : Held). s.left) c.state.view_is ∙ c.requires.left))

pub wait_and_edit-requires-clause-goes : goal.wait_and_edit-requires-clause-goes
wait_and_edit-requires-clause-goes g c = made_in c.args.code.now c.args.state.now _ (edit_of c.args.trapped.edit) c.args.trapped.wait _ (chain_of c.waits_after.new.frames) c.state.view_is c.waits_after.ensures.frames c.waits_after.ensures.wait c.requires.edited

pub switch-passed-requires-clause-on : goal.switch-passed-requires-clause-on
switch-passed-requires-clause-on g c = on_same _ _ _ _ c.wait_and_edit.ensures.seats (hand_on _ _ _ _ _ c.state.invariant.5 (ap (λ (s : Held). s.left) c.state.view_is ∙ c.requires.left))

pub switch-passed-requires-clause-within : goal.switch-passed-requires-clause-within
switch-passed-requires-clause-within g c = low_same _ _ _ c.wait_and_edit.ensures.seats (hand_within _ _ _ _ _ c.state.invariant.5 (ap (λ (s : Held). s.left) c.state.view_is ∙ c.requires.left))

pub switch-passed-requires-clause-waits : goal.switch-passed-requires-clause-waits
switch-passed-requires-clause-waits g c =
    top_waits (chain_of c.wait_and_edit.new.frames) _ _ (edited_is c.args.code.now c.args.state.now _ (edit_of c.args.trapped.edit) c.args.trapped.wait _ (chain_of c.waits_after.new.frames) (chain_of c.wait_and_edit.new.frames) c.state.view_is c.waits_after.ensures.frames c.waits_after.ensures.wait c.in_ok-wait_and_edit.ensures.frames) (waits_edited c.args.code.now c.args.state.now _ (edit_of c.args.trapped.edit) c.args.trapped.wait (chain_of c.state.inside.frames) _ c.state.view_is refl c.in_ok-waits.ensures.waits)

pub switch-passed-requires-clause-takes : goal.switch-passed-requires-clause-takes
switch-passed-requires-clause-takes g c =
    takes_same c.args.state.now _ _ _ _ c.state.view_is c.wait_and_edit.ensures.seats (ready_takes c.args.code.now _ _ _ c.args.landing.arrival _ c.requires.ready c.requires.lands c.requires.there c.in_ok-handing.ensures)

pub arrive-requires : goal.arrive-requires
arrive-requires g c =
    lands_same c.args.state.now _ _ c.args.landing.stack (chain_of c.switch-passed.new.frames) c.args.landing.arrival _ c.state.view_is c.wait_and_edit.ensures.seats c.switch-passed.ensures.frames
    (lands_there c.args.code.now _ _ c.args.landing.arrival _ c.requires.lands c.requires.there)

pub log_two-requires-clause-first_fits : goal.log_two-requires-clause-first_fits
log_two-requires-clause-first_fits g c = leave_fits _ _ _ _ _ _ c.reserve.ensures.same_log (hand_made _ _ _ _ _ c.state.invariant.5 (ap (λ (s : Held). s.left) c.state.view_is ∙ c.requires.left))

pub log_two-requires-clause-second_fits : goal.log_two-requires-clause-second_fits
log_two-requires-clause-second_fits g c = enter_fits_then _ _ _ _ _ _ _ c.reserve.ensures.same_log (hand_made _ _ _ _ _ c.state.invariant.5 (ap (λ (s : Held). s.left) c.state.view_is ∙ c.requires.left))

pub returns-clause-ok : goal.returns-clause-ok
returns-clause-ok g c =
    rebound_so g.C.Determined.way c.args.state.now _ (left_by c.args.code.now c.args.state.now c.args.trapped) (change_by c.args.state.now c.args.trapped) c.args.landing.stack c.args.landing.arrival _ (chain_of c.wait_and_edit.new.frames) (chain_of c.switch-passed.new.frames) _ _ _ _ _ _ _ _ _ _ _ _ _ _ _ c.state.view_is c.requires.left
    (edited_is c.args.code.now c.args.state.now _ (edit_of c.args.trapped.edit) c.args.trapped.wait _ (chain_of c.waits_after.new.frames) (chain_of c.wait_and_edit.new.frames) c.state.view_is c.waits_after.ensures.frames c.waits_after.ensures.wait c.in_ok-wait_and_edit.ensures.frames) c.wait_and_edit.ensures.seats
    (edited_ends c.args.code.now c.args.state.now _ (edit_of c.args.trapped.edit) c.args.trapped.wait _ (chain_of c.waits_after.new.frames) _ _ c.state.view_is c.waits_after.ensures.frames c.waits_after.ensures.wait refl c.in_ok-wait_and_edit.ensures.objects) c.wait_and_edit.ensures.left
    c.switch-passed.ensures.frames c.switch-passed.ensures.moved c.arrive.ensures.frames c.arrive.ensures.objects c.arrive.ensures.left c.reserve.ensures.same_log c.reserve.ensures.same_rule c.log_two.ensures.log c.log_two.ensures.same_rule
    (enabled_so c.args.state.now _ _ _ c.args.trapped.watches c.state.view_is c.reserve-2.ensures.enabled c.apply.ensures.enabled) (g.met.C.Determined.goes_on _ _ c.advance.ensures.advanced) c.state.invariant.1 c.in_ok-lines.ensures

pub invariant_of-state-2 : goal.invariant_of-state-2
invariant_of-state-2 g c = (
  c.log_two.ensures.same_objects ∙ c.reserve.ensures.same_objects ∙ c.state.invariant.0 ∙ sym c.wait_and_edit.ensures.initials ∙ sym c.arrive.ensures.initials,
  counts_two _ _ _ _ _ _ c.state.invariant.1 c.reserve.ensures.same_log c.log_two.ensures.log,
  low_two _ _ c.state.invariant.2,
  steps_low _ _ c.state.view_is c.requires.room,
  c.state.invariant.4,
  swapped_sound _ _ _ _ _ _ _ _ _ _ c.state.invariant.5 (moved_from _ _ _ _ _ _ _ c.wait_and_edit.ensures.seats c.switch-passed.ensures.moved) c.reserve.ensures.same_log c.log_two.ensures.log,
)
