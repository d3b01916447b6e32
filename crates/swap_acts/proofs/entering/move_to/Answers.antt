use Rattle.std.proofs.Common.{ap, sym, ◌∙◌}
use Rattle.frames.specs.Chains.{StoredChain, chain_of}
use Rattle.run_state.specs.Held.{Held}
use Rattle.run_state.specs.Hand.{hand_made, hand_on, hand_within}
use Rattle.stack_moves.specs.EnteringLaws.{leave_fits, enter_fits_then, swapped_sound}
use Rattle.stack_moves.specs.Lemmas.EnteringViews.{lands_low, counts_two, low_two, steps_low, swaps_so}
use Rattle.swap_acts.proofs.entering.move_to.Goals as goal

pub switch-passed-requires-clause-on : goal.switch-passed-requires-clause-on
switch-passed-requires-clause-on g c = hand_on _ _ _ _ _ c.state.invariant.5 (ap (λ (s : Held). s.left) c.state.view_is ∙ c.requires.left)

pub switch-passed-requires-clause-within : goal.switch-passed-requires-clause-within
switch-passed-requires-clause-within g c = hand_within _ _ _ _ _ c.state.invariant.5 (ap (λ (s : Held). s.left) c.state.view_is ∙ c.requires.left)

pub switch-passed-requires-clause-waits : goal.switch-passed-requires-clause-waits
switch-passed-requires-clause-waits g c = ap (λ (f : StoredChain). f.top.waits) c.exchange_on_top.ensures.frames ∙ sym (c.in_ok-waits.ensures ∙ c.waits.ensures)

pub arrive-requires : goal.arrive-requires
arrive-requires g c = lands_low _ _ _ (chain_of c.switch-passed.new.frames) c.args.landing.arrival _ c.state.view_is c.switch-passed.ensures.frames c.requires.lands

pub log_two-requires-clause-first_fits : goal.log_two-requires-clause-first_fits
log_two-requires-clause-first_fits g c = leave_fits _ _ _ _ _ _ c.reserve.ensures.same_log (hand_made _ _ _ _ _ c.state.invariant.5 (ap (λ (s : Held). s.left) c.state.view_is ∙ c.requires.left))

pub log_two-requires-clause-second_fits : goal.log_two-requires-clause-second_fits
log_two-requires-clause-second_fits g c = enter_fits_then _ _ _ _ _ _ _ c.reserve.ensures.same_log (hand_made _ _ _ _ _ c.state.invariant.5 (ap (λ (s : Held). s.left) c.state.view_is ∙ c.requires.left))

pub returns-clause-ok : goal.returns-clause-ok
returns-clause-ok g c =
    swaps_so c.args.state.now _ _ _ c.args.landing.arrival _ _ _ _ _ _ _ _ _ _ _ _ c.state.view_is c.requires.left (ap chain_of c.exchange_on_top.ensures.frames) c.switch-passed.ensures.frames c.switch-passed.ensures.moved c.arrive.ensures.frames c.arrive.ensures.objects
    c.arrive.ensures.left c.reserve.ensures.same_log c.reserve.ensures.same_rule c.log_two.ensures.log c.log_two.ensures.same_rule

pub invariant_of-state-2 : goal.invariant_of-state-2
invariant_of-state-2 g c = (
  c.log_two.ensures.same_objects ∙ c.reserve.ensures.same_objects ∙ c.state.invariant.0 ∙ sym c.arrive.ensures.initials,
  counts_two _ _ _ _ _ _ c.state.invariant.1 c.reserve.ensures.same_log c.log_two.ensures.log,
  low_two _ _ c.state.invariant.2,
  steps_low _ _ c.state.view_is c.requires.room,
  c.state.invariant.4,
  swapped_sound _ _ _ _ _ _ _ _ _ _ c.state.invariant.5 c.switch-passed.ensures.moved c.reserve.ensures.same_log c.log_two.ensures.log,
)
