use Rattle.std.proofs.Common.{ap, sym, ◌∙◌}
use Rattle.frames.specs.Chains.{chain_of}
use Rattle.run_state.specs.Held.{Held}
use Rattle.run_state.specs.Hand.{hand_made, hand_on, hand_within}
use Rattle.stack_moves.specs.EnteringLaws.{enter_fits, entered_sound}
use Rattle.stack_moves.specs.Lemmas.EnteringViews.{lands_low, counts_one, low_one, steps_low, dies_so}
use Rattle.swap_acts.proofs.entering.die_to.Goals as goal

pub switch_ending-ended-requires-clause-on : goal.switch_ending-ended-requires-clause-on
switch_ending-ended-requires-clause-on g c = hand_on _ _ _ _ _ c.state.invariant.5 (ap (λ (s : Held). s.left) c.state.view_is ∙ c.requires.left)

pub switch_ending-ended-requires-clause-within : goal.switch_ending-ended-requires-clause-within
switch_ending-ended-requires-clause-within g c = hand_within _ _ _ _ _ c.state.invariant.5 (ap (λ (s : Held). s.left) c.state.view_is ∙ c.requires.left)

pub arrive-requires : goal.arrive-requires
arrive-requires g c = lands_low _ _ _ (chain_of c.switch_ending-ended.new.frames) c.args.landing.arrival _ c.state.view_is c.switch_ending-ended.ensures.frames c.requires.lands

pub log_other-requires-clause-fits : goal.log_other-requires-clause-fits
log_other-requires-clause-fits g c = enter_fits _ _ _ _ _ _ c.reserve.ensures.same_log (hand_made _ _ _ _ _ c.state.invariant.5 (ap (λ (s : Held). s.left) c.state.view_is ∙ c.requires.left))

pub returns-clause-ok : goal.returns-clause-ok
returns-clause-ok g c =
    dies_so c.args.state.now _ _ c.args.landing.arrival _ _ _ _ _ _ _ _ _ _ _ _ _ _ _ c.state.view_is c.requires.left c.switch_ending-ended.ensures.ended c.switch_ending-ended.ensures.frames c.switch_ending-ended.ensures.moved c.arrive.ensures.frames c.end_frames.ensures.objects
    c.arrive.ensures.objects c.end_frames.ensures.left c.arrive.ensures.left c.reserve.ensures.same_log c.reserve.ensures.same_rule c.log_other.ensures.added c.log_other.ensures.same_rule c.state.invariant.1 c.in_ok-lines.ensures

pub invariant_of-state-2 : goal.invariant_of-state-2
invariant_of-state-2 g c = (
  c.log_other.ensures.same_objects ∙ c.reserve.ensures.same_objects ∙ c.state.invariant.0 ∙ sym c.end_frames.ensures.initials ∙ sym c.arrive.ensures.initials,
  counts_one _ _ _ _ _ c.state.invariant.1 c.reserve.ensures.same_log c.log_other.ensures.added,
  low_one _ _ c.state.invariant.2,
  steps_low _ _ c.state.view_is c.requires.room,
  c.state.invariant.4,
  entered_sound _ _ _ _ _ _ _ _ _ _ c.state.invariant.5 c.switch_ending-ended.ensures.moved c.reserve.ensures.same_log c.log_other.ensures.added,
)
