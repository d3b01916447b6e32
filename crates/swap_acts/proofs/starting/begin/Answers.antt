use Rattle.std.proofs.Common.{ap, sym, ◌∙◌, length}
use Rattle.frames.specs.Chains.{chain_of}
use Rattle.run_state.specs.Held.{Held}
use Rattle.run_state.specs.Hand.{hand_made, hand_on}
use Rattle.swap_acts.specs.StartLaws.{new_enters}
use Rattle.stack_moves.specs.Lemmas.EnteringViews.{lands_low, counts_two, low_two, steps_low}
use Rattle.swap_acts.proofs.StartViews.{begins_there, begins_so, made_at, sound_at}
use Rattle.swap_acts.proofs.starting.begin.Goals as goal

pub switch_starting-passed-requires-clause-on : goal.switch_starting-passed-requires-clause-on
switch_starting-passed-requires-clause-on g c = hand_on _ _ _ _ _ c.state.invariant.5 (ap (λ (s : Held). s.left) c.state.view_is ∙ c.requires.left)

pub go_on-requires : goal.go_on-requires
go_on-requires g c = begins_there c.args.code.now _ _ c.args.results.now.values c.state.view_is c.requires.there

pub arrive-requires : goal.arrive-requires
arrive-requires g c = lands_low _ _ _ (chain_of c.switch_starting-passed.new.frames) c.args.landing.arrival _ c.state.view_is c.switch_starting-passed.ensures.frames c.requires.lands

pub log_two-requires-clause-first_fits : goal.log_two-requires-clause-first_fits
log_two-requires-clause-first_fits g c =
    made_at c.args.state.now _ _ _ _ _ c.state.view_is (c.made-number.ensures ∙ ap (λ (s : Held). length s.seats.threads) c.state.view_is) c.requires.few c.state.invariant.5 c.reserve.ensures.same_log (hand_made _ _ _ _ _ c.state.invariant.5 (ap (λ (s : Held). s.left) c.state.view_is ∙ c.requires.left))

pub log_two-requires-clause-second_fits : goal.log_two-requires-clause-second_fits
log_two-requires-clause-second_fits g c = new_enters _ _ _ _ _ _

pub returns-clause-ok : goal.returns-clause-ok
returns-clause-ok g c =
    begins_so c.args.code.now c.args.state.now _ _ _ _ c.args.landing.arrival _ c.args.results.now.values (chain_of c.go_on.new.frames) _ _ _ _ _ _ _ _ _ _ _ c.state.view_is c.requires.left c.requires.other (c.made-number.ensures ∙ ap (λ (s : Held). length s.seats.threads) c.state.view_is) c.in_ok-go_on.ensures.top c.go_on.ensures.below c.switch_starting-passed.ensures.frames c.switch_starting-passed.ensures.started
    c.arrive.ensures.frames c.arrive.ensures.objects c.arrive.ensures.left c.reserve.ensures.same_log c.reserve.ensures.same_rule c.log_two.ensures.log c.log_two.ensures.same_rule c.state.invariant.1 c.in_ok-lines.ensures

pub invariant_of-state-2 : goal.invariant_of-state-2
invariant_of-state-2 g c = (
  c.log_two.ensures.same_objects ∙ c.reserve.ensures.same_objects ∙ c.state.invariant.0 ∙ sym c.arrive.ensures.initials,
  counts_two _ _ _ _ _ _ c.state.invariant.1 c.reserve.ensures.same_log c.log_two.ensures.log,
  low_two _ _ c.state.invariant.2,
  steps_low _ _ c.state.view_is c.requires.room,
  c.state.invariant.4,
  sound_at c.args.state.now _ _ _ _ _ _ _ _ c.state.view_is (c.made-number.ensures ∙ ap (λ (s : Held). length s.seats.threads) c.state.view_is) c.state.invariant.5 c.switch_starting-passed.ensures.started c.reserve.ensures.same_log c.log_two.ensures.log,
)
