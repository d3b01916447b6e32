use Rattle.std.proofs.Common.{◌≡◌, ◌∙◌, arith, length, subst}
use Rattle.model_numbers.specs.Numbered.{numbered}
use Rattle.seats.specs.Seats.{runnable_of}
use Rattle.run_state.specs.Held.{Held, configuration}
use Rattle.mu_step.proofs.LocalLaws.{place_found, place_passed, place_none, not_over}
use Rattle.mu_step.proofs.locals.least_local.Goals as goal

pub returns-then-branch-clause-least : goal.returns-then-branch-clause-least
returns-then-branch-clause-least g c =
    place_found (numbered c.args.code.now) (configuration c.args.state.now) (configuration c.places.state) c.places.place c.in_ok-is_local_at.field-0 c.places.invariant.same c.places.invariant.none
    c.in_ok-is_local_at.ensures.local (not_over _ c.args.state.now c.state.view_is (λ e. omega (arith, e, c.if-state.false))) c.if-branch.true

pub places-preserved : goal.places-preserved
places-preserved g c = record {
  same = c.is_local_at.ensures.same ∙ c.places.invariant.same;
  whole = c.is_local_at.ensures.whole;
  none =
      place_passed (numbered c.args.code.now) (configuration c.args.state.now) (configuration c.places.state) c.places.place c.in_ok-is_local_at.field-0 c.places.invariant.same c.places.invariant.none
      c.in_ok-is_local_at.ensures.local c.if-branch.false;
}

pub returns-clause-least : goal.returns-clause-least
returns-clause-least g c =
    let many : c.runnable-many.result ≡ length (runnable_of c.args.state.now.seats) = subst (λ (s : Held). c.runnable-many.result ≡ length (runnable_of s.seats)) c.state.view_is c.runnable-many.ensures in
    place_none (numbered c.args.code.now) (configuration c.args.state.now) c.places.place c.places.invariant.none (omega (arith, many, c.places-test.false))
