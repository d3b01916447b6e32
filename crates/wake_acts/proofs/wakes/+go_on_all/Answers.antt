use Rattle.std.proofs.Common.{IsSome, sym, subst, arith}
use Rattle.frames.specs.Chains.{Chain}
use Rattle.run_state.specs.Acting.{goes_on}
use Rattle.wake_acts.proofs.WakeViews.{none_go, first_goes, rest_distinct, rest_goes, all_gone, none_gone, empty_is}
use Rattle.wake_acts.proofs.wakes.+go_on_all.Goals as goal

pub returns-in-None-clause-ok : goal.returns-in-None-clause-ok
returns-in-None-clause-ok t c = none_go c.args.code.now c.args.seats.now c.args.woken.now c.go_on.result (empty_is c.args.woken.now c.in-None.ensures.cases)

pub hold-requires : goal.hold-requires
hold-requires t c = first_goes c.args.code.now c.args.seats.now c.args.woken.now _ _ c.in-Some.ensures.cases.0 c.requires.there

pub go_on_all-requires : goal.go_on_all-requires
go_on_all-requires t c = (
  omega (arith, c.in-Some.ensures.cases.1),
  (
    rest_distinct c.args.woken.now _ _ c.in-Some.ensures.cases.0 c.requires.distinct,
    (
      rest_goes c.args.code.now c.args.seats.now _ c.args.woken.now _ _ _ _ _ _ _ c.in-Some.ensures.cases.0 c.requires.distinct c.requires.there c.in_ok-onward-in-Some.ensures.held c.in_ok-onward-in-Some.ensures.seats,
      subst (λ (x : Chain). IsSome (goes_on c.args.code.now x.top c.args.results.now.values)) (sym c.hold.ensures.frames) c.requires.goes,
    ),
  ),
)

pub returns-in-Ok-clause-ok : goal.returns-in-Ok-clause-ok
returns-in-Ok-clause-ok t c =
    all_gone c.args.code.now c.args.seats.now _ c.args.woken.now _ _ _ _ _ _ _ c.in-Some.ensures.cases.0 c.requires.distinct c.requires.there c.in_ok-onward-in-Some.ensures.held c.in_ok-onward-in-Some.ensures.seats _ _ c.in-Ok.ensures.ok c.finish.ensures.seats

pub returns-in-Err-clause-err : goal.returns-in-Err-clause-err
returns-in-Err-clause-err t c =
    none_gone c.args.code.now c.args.seats.now _ c.args.woken.now _ _ _ _ _ _ _ c.in-Some.ensures.cases.0 c.requires.distinct c.requires.there c.in_ok-onward-in-Some.ensures.held c.in_ok-onward-in-Some.ensures.seats _ _ c.in-Err.ensures.err c.give_back.ensures.seats
