use Rattle.std.proofs.Common.{◌+◌, ◌∷◌, refl, arith}
use Rattle.verdicts.specs.declared.types.Verdict.TheVariants.{Yes}
use Rattle.verdicts.proofs.Judged.{after_nothing, none_yet, faultless_of, found_there, goes_next, goes_over}
use Rattle.verdicts.proofs.judging.judge.Goals as goal

pub loop-n-init : goal.loop-n-init
loop-n-init g c =
    let start = none_yet (g.P.Past.rule c.args.past.now) _ c.requires.nothing in
    (c.args.log.now, after_nothing c.args.log.now _ c.requires.nothing, start.0, start.1, refl)

pub failing-requires-clause-faultless : goal.failing-requires-clause-faultless
failing-requires-clause-faultless g c = faultless_of _ _ _ c.loop-n.invariant.3

pub returns-in-Some : goal.returns-in-Some
returns-in-Some g c =
    let i = c.loop-n.invariant in
    found_there _ _ i.0 _ c.args.log.now c.loop-n.n c.event-event.result.now c.in-Some.verdict i.1 i.2 i.3 i.4 c.event-event.ensures c.in-Some.ensures.some.0 c.in-Some.ensures.some.1

pub loop-n-preserved : goal.loop-n-preserved
loop-n-preserved g c =
    let i = c.loop-n.invariant in
    goes_over _ _ _ i.0 _ _ c.args.log.now c.loop-n.n c.event-event.result.now i.1 i.2 i.3 i.4 c.event-event.ensures c.in_default.ensures.none c.in_ok-add.ensures.added c.in_ok-add.ensures.rule

pub add-requires-clause-faultless : goal.add-requires-clause-faultless
add-requires-clause-faultless g c =
    let rule = g.P.Past.rule c.loop-n.past in
    let past = g.P.Past.log c.loop-n.past in
    let e = c.event-event.result.now in
    faultless_of rule (e ∷ past) (c.loop-n.n + 1) (goes_next rule past e c.loop-n.n (Yes (c.loop-n.n + 1)) c.loop-n.invariant.3 c.in_default.ensures.none)

pub failing-requires-clause-part : goal.failing-requires-clause-part
failing-requires-clause-part g c = record { newer = c.loop-n.invariant.0; parts = c.loop-n.invariant.1 }

pub add-requires-clause-few : goal.add-requires-clause-few
add-requires-clause-few g c = c.requires.few c.loop-n.n c.event-event.result.now c.event-event.ensures

pub add-requires-clause-count : goal.add-requires-clause-count
add-requires-clause-count g c =
    let l = c.loop-n-test.true in
    let n = c.loop-n.invariant.2 in
    omega (arith, l, n)
