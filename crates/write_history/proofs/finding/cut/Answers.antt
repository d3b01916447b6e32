use Rattle.std.proofs.Common.{◌+◌, ◌-◌, ◌/◌, sym, ◌∙◌, arith}
use Rattle.write_history.proofs.Cutting.{cutting-begun, cutting-up, cutting-down, cutting-done, cutting-cost}
use Rattle.write_history.proofs.finding.cut.Goals as goal

pub loop-low-init : goal.loop-low-init
loop-low-init g c = cutting-begun c.args.positions.values.now c.args.positions.order.now c.args.sought c.args.start c.args.end c.args.steps.now c.requires.start

pub passes-requires-clause-place : goal.passes-requires-clause-place
passes-requires-clause-place g c = let t = c.loop-low.invariant.to in let e = c.requires.end in let l = c.loop-low-test.true in omega (arith, t, e, l)

pub passes-requires-clause-there : goal.passes-requires-clause-there
passes-requires-clause-there g c =
    let i = c.loop-low.invariant in
    let f = i.from in
    let t = i.to in
    let l = c.loop-low-test.true in
    let e = c.requires.end in
    let few = c.requires.few in
    let w = (c.requires.run.within (c.loop-low.low + (c.loop-low.high - c.loop-low.low) / 2) (omega (arith, f, l)) (omega (arith, t, l))).1 in
    omega (arith, w, e, few)

pub loop-low-preserved-then-passes : goal.loop-low-preserved-then-passes
loop-low-preserved-then-passes g c =
    let e = c.requires.end in
    let few = c.requires.few in
    cutting-up c.args.positions.values.now c.args.positions.order.now c.args.sought c.args.start c.args.end c.loop-low.low c.loop-low.high c.args.steps.now c.loop-low.steps c.passes.new.steps
    c.requires.run (omega (arith, e, few)) c.loop-low.invariant c.loop-low-test.true c.passes.ensures.cost (sym c.passes.ensures.passes ∙ c.if-passes.true)

pub loop-low-preserved : goal.loop-low-preserved
loop-low-preserved g c =
    let e = c.requires.end in
    let few = c.requires.few in
    cutting-down c.args.positions.values.now c.args.positions.order.now c.args.sought c.args.start c.args.end c.loop-low.low c.loop-low.high c.args.steps.now c.loop-low.steps c.passes.new.steps
    c.requires.run (omega (arith, e, few)) c.loop-low.invariant c.loop-low-test.true c.passes.ensures.cost (sym c.passes.ensures.passes ∙ c.if-passes.false)

pub returns-clause-cut : goal.returns-clause-cut
returns-clause-cut g c = cutting-done c.args.positions.values.now c.args.positions.order.now c.args.sought c.args.start c.args.end c.loop-low.low c.loop-low.high c.args.steps.now c.loop-low.steps c.loop-low.invariant c.loop-low-test.false

pub returns-clause-cost : goal.returns-clause-cost
returns-clause-cost g c d l = cutting-cost c.args.positions.values.now c.args.positions.order.now c.args.sought c.args.start c.args.end c.loop-low.low c.loop-low.high c.args.steps.now c.loop-low.steps d c.loop-low.invariant l
