use Rattle.write_history.proofs.Search.{halving-up, halving-down, before-found, after-found}
use Rattle.write_history.proofs.access_index.halve.Goals as goal

pub loop-low-preserved-then-entry-upto : goal.loop-low-preserved-then-entry-upto
loop-low-preserved-then-entry-upto g c =
    halving-up c.args.entries.now c.args.upto c.loop-low.low c.loop-low.high c.loop-low.before c.loop-low.after c.look-entry.result c.args.steps.now c.loop-low.steps c.look-entry.new.steps
    c.requires.rising c.loop-low.invariant c.loop-low-test.true c.look-entry.ensures.cost c.look-entry.ensures.value c.if-entry-upto.true

pub loop-low-preserved : goal.loop-low-preserved
loop-low-preserved g c =
    halving-down c.args.entries.now c.args.upto c.loop-low.low c.loop-low.high c.loop-low.before c.loop-low.after c.look-entry.result c.args.steps.now c.loop-low.steps c.look-entry.new.steps
    c.requires.rising c.loop-low.invariant c.loop-low-test.true c.look-entry.ensures.cost c.look-entry.ensures.value c.if-entry-upto.false

pub returns-clause-before : goal.returns-clause-before
returns-clause-before g c =
    before-found c.args.entries.now c.args.upto c.loop-low.low c.loop-low.high c.loop-low.before c.loop-low.after c.args.steps.now c.loop-low.steps c.loop-low.invariant c.loop-low-test.false

pub returns-clause-after : goal.returns-clause-after
returns-clause-after g c =
    after-found c.args.entries.now c.args.upto c.loop-low.low c.loop-low.high c.loop-low.before c.loop-low.after c.args.steps.now c.loop-low.steps c.loop-low.invariant c.loop-low-test.false
