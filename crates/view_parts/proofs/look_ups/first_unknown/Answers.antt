use Rattle.std.proofs.Common.{slice_index, arith}
use Rattle.view_parts.proofs.Searching.{cost-more, first-more, first-none, first-all}
use Rattle.view_parts.proofs.look_ups.first_unknown.Goals as goal

pub loop-thread-init : goal.loop-thread-init
loop-thread-init g c = record {
  least = first-none (g.E.ByThread.entries c.args.indexes.now) c.args.clock.now c.args.own c.args.threads.now;
  cost = λ d h. omega arith;
}

pub loop-thread-preserved : goal.loop-thread-preserved
loop-thread-preserved g c =
    let this = slice_index c.args.threads.now c.loop-thread.thread-index in
    record {
      least = rw c.earlier_of-least.ensures (first-more (g.E.ByThread.entries c.args.indexes.now) c.args.clock.now c.args.own c.args.threads.now c.loop-thread.thread-index c.loop-thread.least c.after_at.result c.loop-thread.invariant.least (rw c.of.ensures at c.after_at.ensures.found));
      cost = λ d h. cost-more c.loop-thread.thread-index d c.args.steps.now c.loop-thread.steps c.after_at.new.steps (c.loop-thread.invariant.cost d h) (c.after_at.ensures.cost d (h this));
    }

pub returns-clause-least : goal.returns-clause-least
returns-clause-least g c = first-all (g.E.ByThread.entries c.args.indexes.now) c.args.clock.now c.args.own c.args.threads.now c.loop-thread.thread-index c.loop-thread.least c.loop-thread.invariant.least (omega arith) c.requires.made
