use Rattle.std.proofs.Common.{arith, sym, ◌∙◌}
use Rattle.frames.specs.Chains.{frames_in}
use Rattle.frames.specs.Handlers.{caught_below}
use Rattle.stack_moves.proofs.EditedViews.{walk_start, walk_next, walk_found, walk_ends, whole_walk}
use Rattle.stack_moves.proofs.edited.unwind_from.Goals as goal

pub returns-then-from-eq0 : goal.returns-then-from-eq0
returns-then-from-eq0 c = whole_walk (frames_in c.args.frames.now) c.args.from (caught_below c.unwind.result) c.if-from-eq0.true c.unwind.ensures

pub loop-n-init : goal.loop-n-init
loop-n-init c = record { walk = walk_start (frames_in c.args.frames.now) c.args.from }

pub loop-n-preserved : goal.loop-n-preserved
loop-n-preserved c = record { walk = sym (walk_next (frames_in c.args.frames.now) c.args.from c.loop-n.n c.frame.result.now c.frame.ensures (sym c.is_some.ensures ∙ c.if-is_some.false)) ∙ c.loop-n.invariant.walk }

pub returns-then-is_some : goal.returns-then-is_some
returns-then-is_some c = walk_found (frames_in c.args.frames.now) c.args.from c.loop-n.n c.frame.result.now c.frame.ensures (sym c.is_some.ensures ∙ c.if-is_some.true) c.loop-n.invariant.walk

pub returns : goal.returns
returns c = walk_ends (frames_in c.args.frames.now) c.args.from c.loop-n.n (omega (arith, c.count.ensures)) c.loop-n.invariant.walk
