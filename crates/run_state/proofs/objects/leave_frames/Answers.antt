use Rattle.std.proofs.Common.{◌∙◌}
use Rattle.frames.specs.Chains.{chain_of, frames_in}
use Rattle.run_state.specs.Lists.{drop_one, end_one, enough_left}
use Rattle.run_state.specs.Remembering.{ends_same}
use Rattle.run_state.proofs.objects.leave_frames.Goals as goal

pub loop-i-preserved : goal.loop-i-preserved
loop-i-preserved c = record {
  above = drop_one (frames_in c.args.frames.now) c.loop-i.i (chain_of c.loop-i.frames) (chain_of c.leave_one.new.frames) c.loop-i.invariant.above c.leave_one.ensures.frames;
  ended = end_one (frames_in c.args.frames.now) c.loop-i.i (chain_of c.loop-i.frames) _ _ _ c.loop-i.invariant.above c.loop-i.invariant.ended c.leave_one.ensures.objects;
  same = c.leave_one.ensures.left ∙ c.loop-i.invariant.same;
}

pub leave_one-requires : goal.leave_one-requires
leave_one-requires c = enough_left (frames_in c.args.frames.now) c.loop-i.i c.args.n (chain_of c.loop-i.frames) c.loop-i.invariant.above c.loop-i-test.true c.requires

pub returns-clause-initials : goal.returns-clause-initials
returns-clause-initials c = ends_same _ _ _ c.loop-i.invariant.ended
