use Rattle.std.proofs.Common.{ap}
use Rattle.frames.specs.Chains.{frames_in}
use Rattle.mu_osr.specs.Rooms.{Room}
use Rattle.trap_answers.proofs.Edited.{function_pushed, never_refused, pushed_so}
use Rattle.trap_answers.proofs.editing.push_in.Goals as goal

pub push-requires-clause-there : goal.push-requires-clause-there
push-requires-clause-there c = function_pushed c.args.code.now c.args.function c.args.stack c.requires.goes

pub unreachable-requires : goal.unreachable-requires
unreachable-requires c = never_refused c.args.code.now c.args.function c.args.stack c.requires.goes c.in-Err._refusal.1 c.requires.waits c.in-Err.ensures.why

pub returns-clause-frames : goal.returns-clause-frames
returns-clause-frames c = pushed_so c.args.code.now c.args.function c.args.stack c.requires.goes (frames_in c.in-Ok.stack.frames) c.requires.waits c.in-Ok.ensures.frames

pub returns-clause-cells : goal.returns-clause-cells
returns-clause-cells c = ap (λ (r : Room). r.cells) c.in-Ok.ensures.used
