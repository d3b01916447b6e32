use Rattle.std.proofs.Common.{◌∙◌}
use Rattle.frames.specs.Chains.{frames_in}
use Rattle.model_numbers.specs.Numbered.{numbered}
use Rattle.client_hooks.specs.Replies.{edit_of}
use Rattle.trap_answers.proofs.Edited.{deep_enough, push_goes_then, edited_pushed, edited_popped}
use Rattle.trap_answers.proofs.editing.edit_in.Goals as goal

pub pop_in-stack-requires-clause-there : goal.pop_in-stack-requires-clause-there
pop_in-stack-requires-clause-there c = deep_enough (numbered c.args.code.now) (edit_of c.args.edit) (frames_in c.args.stack.frames) c.requires.goes

pub push_in-stack-requires-clause-goes : goal.push_in-stack-requires-clause-goes
push_in-stack-requires-clause-goes c =
    push_goes_then (numbered c.args.code.now) (edit_of c.args.edit) (frames_in c.args.stack.frames) c.requires.goes c.in-Some.function c.in-Some.is (frames_in c.pop_in-stack.result.frames) c.pop_in-stack.ensures.frames

pub returns-in-Some-clause-frames : goal.returns-in-Some-clause-frames
returns-in-Some-clause-frames c =
    edited_pushed (numbered c.args.code.now) (edit_of c.args.edit) (frames_in c.args.stack.frames) c.requires.goes c.in-Some.function c.in-Some.is (frames_in c.pop_in-stack.result.frames) (frames_in c.push_in-stack.result.frames) c.pop_in-stack.ensures.frames c.push_in-stack.ensures.frames

pub returns-in-None-clause-frames : goal.returns-in-None-clause-frames
returns-in-None-clause-frames c =
    edited_popped (numbered c.args.code.now) (edit_of c.args.edit) (frames_in c.args.stack.frames) c.requires.goes c.in-None.is (frames_in c.pop_in-stack.result.frames) c.pop_in-stack.ensures.frames

pub returns-in-Some-clause-objects : goal.returns-in-Some-clause-objects
returns-in-Some-clause-objects c = c.into_cells.ensures ∙ c.push_in-stack.ensures.cells ∙ c.pop_in-stack.ensures.cells
