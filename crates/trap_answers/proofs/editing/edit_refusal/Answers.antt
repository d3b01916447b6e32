use Rattle.frames.specs.Chains.{frames_in}
use Rattle.frames.specs.FrameOf.{frame_of}
use Rattle.model_numbers.specs.Numbered.{numbered}
use Rattle.client_hooks.specs.Replies.{edit_of}
use Rattle.trap_answers.proofs.Edited.{function_there, refused_by, goes_by}
use Rattle.trap_answers.proofs.editing.edit_refusal.Goals as goal

pub push_refusal-requires : goal.push_refusal-requires
push_refusal-requires c = function_there c.args.code.now (edit_of c.args.edit) (frames_in c.args.frames.now) (frame_of c.frame.result.now) c.in-Some.function c.frame.ensures c.in-Some.is c.requires

pub returns-in-Some-clause-refused : goal.returns-in-Some-clause-refused
returns-in-Some-clause-refused c =
    refused_by (numbered c.args.code.now) (edit_of c.args.edit) (frames_in c.args.frames.now) (frame_of c.frame.result.now) c.frame.ensures c.in-Some.function c.in-Some.is c.push_refusal.result c.push_refusal.ensures.refused

pub returns-in-Some-clause-goes : goal.returns-in-Some-clause-goes
returns-in-Some-clause-goes c =
    goes_by (numbered c.args.code.now) (edit_of c.args.edit) (frames_in c.args.frames.now) (frame_of c.frame.result.now) c.frame.ensures c.in-Some.function c.in-Some.is c.push_refusal.result c.push_refusal.ensures.goes
