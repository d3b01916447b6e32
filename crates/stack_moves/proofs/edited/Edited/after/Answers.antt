use Rattle.std.specs.Prelude.{option_map}
use Rattle.client_hooks.specs.Replies.{edit_of}
use Rattle.stack_moves.specs.Editing.{fresh_of}
use Rattle.stack_moves.proofs.EditedViews.{made_functions, made_low, made_frames}
use Rattle.stack_moves.proofs.edited.Edited.after.Goals as goal

pub pushed_frame-requires : goal.pushed_frame-requires
pushed_frame-requires c = made_functions c.args.code.now (edit_of c.args.edit) c.args.frames.now.top c.args.frames.now.below c.requires

pub invariant_of-result : goal.invariant_of-result
invariant_of-result c = made_low c.args.code.now (edit_of c.args.edit) c.args.frames.now.top c.args.frames.now.below c.requires

pub returns : goal.returns
returns c = made_frames c.args.code.now (edit_of c.args.edit) c.args.frames.now.top c.args.frames.now.below c.requires (option_map fresh_of c.pushed_frame.result) c.pushed_frame.ensures
