use Rattle.std.proofs.Common.{ap, sym, subst, ◌∙◌}
use Rattle.frames.specs.Chains.{StoredChain, chain_of, frames_in}
use Rattle.mu_model.specs.Exceptions.{EnteredFrames}
use Rattle.client_hooks.specs.Replies.{edit_of}
use Rattle.run_state.specs.Acting.{objects_end, with_awaited}
use Rattle.stack_moves.specs.Editing.{IsMade, after_edit}
use Rattle.stack_moves.specs.SwapLaws.{frames_objects}
use Rattle.trap_acts.specs.TrapLaws.{no_edit_after, none_end}
use Rattle.trap_acts.proofs.TrapViews.{chain_is, frames_back_again}
use Rattle.trap_acts.proofs.editing.wait_and_edit.Goals as goal

pub edit_frames-requires-clause-goes : goal.edit_frames-requires-clause-goes
edit_frames-requires-clause-goes c = subst (λ (f : StoredChain). IsMade c.args.code.now (edit_of c.args.edit) (frames_in f)) (sym c.exchange_on_top.ensures.frames) c.requires.goes

pub returns-then-is_no_edit-clause-frames : goal.returns-then-is_no_edit-clause-frames
returns-then-is_no_edit-clause-frames c =
    ap frames_in c.exchange_on_top.ensures.frames
    ∙ sym (ap (λ (w : EnteredFrames). w.frames) (no_edit_after c.args.code.now (edit_of c.args.edit) (with_awaited c.args.frames.now.top c.args.wait.now) c.args.frames.now.below (c.is_no_edit.ensures c.if-is_no_edit.true)))

pub returns-then-is_no_edit-clause-objects : goal.returns-then-is_no_edit-clause-objects
returns-then-is_no_edit-clause-objects c = none_end _ _ _ (no_edit_after c.args.code.now (edit_of c.args.edit) (with_awaited c.args.frames.now.top c.args.wait.now) c.args.frames.now.below (c.is_no_edit.ensures c.if-is_no_edit.true))

pub returns-in-Ok-clause-frames : goal.returns-in-Ok-clause-frames
returns-in-Ok-clause-frames c = c.in-Ok.ensures.frames ∙ ap (λ (f : StoredChain). (after_edit c.args.code.now (edit_of c.args.edit) (frames_in f)).frames) c.exchange_on_top.ensures.frames

pub returns-in-Ok-clause-objects : goal.returns-in-Ok-clause-objects
returns-in-Ok-clause-objects c =
    c.end_objects.ensures.objects
    ∙ ap (objects_end c.args.heap.now.objects) (c.as_slice.ensures ∙ c.in-Ok.ensures.objects ∙ ap (λ (f : StoredChain). frames_objects (after_edit c.args.code.now (edit_of c.args.edit) (frames_in f)).ended) c.exchange_on_top.ensures.frames)

pub returns-in-Err-clause-same_frames : goal.returns-in-Err-clause-same_frames
returns-in-Err-clause-same_frames c =
    frames_back_again (chain_of c.args.frames.now) (chain_of c.exchange_on_top.new.frames) (chain_of c.edit_frames.new.frames) _ _ (ap chain_of c.exchange_on_top.ensures.before) (chain_is (chain_of c.edit_frames.new.frames) (chain_of c.exchange_on_top.new.frames) c.in-Err.ensures.same)
    (ap chain_of c.exchange_on_top-in-Err.ensures.frames)
