use Rattle.std.specs.Prelude.{IsSomeAnd, IsOk}
use Rattle.std.proofs.Common.{ap, sym, ◌∙◌, subst}
use Rattle.frames.specs.Chains.{frames_in}
use Rattle.mu_model.specs.Edits.{edited}
use Rattle.model_numbers.specs.Numbered.{numbered}
use Rattle.client_hooks.specs.Replies.{edit_of}
use Rattle.mu_osr.specs.Rooms.{Room}
use Rattle.trap_answers.proofs.Asked.{edited_from}
use Rattle.trap_answers.proofs.editing.EditingAsks.ask.Goals as goal

pub edit_in-stack-requires-clause-goes : goal.edit_in-stack-requires-clause-goes
edit_in-stack-requires-clause-goes c = subst (λ fs. IsSomeAnd (edited (numbered c.args.self.now.code.now) (edit_of c.args.self.now.edit) fs) IsOk) (sym c.in-Ok.ensures.frames) c.requires

pub edit_in-stack-requires-clause-made : goal.edit_in-stack-requires-clause-made
edit_in-stack-requires-clause-made c = ap (λ (r : Room). r.frames) c.in-Ok.ensures.room ∙ sym c.in-Ok.ensures.frames

pub returns-in-Ok-clause-asked : goal.returns-in-Ok-clause-asked
returns-in-Ok-clause-asked c = (
  tt,
  edited_from (numbered c.args.self.now.code.now) (edit_of c.args.self.now.edit) (frames_in c.args.stack.frames) (frames_in c.for_edit.new.stack.frames) (frames_in c.edit_in-stack.result.0.frames) c.edit_in-stack.result.1.members c.in-Ok.ensures.frames
      c.edit_in-stack.ensures.frames c.edit_in-stack.ensures.objects,
)
