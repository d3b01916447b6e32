use Rattle.std.proofs.Common.{ap, ◌∙◌}
use Rattle.frames.specs.Activations.{Activation}
use Rattle.stack_moves.proofs.EditedViews.{top_pushed, top_kept}
use Rattle.stack_moves.proofs.edited.Edited.waits.Goals as goal

pub returns-in-Some : goal.returns-in-Some
returns-in-Some c =
    let k = c.self.inside in
    ap (λ (f : Activation). f.waits) (top_pushed k.pushed c.in-Some.fresh k.from k.frames.now.top k.frames.now.below c.args.self.now c.self.view_is c.in-Some.is)

pub returns-in-None : goal.returns-in-None
returns-in-None c =
    let k = c.self.inside in
    c.as_slice.ensures ∙ ap (λ (f : Activation). f.waits) (top_kept k.pushed k.from k.frames.now.top k.frames.now.below c.frame.result.now c.args.self.now c.self.view_is c.in-None.is c.frame.ensures)
