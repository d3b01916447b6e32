use Rattle.std.proofs.Common.{◌++◌, ap, ◌∙◌}
use Rattle.frames.specs.FrameOf.{frame_of}
use Rattle.stack_moves.proofs.EditedViews.{top_pushed, top_kept, passes_fresh, passes_on, passed_on}
use Rattle.stack_moves.proofs.edited.Edited.passing.Goals as goal

pub returns-in_ok-append-in-Some : goal.returns-in_ok-append-in-Some
returns-in_ok-append-in-Some c =
    let k = c.self.inside in
    passes_fresh c.args.code.now c.in-Some.fresh c.args.self.now.top c.args.values.now.values c.append.new.self.values
    (top_pushed k.pushed c.in-Some.fresh k.from k.frames.now.top k.frames.now.below c.args.self.now c.self.view_is c.in-Some.is) (c.in_ok-append-in-Some.ensures.ok ∙ ap (λ xs. xs ++ c.args.values.now.values) c.clear.ensures.values)

pub passing-requires : goal.passing-requires
passing-requires c =
    let k = c.self.inside in
    passes_on c.args.code.now c.args.self.now.top (frame_of c.frame.result.now) c.args.values.now.values (top_kept k.pushed k.from k.frames.now.top k.frames.now.below c.frame.result.now c.args.self.now c.self.view_is c.in-None.is c.frame.ensures) c.requires

pub returns-in-None : goal.returns-in-None
returns-in-None c =
    let k = c.self.inside in
    passed_on c.args.code.now c.args.self.now.top (frame_of c.frame.result.now) c.args.values.now.values c.passing.new.out.values c.passing.result
    (top_kept k.pushed k.from k.frames.now.top k.frames.now.below c.frame.result.now c.args.self.now c.self.view_is c.in-None.is c.frame.ensures) c.passing.ensures
