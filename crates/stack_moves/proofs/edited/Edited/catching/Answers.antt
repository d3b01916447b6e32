use Rattle.std.proofs.Common.{◌+◌, ◌<◌, arith, length, refl, ◌∙◌}
use Rattle.frames.specs.Chains.{frames_in}
use Rattle.frames.specs.declared.unwound.Unwound.TheVariants.{Caught, Uncaught}
use Rattle.stack_moves.proofs.EditedViews.{found_there, none_catches, first_catches, catching_there}
use Rattle.stack_moves.proofs.edited.Edited.catching.Goals as goal
use Rattle.stack_moves.proofs.edited.Edited.catching.Goals.{In-Caught}

within : (c : In-Caught) → c.self.inside.from + c.in-Caught.n < length (frames_in c.self.inside.frames.now)
within c = found_there (frames_in c.self.inside.frames.now) c.self.inside.from c.in-Caught.n (Caught c.in-Caught.n) c.in-Caught.ensures refl

pub returns-in-Uncaught-clause-first : goal.returns-in-Uncaught-clause-first
returns-in-Uncaught-clause-first c =
    let k = c.self.inside in
    none_catches k.pushed k.from k.frames.now.top k.frames.now.below c.args.self.now Uncaught c.self.view_is c.self.invariant c.in-Uncaught.ensures refl

pub overflow_add-self-inside : goal.overflow_add-self-inside
overflow_add-self-inside c =
    let low = within (goal.at.overflow_add-self-inside c).In-Caught in
    omega (arith, low, c.count.ensures)

pub frame-frame-requires : goal.frame-frame-requires
frame-frame-requires c = within (goal.at.frame-frame-requires c).In-Caught

pub counted_on-above-requires : goal.counted_on-above-requires
counted_on-above-requires c =
    let low = within (goal.at.counted_on-above-requires c).In-Caught in
    omega (arith, low, c.count.ensures)

pub returns-in-Caught-clause-first : goal.returns-in-Caught-clause-first
returns-in-Caught-clause-first c =
    let k = c.self.inside in
    first_catches k.pushed k.from c.in-Caught.n c.counted_on-above.result k.frames.now.top k.frames.now.below c.args.self.now (Caught c.in-Caught.n) c.self.view_is c.self.invariant c.in-Caught.ensures refl
    (λ h. c.counted_on-above.ensures.more (c.is_some.ensures ∙ h)) (λ h. c.counted_on-above.ensures.same (c.is_some.ensures ∙ h))

pub returns-in-Caught-clause-there : goal.returns-in-Caught-clause-there
returns-in-Caught-clause-there c =
    let k = c.self.inside in
    catching_there k.pushed k.from c.in-Caught.n c.counted_on-above.result k.frames.now.top k.frames.now.below c.args.self.now c.frame-frame.result.now c.self.view_is c.self.invariant c.frame-frame.ensures
    (λ h. c.counted_on-above.ensures.more (c.is_some.ensures ∙ h)) (λ h. c.counted_on-above.ensures.same (c.is_some.ensures ∙ h))
