use Rattle.std.proofs.Common.{◌<◌, ◌^◌, subst, sym, ◌∙◌, ap}
use Rattle.frames.specs.Chains.{chain_of}
use Rattle.object_acts.specs.CellsAsked.{making_full}
use Rattle.object_acts.specs.ObjectViews.{heap_same, full_here, made_there, gave_made, back_cells, back_objects, back_so, refused_there, refused_so}
use Rattle.thread_acts.proofs.state.State.make.Goals as goal

pub refuse_cells-requires-clause-there : goal.refuse_cells-requires-clause-there
refuse_cells-requires-clause-there g c =
    refused_there c.args.code.now c.args.self.now _ _ c.in-Err-HeapFull.field-0 _ _ _ (making_full c.args.code.now c.args.self.now c.args.class c.args.making) (heap_same _ _ _ _ _ _ _ _ _ _ _ _ _ _ _ _ c.in-Err-HeapFull.ensures.err c.self.view_is)
    (full_here _ _ _ _ c.self.view_is c.in-Err-HeapFull.ensures.full) (rw (← c.in-Err-HeapFull.asked-is, ← c.in-Err-HeapFull.left-is) at c.in-Err-HeapFull.field-0-is) c.requires.there

pub returns-in-Err-HeapFull-clause-ok : goal.returns-in-Err-HeapFull-clause-ok
returns-in-Err-HeapFull-clause-ok g c =
    refused_so c.args.code.now _ c.args.self.now _ _ _ c.in-Err-HeapFull.field-0 _ _ _ (making_full c.args.code.now c.args.self.now c.args.class c.args.making) (heap_same _ _ _ _ _ _ _ _ _ _ _ _ _ _ _ _ c.in-Err-HeapFull.ensures.err c.self.view_is)
    (full_here _ _ _ _ c.self.view_is c.in-Err-HeapFull.ensures.full) (rw (← c.in-Err-HeapFull.asked-is, ← c.in-Err-HeapFull.left-is) at c.in-Err-HeapFull.field-0-is) c.refuse_cells.ensures.exact c.refuse_cells.ensures.ok

pub give-given-requires-clause-there : goal.give-given-requires-clause-there
give-given-requires-clause-there g c = made_there c.args.code.now c.args.self.now _ c.args.class c.args.making c.in-Ok.number c.self.view_is c.in-Ok.ensures.enough c.in-Ok.ensures.number c.requires.there

pub take_back-requires-clause-left : goal.take_back-requires-clause-left
take_back-requires-clause-left g c = subst (λ n. n < 2 ^ 32) (sym (back_cells c.args.code.now _ _ _ _ _ c.in-Ok.ensures.objects c.in-Ok.ensures.left c.in-Ok.ensures.enough)) c.in-Ok.ensures.few_left

pub returns-in-Err-clause-err : goal.returns-in-Err-clause-err
returns-in-Err-clause-err g c =
    back_so _ _ _ _ _ _ _ c.self.view_is (ap chain_of c.in-Err.ensures.same) (back_objects c.args.code.now _ _ _ _ c.in-Ok.ensures.objects c.take_back.ensures.objects) (c.take_back.ensures.left ∙ (back_cells c.args.code.now _ _ _ _ _ c.in-Ok.ensures.objects c.in-Ok.ensures.left c.in-Ok.ensures.enough))
    c.give-given.ensures.log c.give-given.ensures.rule

pub returns-in_default-clause-ok : goal.returns-in_default-clause-ok
returns-in_default-clause-ok g c =
    gave_made c.args.code.now c.args.self.now _ c.args.class c.args.making c.in-Ok.number _ _ _ _ _ _ c.self.view_is c.in-Ok.ensures.enough c.in-Ok.ensures.number c.requires.there c.in-Ok.ensures.objects c.in-Ok.ensures.left c.give-given.ensures.log
    c.give-given.ensures.rule c.in_default.ensures.top c.give-given.ensures.below c.went.ensures.on
