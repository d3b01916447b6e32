use Rattle.memory_acts.specs.AccessViews.{there_so, answered_so}
use Rattle.wake_acts.proofs.WakeViews.{wake_place, wake_found, wake_fails}
use Rattle.wake_acts.proofs.wakes.wake.Goals as goal

pub cell_of-requires : goal.cell_of-requires
cell_of-requires g c = wake_place c.args.code.now _ _ c.args.many c.args.cell c.state.view_is c.requires.there

pub wake_at-requires-clause-there : goal.wake_at-requires-clause-there
wake_at-requires-clause-there g c = there_so _ _ c.requires.there (wake_found c.args.code.now _ _ c.args.many c.args.cell _ _ c.state.view_is c.requires.there c.cell_of.ensures c.in-Ok.is)

pub refuse-requires-clause-there : goal.refuse-requires-clause-there
refuse-requires-clause-there g c = there_so _ _ c.requires.there (wake_fails c.args.code.now _ _ c.args.many c.args.cell _ _ _ c.state.view_is c.requires.there c.cell_of.ensures c.in-Err.is c.case_of.ensures)

pub returns-in-Ok-clause-ok : goal.returns-in-Ok-clause-ok
returns-in-Ok-clause-ok g c = answered_so c.wake_at.result _ _ _ c.wake_at.ensures.ok (wake_found c.args.code.now _ _ c.args.many c.args.cell _ _ c.state.view_is c.requires.there c.cell_of.ensures c.in-Ok.is)

pub returns-in-Err-clause-ok : goal.returns-in-Err-clause-ok
returns-in-Err-clause-ok g c =
    answered_so c.refuse.result _ _ _ c.refuse.ensures.ok (wake_fails c.args.code.now _ _ c.args.many c.args.cell _ _ _ c.state.view_is c.requires.there c.cell_of.ensures c.in-Err.is c.case_of.ensures)
