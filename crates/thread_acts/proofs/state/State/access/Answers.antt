use Rattle.std.proofs.Common.{Ok, Err}
use Rattle.memory_acts.specs.AccessLaws.{access_is}
use Rattle.memory_acts.specs.AccessViews.{refused_by, there_so, answered_so}
use Rattle.thread_acts.proofs.state.State.access.Goals as goal

pub access_cell-requires-clause-there : goal.access_cell-requires-clause-there
access_cell-requires-clause-there g c = there_so _ _ c.requires.there (access_is c.args.code.now c.args.self.now _ c.args.cell (Ok c.in-Ok.cell) c.requires.there c.in-Ok.ensures.found)

pub refuse-requires-clause-there : goal.refuse-requires-clause-there
refuse-requires-clause-there g c = there_so _ _ c.requires.there (refused_by _ _ _ _ _ (access_is c.args.code.now c.args.self.now _ c.args.cell (Err c.in-Err.fault) c.requires.there c.in-Err.ensures.found) c.case_of.ensures)

pub returns-in-Ok-clause-ok : goal.returns-in-Ok-clause-ok
returns-in-Ok-clause-ok g c = answered_so c.access_cell.result _ _ _ c.access_cell.ensures.ok (access_is c.args.code.now c.args.self.now _ c.args.cell (Ok c.in-Ok.cell) c.requires.there c.in-Ok.ensures.found)

pub returns-in-Err-clause-ok : goal.returns-in-Err-clause-ok
returns-in-Err-clause-ok g c =
    answered_so c.refuse.result _ _ _ c.refuse.ensures.ok (refused_by _ _ _ _ _ (access_is c.args.code.now c.args.self.now _ c.args.cell (Err c.in-Err.fault) c.requires.there c.in-Err.ensures.found) c.case_of.ensures)
