use Rattle.std.proofs.Common.{Ok, Err}
use Rattle.memory_acts.specs.FutexLaws.{wait_cell_there, wait_is}
use Rattle.memory_acts.specs.AccessViews.{refused_by, there_so, answered_so}
use Rattle.thread_acts.proofs.state.State.wait.Goals as goal

pub cell_there-requires : goal.cell_there-requires
cell_there-requires g c = wait_cell_there c.args.code.now c.args.self.now c.args.wait.timed c.args.wait.expected c.args.wait.cell c.requires.there

pub wait_at-requires-clause-there : goal.wait_at-requires-clause-there
wait_at-requires-clause-there g c = there_so _ _ c.requires.there (wait_is c.args.code.now c.args.self.now c.args.wait.timed c.args.wait.expected c.args.wait.cell (Ok c.in-Ok.cell) c.requires.there c.in-Ok.ensures.found)

pub refuse-requires-clause-there : goal.refuse-requires-clause-there
refuse-requires-clause-there g c = there_so _ _ c.requires.there (refused_by _ _ _ _ _ (wait_is c.args.code.now c.args.self.now c.args.wait.timed c.args.wait.expected c.args.wait.cell (Err c.in-Err.fault) c.requires.there c.in-Err.ensures.found) c.case_of.ensures)

pub returns-in-Ok-clause-ok : goal.returns-in-Ok-clause-ok
returns-in-Ok-clause-ok g c = answered_so c.wait_at.result _ _ _ c.wait_at.ensures.ok (wait_is c.args.code.now c.args.self.now c.args.wait.timed c.args.wait.expected c.args.wait.cell (Ok c.in-Ok.cell) c.requires.there c.in-Ok.ensures.found)

pub returns-in-Err-clause-ok : goal.returns-in-Err-clause-ok
returns-in-Err-clause-ok g c =
    answered_so c.refuse.result _ _ _ c.refuse.ensures.ok (refused_by _ _ _ _ _ (wait_is c.args.code.now c.args.self.now c.args.wait.timed c.args.wait.expected c.args.wait.cell (Err c.in-Err.fault) c.requires.there c.in-Err.ensures.found) c.case_of.ensures)
