use Rattle.memory_acts.specs.AccessViews.{fence_goes_there, fenced}
use Rattle.thread_acts.proofs.state.State.fence.Goals as goal

pub log_on-requires-clause-there : goal.log_on-requires-clause-there
log_on-requires-clause-there g c = fence_goes_there c.args.code.now c.args.self.now c.args.order _ c.requires.there c.clear.ensures.values

pub returns-clause-ok : goal.returns-clause-ok
returns-clause-ok g c = fenced c.args.code.now c.args.self.now _ _ c.args.order _ c.log_on.result c.self.view_is c.requires.there c.clear.ensures.values c.log_on.ensures.ok
