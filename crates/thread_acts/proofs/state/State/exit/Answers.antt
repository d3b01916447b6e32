use Rattle.stack_acts.specs.StackViews.{exits_so}
use Rattle.thread_acts.proofs.state.State.exit.Goals as goal

pub returns-clause-ok : goal.returns-clause-ok
returns-clause-ok g c = exits_so c.args.code.now c.args.self.now _ _ _ _ _ c.self.view_is c.self-2.view_is c.end_thread.ensures c.in_ok-lines.ensures c.requires.there
