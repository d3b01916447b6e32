use Rattle.run_state.specs.ActViews.{returned_last}
use Rattle.thread_acts.proofs.state.State.finish.Goals as goal

pub returns-clause-ok : goal.returns-clause-ok
returns-clause-ok g c =
    returned_last c.args.code.now c.args.self.now _ _ _ _ _ _ c.self.view_is c.self-2.view_is c.end_thread.ensures c.in_ok-lines.ensures c.in_ok-values.ensures c.requires.there c.requires.bottom
