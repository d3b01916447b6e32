use Rattle.run_state.specs.ActViews.{fault_within, fault_so}
use Rattle.thread_acts.proofs.state.State.fault.Goals as goal

pub add_exception-requires : goal.add_exception-requires
add_exception-requires g c = fault_within _ _ _ c.args.ending _ _ _ _ _ c.self.view_is c.top-top.ensures c.requires.there c.code.ensures c.in-Some.is c.of.ensures c.in_ok-read_goal-in-Some.ensures

pub returns-in_ok-add_exception-in-Some-clause-ok : goal.returns-in_ok-add_exception-in-Some-clause-ok
returns-in_ok-add_exception-in-Some-clause-ok g c =
    fault_so _ _ _ c.args.ending _ _ _ _ _ _ _ c.self.view_is c.top-top.ensures c.requires.there c.code.ensures c.in-Some.is c.of.ensures c.in_ok-read_goal-in-Some.ensures c.in_ok-add_exception-in-Some.ensures
    c.go.ensures.on
