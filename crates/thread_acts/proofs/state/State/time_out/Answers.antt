use Rattle.frames.specs.Chains.{chain_of}
use Rattle.memory_acts.specs.FutexViews.{stop_there, time_out_goes, timed_out_so}
use Rattle.thread_acts.proofs.state.State.time_out.Goals as goal

pub stop-requires : goal.stop-requires
stop-requires g c = stop_there c.args.self.now _ c.args.cell c.self.view_is c.requires.waits

pub go_on-requires : goal.go_on-requires
go_on-requires g c = time_out_goes _ c.args.self.now _ c.args.cell _ c.self.view_is c.requires.waits c.requires.there c.in_ok-tell.ensures

pub returns-clause-ok : goal.returns-clause-ok
returns-clause-ok g c =
    timed_out_so _ _ _ c.args.cell _ (chain_of c.go_on.new.frames) _ _ c.self.view_is c.requires.left c.requires.waits c.requires.there c.in_ok-tell.ensures c.in_ok-go_on.ensures.top c.stop.ensures c.go_on.ensures.below c.in_ok-lines.ensures
