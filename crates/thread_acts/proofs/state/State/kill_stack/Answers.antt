use Rattle.frames.specs.Chains.{chain_of}
use Rattle.stack_acts.specs.StackViews.{kills_there, killed_so}
use Rattle.thread_acts.proofs.state.State.kill_stack.Goals as goal

pub go_on-requires : goal.go_on-requires
go_on-requires g c = kills_there c.args.code.now c.args.self.now _ c.args.scalar c.in-Some.stack _ c.self.view_is c.requires.there c.in-Some.ensures.named c.in-Some.ensures.other c.in-Some.ensures.ready c.clear.ensures.values

pub returns-clause-ok : goal.returns-clause-ok
returns-clause-ok g c =
    killed_so c.args.code.now c.args.self.now _ c.args.scalar c.in-Some.stack _ (chain_of c.go_on.new.frames) (chain_of c.kill-frames.result) _ _ _ _ c.self.view_is c.requires.there c.in-Some.ensures.named c.in-Some.ensures.other c.clear.ensures.values
    c.in_ok-go_on.ensures.top c.go_on.ensures.below c.kill-frames.ensures.frames c.kill-frames.ensures.dead c.end_frames.ensures.objects c.end_frames.ensures.left c.went.ensures.on
