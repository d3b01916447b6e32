use Rattle.frames.specs.Chains.{chain_of}
use Rattle.stack_acts.specs.StackLaws.{own_sound}
use Rattle.stack_acts.specs.StackViews.{own_there, own_so}
use Rattle.thread_acts.proofs.state.State.set_own.Goals as goal

pub go_on-requires : goal.go_on-requires
go_on-requires g c = own_there c.args.code.now c.args.self.now _ c.args.own _ c.self.view_is c.requires.there c.clear.ensures.values

pub invariant_of-self-2 : goal.invariant_of-self-2
invariant_of-self-2 g c =
    (c.self.invariant.0, c.self.invariant.1, c.self.invariant.2, c.self.invariant.3, c.self.invariant.4, own_sound _ _ _ _ _ _ _ c.self.invariant.5 c.set_own.ensures)

pub returns-clause-ok : goal.returns-clause-ok
returns-clause-ok g c =
    own_so c.args.code.now c.args.self.now _ c.args.own _ (chain_of c.go_on.new.frames) _ _ c.self.view_is c.requires.there c.clear.ensures.values c.in_ok-go_on.ensures.top c.go_on.ensures.below c.set_own.ensures c.went.ensures.on
