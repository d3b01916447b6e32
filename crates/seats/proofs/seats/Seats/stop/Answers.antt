use Rattle.seats.proofs.Waking.{waits_there, stopped_made, held_are_left, stopped_sound, stopped_seen}
use Rattle.seats.proofs.seats.Seats.stop.Goals as goal

pub leave-requires : goal.leave-requires
leave-requires c =
    let k = c.self.inside in
    let there = waits_there k.threads.stacks k.owns.items k.stacks k.waiters.waiters c.args.self.now c.args.thread c.self.view_is c.requires in
    there

pub run_again-requires-clause-made : goal.run_again-requires-clause-made
run_again-requires-clause-made c =
    let k = c.self.inside in
    let there = waits_there k.threads.stacks k.owns.items k.stacks k.waiters.waiters c.args.self.now c.args.thread c.self.view_is c.requires in
    stopped_made k.threads k.stacks k.owns.items _ k.waiters.waiters c.args.thread c.self.invariant there

pub run_again-requires-clause-left : goal.run_again-requires-clause-left
run_again-requires-clause-left c =
    let k = c.self.inside in
    held_are_left k.threads k.stacks k.owns.items _ k.waiters.waiters c.self.invariant

pub invariant_of-self : goal.invariant_of-self
invariant_of-self c =
    let k = c.self.inside in
    let there = waits_there k.threads.stacks k.owns.items k.stacks k.waiters.waiters c.args.self.now c.args.thread c.self.view_is c.requires in
    stopped_sound k.threads c.run_again.new.threads k.stacks k.owns.items _ k.waiters.waiters c.leave.new.self.waiters c.args.thread there c.self.invariant c.run_again.ensures c.leave.ensures.waiters

pub returns : goal.returns
returns c =
    let k = c.self.inside in
    stopped_seen k.threads c.run_again.new.threads k.stacks k.owns.items _ k.waiters.waiters c.leave.new.self.waiters c.args.self.now c.args.thread c.self.view_is c.self.invariant c.run_again.ensures c.leave.ensures.waiters
