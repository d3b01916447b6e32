use Rattle.seats.proofs.Seen.{on_stack}
use Rattle.seats.proofs.Changing.{taken_by, left_after, none_after, top_waits}
use Rattle.seats.proofs.Leaving.{exited_sound, exited_seen}
use Rattle.seats.proofs.seats.Seats.exit.Goals as goal

pub leave_ready-requires : goal.leave_ready-requires
leave_ready-requires c =
    let k = c.self.inside in
    let on = on_stack k.threads.stacks k.owns.items k.stacks k.waiters.waiters c.args.self.now c.args.thread c.args.stack c.self.view_is c.requires.on in
    taken_by k.threads.states k.threads.stacks k.stacks k.owns.items _ k.waiters.waiters c.args.self.now c.args.thread c.self.invariant on.0

pub drop_thread-requires-clause-left : goal.drop_thread-requires-clause-left
drop_thread-requires-clause-left c =
    let k = c.self.inside in
    let on = on_stack k.threads.stacks k.owns.items k.stacks k.waiters.waiters c.args.self.now c.args.thread c.args.stack c.self.view_is c.requires.on in
    left_after k.threads c.leave_ready.new.threads k.stacks k.owns.items _ k.waiters.waiters c.args.self.now c.args.thread c.self.invariant on.0 c.leave_ready.ensures.threads

pub drop_thread-requires-clause-without : goal.drop_thread-requires-clause-without
drop_thread-requires-clause-without c =
    let k = c.self.inside in
    let on = on_stack k.threads.stacks k.owns.items k.stacks k.waiters.waiters c.args.self.now c.args.thread c.args.stack c.self.view_is c.requires.on in
    none_after k.threads c.leave_ready.new.threads k.owns.items c.args.self.now c.args.thread on.0 c.leave_ready.ensures.threads

pub invariant_of-self : goal.invariant_of-self
invariant_of-self c =
    let k = c.self.inside in
    let on = on_stack k.threads.stacks k.owns.items k.stacks k.waiters.waiters c.args.self.now c.args.thread c.args.stack c.self.view_is c.requires.on in
    let top = top_waits k.threads.states k.threads.stacks k.stacks k.owns.items _ k.waiters.waiters c.args.self.now c.args.thread c.args.stack c.args.waits.members c.self.view_is c.self.invariant on.0 on.1 c.requires.waits in
    exited_sound k.threads c.leave_ready.new.threads c.drop_thread.new.self k.stacks c.leave_ready.new.stacks k.owns.items _ k.waiters.waiters c.args.self.now c.args.thread c.args.waits.members c.self.invariant on.0 top c.leave_ready.ensures.threads c.leave_ready.ensures.stacks c.drop_thread.ensures

pub returns : goal.returns
returns c =
    let k = c.self.inside in
    let on = on_stack k.threads.stacks k.owns.items k.stacks k.waiters.waiters c.args.self.now c.args.thread c.args.stack c.self.view_is c.requires.on in
    exited_seen k.threads c.leave_ready.new.threads c.drop_thread.new.self k.stacks c.leave_ready.new.stacks k.owns.items _ k.waiters.waiters c.args.self.now c.args.thread c.args.stack c.args.waits.members c.self.view_is c.self.invariant on.0 on.1 c.leave_ready.ensures.threads c.leave_ready.ensures.stacks c.drop_thread.ensures
