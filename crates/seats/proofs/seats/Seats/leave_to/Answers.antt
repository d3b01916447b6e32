use Rattle.seats.proofs.Seen.{on_stack}
use Rattle.seats.proofs.Changing.{taken_by, left_after, none_after, is_open, takes_there, open_after_ready, top_waits, agree_after_ready, sat_sound, sat_after_ready}
use Rattle.seats.proofs.seats.Seats.leave_to.Goals as goal

pub leave_ready-requires : goal.leave_ready-requires
leave_ready-requires c =
    let k = c.self.inside in
    let on = on_stack k.threads.stacks k.owns.items k.stacks k.waiters.waiters c.args.self.now c.args.thread c.args.stack c.self.view_is c.requires.on in
    taken_by k.threads.states k.threads.stacks k.stacks k.owns.items _ k.waiters.waiters c.args.self.now c.args.thread c.self.invariant on.0

pub sit-requires-clause-left : goal.sit-requires-clause-left
sit-requires-clause-left c =
    let k = c.self.inside in
    let on = on_stack k.threads.stacks k.owns.items k.stacks k.waiters.waiters c.args.self.now c.args.thread c.args.stack c.self.view_is c.requires.on in
    left_after k.threads c.leave_ready.new.threads k.stacks k.owns.items _ k.waiters.waiters c.args.self.now c.args.thread c.self.invariant on.0 c.leave_ready.ensures.threads

pub sit-requires-clause-without : goal.sit-requires-clause-without
sit-requires-clause-without c =
    let k = c.self.inside in
    let on = on_stack k.threads.stacks k.owns.items k.stacks k.waiters.waiters c.args.self.now c.args.thread c.args.stack c.self.view_is c.requires.on in
    none_after k.threads c.leave_ready.new.threads k.owns.items c.args.self.now c.args.thread on.0 c.leave_ready.ensures.threads

pub sit-requires-clause-takes : goal.sit-requires-clause-takes
sit-requires-clause-takes c =
    let k = c.self.inside in
    let on = on_stack k.threads.stacks k.owns.items k.stacks k.waiters.waiters c.args.self.now c.args.thread c.args.stack c.self.view_is c.requires.on in
    let o = is_open k.threads.states k.threads.stacks k.stacks k.owns.items _ k.waiters.waiters c.args.self.now c.args.to c.args.with_ c.self.view_is c.self.invariant c.requires.takes in
    let left = open_after_ready k.threads k.stacks c.leave_ready.new.stacks k.owns.items _ k.waiters.waiters c.args.self.now c.args.thread c.args.to c.args.waits.members c.args.with_ c.self.invariant on.0 o c.leave_ready.ensures.stacks in
    takes_there c.leave_ready.new.stacks c.args.to c.args.with_ left

pub invariant_of-self : goal.invariant_of-self
invariant_of-self c =
    let k = c.self.inside in
    let on = on_stack k.threads.stacks k.owns.items k.stacks k.waiters.waiters c.args.self.now c.args.thread c.args.stack c.self.view_is c.requires.on in
    let o = is_open k.threads.states k.threads.stacks k.stacks k.owns.items _ k.waiters.waiters c.args.self.now c.args.to c.args.with_ c.self.view_is c.self.invariant c.requires.takes in
    let left = open_after_ready k.threads k.stacks c.leave_ready.new.stacks k.owns.items _ k.waiters.waiters c.args.self.now c.args.thread c.args.to c.args.waits.members c.args.with_ c.self.invariant on.0 o c.leave_ready.ensures.stacks in
    let top = top_waits k.threads.states k.threads.stacks k.stacks k.owns.items _ k.waiters.waiters c.args.self.now c.args.thread c.args.stack c.args.waits.members c.self.view_is c.self.invariant on.0 on.1 c.requires.waits in
    sat_sound k.threads c.leave_ready.new.threads c.sit.new.threads k.stacks c.leave_ready.new.stacks c.sit.new.stacks k.owns.items _ k.waiters.waiters c.args.self.now c.args.thread c.args.to c.args.with_ c.self.invariant on.0 (agree_after_ready k.threads k.stacks c.leave_ready.new.stacks k.owns.items _ k.waiters.waiters c.args.self.now c.args.thread c.args.waits.members c.self.invariant on.0 top c.leave_ready.ensures.stacks) left c.leave_ready.ensures.threads c.sit.ensures.threads c.sit.ensures.stacks

pub returns-clause-seats : goal.returns-clause-seats
returns-clause-seats c =
    let k = c.self.inside in
    let on = on_stack k.threads.stacks k.owns.items k.stacks k.waiters.waiters c.args.self.now c.args.thread c.args.stack c.self.view_is c.requires.on in
    let o = is_open k.threads.states k.threads.stacks k.stacks k.owns.items _ k.waiters.waiters c.args.self.now c.args.to c.args.with_ c.self.view_is c.self.invariant c.requires.takes in
    let left = open_after_ready k.threads k.stacks c.leave_ready.new.stacks k.owns.items _ k.waiters.waiters c.args.self.now c.args.thread c.args.to c.args.waits.members c.args.with_ c.self.invariant on.0 o c.leave_ready.ensures.stacks in
    let top = top_waits k.threads.states k.threads.stacks k.stacks k.owns.items _ k.waiters.waiters c.args.self.now c.args.thread c.args.stack c.args.waits.members c.self.view_is c.self.invariant on.0 on.1 c.requires.waits in
    sat_after_ready k.threads c.leave_ready.new.threads c.sit.new.threads k.stacks c.leave_ready.new.stacks c.sit.new.stacks k.owns.items _ k.waiters.waiters c.args.self.now c.args.thread c.args.stack c.args.to c.args.waits.members c.args.with_ c.self.view_is c.self.invariant on.0 on.1 top c.leave_ready.ensures.stacks left c.leave_ready.ensures.threads c.sit.ensures.threads c.sit.ensures.stacks
