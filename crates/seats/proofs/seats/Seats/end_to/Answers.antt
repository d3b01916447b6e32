use Rattle.seats.proofs.Seen.{on_stack, frames_seen}
use Rattle.seats.proofs.Changing.{taken_by, left_after, none_after, is_open, takes_there, open_after_dead, agree_after_dead, sat_sound, sat_after_dead}
use Rattle.seats.proofs.seats.Seats.end_to.Goals as goal

pub leave_dead-frames-requires : goal.leave_dead-frames-requires
leave_dead-frames-requires c =
    let k = c.self.inside in
    let on = on_stack k.threads.stacks k.owns.items k.stacks k.waiters.waiters c.args.self.now c.args.thread c.args.stack c.self.view_is c.requires.on in
    taken_by k.threads.states k.threads.stacks k.stacks k.owns.items _ k.waiters.waiters c.args.self.now c.args.thread c.self.invariant on.0

pub sit-passed-requires-clause-left : goal.sit-passed-requires-clause-left
sit-passed-requires-clause-left c =
    let k = c.self.inside in
    let on = on_stack k.threads.stacks k.owns.items k.stacks k.waiters.waiters c.args.self.now c.args.thread c.args.stack c.self.view_is c.requires.on in
    left_after k.threads c.leave_dead-frames.new.threads k.stacks k.owns.items _ k.waiters.waiters c.args.self.now c.args.thread c.self.invariant on.0 c.leave_dead-frames.ensures.threads

pub sit-passed-requires-clause-without : goal.sit-passed-requires-clause-without
sit-passed-requires-clause-without c =
    let k = c.self.inside in
    let on = on_stack k.threads.stacks k.owns.items k.stacks k.waiters.waiters c.args.self.now c.args.thread c.args.stack c.self.view_is c.requires.on in
    none_after k.threads c.leave_dead-frames.new.threads k.owns.items c.args.self.now c.args.thread on.0 c.leave_dead-frames.ensures.threads

pub sit-passed-requires-clause-takes : goal.sit-passed-requires-clause-takes
sit-passed-requires-clause-takes c =
    let k = c.self.inside in
    let on = on_stack k.threads.stacks k.owns.items k.stacks k.waiters.waiters c.args.self.now c.args.thread c.args.stack c.self.view_is c.requires.on in
    let o = is_open k.threads.states k.threads.stacks k.stacks k.owns.items _ k.waiters.waiters c.args.self.now c.args.to c.args.with_ c.self.view_is c.self.invariant c.requires.takes in
    let left = open_after_dead k.threads k.stacks c.leave_dead-frames.new.stacks k.owns.items _ k.waiters.waiters c.args.self.now c.args.thread c.args.to c.args.with_ c.self.invariant on.0 o c.leave_dead-frames.ensures.stacks in
    takes_there c.leave_dead-frames.new.stacks c.args.to c.args.with_ left

pub invariant_of-self : goal.invariant_of-self
invariant_of-self c =
    let k = c.self.inside in
    let on = on_stack k.threads.stacks k.owns.items k.stacks k.waiters.waiters c.args.self.now c.args.thread c.args.stack c.self.view_is c.requires.on in
    let o = is_open k.threads.states k.threads.stacks k.stacks k.owns.items _ k.waiters.waiters c.args.self.now c.args.to c.args.with_ c.self.view_is c.self.invariant c.requires.takes in
    let left = open_after_dead k.threads k.stacks c.leave_dead-frames.new.stacks k.owns.items _ k.waiters.waiters c.args.self.now c.args.thread c.args.to c.args.with_ c.self.invariant on.0 o c.leave_dead-frames.ensures.stacks in
    sat_sound k.threads c.leave_dead-frames.new.threads c.sit-passed.new.threads k.stacks c.leave_dead-frames.new.stacks c.sit-passed.new.stacks k.owns.items _ k.waiters.waiters c.args.self.now c.args.thread c.args.to c.args.with_ c.self.invariant on.0 (agree_after_dead k.threads k.stacks c.leave_dead-frames.new.stacks k.owns.items _ k.waiters.waiters c.args.self.now c.args.thread c.self.invariant on.0 c.leave_dead-frames.ensures.stacks) left c.leave_dead-frames.ensures.threads c.sit-passed.ensures.threads c.sit-passed.ensures.stacks

pub returns-clause-seats : goal.returns-clause-seats
returns-clause-seats c =
    let k = c.self.inside in
    let on = on_stack k.threads.stacks k.owns.items k.stacks k.waiters.waiters c.args.self.now c.args.thread c.args.stack c.self.view_is c.requires.on in
    let o = is_open k.threads.states k.threads.stacks k.stacks k.owns.items _ k.waiters.waiters c.args.self.now c.args.to c.args.with_ c.self.view_is c.self.invariant c.requires.takes in
    let left = open_after_dead k.threads k.stacks c.leave_dead-frames.new.stacks k.owns.items _ k.waiters.waiters c.args.self.now c.args.thread c.args.to c.args.with_ c.self.invariant on.0 o c.leave_dead-frames.ensures.stacks in
    sat_after_dead k.threads c.leave_dead-frames.new.threads c.sit-passed.new.threads k.stacks c.leave_dead-frames.new.stacks c.sit-passed.new.stacks k.owns.items _ k.waiters.waiters c.args.self.now c.args.thread c.args.stack c.args.to c.args.with_ c.self.view_is c.self.invariant on.0 on.1 c.leave_dead-frames.ensures.stacks left c.leave_dead-frames.ensures.threads c.sit-passed.ensures.threads c.sit-passed.ensures.stacks

pub returns-clause-frames : goal.returns-clause-frames
returns-clause-frames c =
    let k = c.self.inside in
    let on = on_stack k.threads.stacks k.owns.items k.stacks k.waiters.waiters c.args.self.now c.args.thread c.args.stack c.self.view_is c.requires.on in
    frames_seen k.threads.states k.threads.stacks k.owns.items k.stacks _ k.waiters.waiters c.args.self.now c.args.thread c.args.stack c.leave_dead-frames.result c.self.view_is c.self.invariant on.0 on.1 c.leave_dead-frames.ensures.frames
