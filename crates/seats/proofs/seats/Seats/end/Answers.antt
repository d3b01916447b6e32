use Rattle.seats.proofs.Seen.{on_stack, frames_seen}
use Rattle.seats.proofs.Changing.{taken_by, left_after, none_after, ended_sound, ended_seen}
use Rattle.seats.proofs.seats.Seats.end.Goals as goal

pub leave_dead-frames-requires : goal.leave_dead-frames-requires
leave_dead-frames-requires c =
    let k = c.self.inside in
    let on = on_stack k.threads.stacks k.owns.items k.stacks k.waiters.waiters c.args.self.now c.args.thread c.args.stack c.self.view_is c.requires in
    taken_by k.threads.states k.threads.stacks k.stacks k.owns.items _ k.waiters.waiters c.args.self.now c.args.thread c.self.invariant on.0

pub drop_thread-requires-clause-left : goal.drop_thread-requires-clause-left
drop_thread-requires-clause-left c =
    let k = c.self.inside in
    let on = on_stack k.threads.stacks k.owns.items k.stacks k.waiters.waiters c.args.self.now c.args.thread c.args.stack c.self.view_is c.requires in
    left_after k.threads c.leave_dead-frames.new.threads k.stacks k.owns.items _ k.waiters.waiters c.args.self.now c.args.thread c.self.invariant on.0 c.leave_dead-frames.ensures.threads

pub drop_thread-requires-clause-without : goal.drop_thread-requires-clause-without
drop_thread-requires-clause-without c =
    let k = c.self.inside in
    let on = on_stack k.threads.stacks k.owns.items k.stacks k.waiters.waiters c.args.self.now c.args.thread c.args.stack c.self.view_is c.requires in
    none_after k.threads c.leave_dead-frames.new.threads k.owns.items c.args.self.now c.args.thread on.0 c.leave_dead-frames.ensures.threads

pub invariant_of-self : goal.invariant_of-self
invariant_of-self c =
    let k = c.self.inside in
    let on = on_stack k.threads.stacks k.owns.items k.stacks k.waiters.waiters c.args.self.now c.args.thread c.args.stack c.self.view_is c.requires in
    ended_sound k.threads c.leave_dead-frames.new.threads c.drop_thread.new.self k.stacks c.leave_dead-frames.new.stacks k.owns.items _ k.waiters.waiters c.args.self.now c.args.thread c.self.invariant on.0 c.leave_dead-frames.ensures.threads c.leave_dead-frames.ensures.stacks c.drop_thread.ensures

pub returns-clause-frames : goal.returns-clause-frames
returns-clause-frames c =
    let k = c.self.inside in
    let on = on_stack k.threads.stacks k.owns.items k.stacks k.waiters.waiters c.args.self.now c.args.thread c.args.stack c.self.view_is c.requires in
    frames_seen k.threads.states k.threads.stacks k.owns.items k.stacks _ k.waiters.waiters c.args.self.now c.args.thread c.args.stack c.leave_dead-frames.result c.self.view_is c.self.invariant on.0 on.1 c.leave_dead-frames.ensures.frames

pub returns-clause-ended : goal.returns-clause-ended
returns-clause-ended c =
    let k = c.self.inside in
    let on = on_stack k.threads.stacks k.owns.items k.stacks k.waiters.waiters c.args.self.now c.args.thread c.args.stack c.self.view_is c.requires in
    ended_seen k.threads c.leave_dead-frames.new.threads c.drop_thread.new.self k.stacks c.leave_dead-frames.new.stacks k.owns.items _ k.waiters.waiters c.args.self.now c.args.thread c.args.stack c.self.view_is c.self.invariant on.0 on.1 c.leave_dead-frames.ensures.threads c.leave_dead-frames.ensures.stacks c.drop_thread.ensures
