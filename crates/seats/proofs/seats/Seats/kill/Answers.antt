use Rattle.seats.proofs.Changing.{ready_there, killed_sound, killed_frames, killed_seen}
use Rattle.seats.proofs.seats.Seats.kill.Goals as goal

pub kill-requires : goal.kill-requires
kill-requires c =
    let k = c.self.inside in
    ready_there k.threads.stacks k.owns.items k.stacks k.waiters.waiters c.args.self.now c.args.id c.self.view_is c.requires

pub invariant_of-self : goal.invariant_of-self
invariant_of-self c =
    let k = c.self.inside in
    killed_sound k.threads.states k.threads.stacks k.stacks c.kill.new.stacks k.owns.items _ k.waiters.waiters c.args.id c.kill.result c.self.invariant c.kill.ensures.frames c.kill.ensures.dead

pub returns-clause-frames : goal.returns-clause-frames
returns-clause-frames c =
    let k = c.self.inside in
    killed_frames k.threads.stacks k.owns.items k.stacks k.waiters.waiters c.args.self.now c.args.id c.kill.result c.self.view_is c.kill.ensures.frames

pub returns-clause-dead : goal.returns-clause-dead
returns-clause-dead c =
    let k = c.self.inside in
    killed_seen k.threads.states k.threads.stacks k.stacks c.kill.new.stacks k.owns.items _ k.waiters.waiters c.args.self.now c.args.id c.kill.result c.self.view_is c.self.invariant c.kill.ensures.frames c.kill.ensures.dead
