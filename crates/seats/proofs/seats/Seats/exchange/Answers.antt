use Rattle.seats.proofs.Seen.{on_stack, holds, exchanged_sound, exchanged_seen, frames_seen}
use Rattle.seats.proofs.seats.Seats.exchange.Goals as goal

pub exchange-requires : goal.exchange-requires
exchange-requires c =
    let k = c.self.inside in
    let on = on_stack k.threads.stacks k.owns.items k.stacks k.waiters.waiters c.args.self.now c.args.thread c.args.stack c.self.view_is c.requires in
    holds k.threads.stacks k.owns.items c.args.self.now c.args.thread on.0

pub invariant_of-self : goal.invariant_of-self
invariant_of-self c =
    let k = c.self.inside in
    let on = on_stack k.threads.stacks k.owns.items k.stacks k.waiters.waiters c.args.self.now c.args.thread c.args.stack c.self.view_is c.requires in
    exchanged_sound k.threads c.exchange.new.threads k.owns.items k.stacks _ k.waiters.waiters c.args.self.now c.args.thread c.args.frames.now c.self.invariant on.0 c.exchange.ensures.threads

pub returns-clause-seats : goal.returns-clause-seats
returns-clause-seats c =
    let k = c.self.inside in
    let on = on_stack k.threads.stacks k.owns.items k.stacks k.waiters.waiters c.args.self.now c.args.thread c.args.stack c.self.view_is c.requires in
    exchanged_seen k.threads c.exchange.new.threads k.owns.items k.stacks _ k.waiters.waiters c.args.self.now c.args.thread c.args.stack c.args.frames.now c.self.view_is c.self.invariant on.0 on.1 c.exchange.ensures.threads

pub returns-clause-frames : goal.returns-clause-frames
returns-clause-frames c =
    let k = c.self.inside in
    let on = on_stack k.threads.stacks k.owns.items k.stacks k.waiters.waiters c.args.self.now c.args.thread c.args.stack c.self.view_is c.requires in
    frames_seen k.threads.states k.threads.stacks k.owns.items k.stacks _ k.waiters.waiters c.args.self.now c.args.thread c.args.stack c.exchange.new.frames c.self.view_is c.self.invariant on.0 on.1 c.exchange.ensures.frames
