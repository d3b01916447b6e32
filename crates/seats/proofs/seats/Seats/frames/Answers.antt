use Rattle.std.specs.Prelude.{Some}
use Rattle.std.proofs.Common.{◌∙◌, ap, sym}
use Rattle.seats.specs.Kept.{frames_held}
use Rattle.seats.proofs.Seen.{on_stack, holds, frames_seen}
use Rattle.seats.proofs.seats.Seats.frames.Goals as goal

pub stack-requires : goal.stack-requires
stack-requires c =
    let k = c.self.inside in
    let on = on_stack k.threads.stacks k.owns.items k.stacks k.waiters.waiters c.args.self.now c.args.thread c.args.stack c.self.view_is c.requires in
    holds k.threads.stacks k.owns.items c.args.self.now c.args.thread on.0

pub returns : goal.returns
returns c =
    let k = c.self.inside in
    let on = on_stack k.threads.stacks k.owns.items k.stacks k.waiters.waiters c.args.self.now c.args.thread c.args.stack c.self.view_is c.requires in
    frames_seen k.threads.states k.threads.stacks k.owns.items k.stacks _ k.waiters.waiters c.args.self.now c.args.thread c.args.stack c.frames.result.now c.self.view_is c.self.invariant on.0 on.1 (ap frames_held c.stack.ensures ∙ ap Some (sym c.frames.ensures))
