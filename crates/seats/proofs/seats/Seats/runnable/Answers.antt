use Rattle.std.proofs.Common.{ap, ◌∙◌, length}
use Rattle.seats.proofs.Seen.{runnable_seen}
use Rattle.seats.proofs.seats.Seats.runnable.Goals as goal

pub returns : goal.returns
returns c =
    let k = c.self.inside in
    c.runnable.ensures ∙ ap length (runnable_seen k.threads.states k.threads.stacks k.owns.items k.stacks _ k.waiters.waiters c.args.self.now c.self.view_is c.self.invariant)
