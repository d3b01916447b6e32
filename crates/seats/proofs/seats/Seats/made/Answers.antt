use Rattle.std.proofs.Common.{sym, ◌∙◌}
use Rattle.seats.proofs.Changing.{even_threads}
use Rattle.seats.proofs.seats.Seats.made.Goals as goal

pub returns : goal.returns
returns c = let k = c.self.inside in c.made.ensures ∙ sym (even_threads k.threads.states k.threads.stacks k.stacks k.owns.items _ k.waiters.waiters c.args.self.now c.self.view_is c.self.invariant)
