use Rattle.std.proofs.Common.{ℕ, nat_lt, ap, sym, ◌∙◌}
use Rattle.seats.proofs.Changing.{even_threads}
use Rattle.seats.proofs.seats.Seats.has_room.Goals as goal

pub returns : goal.returns
returns c =
    let k = c.self.inside in
    ap (λ (n : ℕ). nat_lt n 64) (c.made.ensures ∙ sym (even_threads k.threads.states k.threads.stacks k.stacks k.owns.items _ k.waiters.waiters c.args.self.now c.self.view_is c.self.invariant))
