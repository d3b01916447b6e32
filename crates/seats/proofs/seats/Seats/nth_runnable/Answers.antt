use Rattle.std.proofs.Common.{ℕ, List, ◌<◌, ap, sym, subst, ◌∙◌, length, slice_get}
use Rattle.seats.proofs.Seen.{runnable_seen}
use Rattle.seats.proofs.seats.Seats.nth_runnable.Goals as goal

pub nth_runnable-requires : goal.nth_runnable-requires
nth_runnable-requires c =
    let k = c.self.inside in
    subst (λ (is : List ℕ). c.args.n < length is) (sym (runnable_seen k.threads.states k.threads.stacks k.owns.items k.stacks _ k.waiters.waiters c.args.self.now c.self.view_is c.self.invariant)) c.requires

pub returns : goal.returns
returns c =
    let k = c.self.inside in
    ap (λ (is : List ℕ). slice_get is c.args.n) (sym (runnable_seen k.threads.states k.threads.stacks k.owns.items k.stacks _ k.waiters.waiters c.args.self.now c.self.view_is c.self.invariant)) ∙ c.nth_runnable.ensures
