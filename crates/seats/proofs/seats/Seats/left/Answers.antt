use Rattle.std.proofs.Common.{◌≡◌, ℕ, List, IfOk, subst, ap, ◌∙◌}
use Rattle.mu_model.specs.Step.{threads_from}
use Rattle.seats.specs.Seats.{Seats}
use Rattle.seats.proofs.Listing.{held_is_left}
use Rattle.seats.proofs.Changing.{even_states}
use Rattle.seats.proofs.seats.Seats.left.Goals as goal

pub list_held-requires : goal.list_held-requires
list_held-requires c =
    let k = c.self.inside in
    even_states k.threads.states k.threads.stacks k.stacks k.owns.items _ k.waiters.waiters c.self.invariant

pub returns : goal.returns
returns c =
    let k = c.self.inside in
    subst (λ (is : List ℕ). IfOk c.list_held.result (λ l. l ≡ is)) (held_is_left 0 k.threads.stacks k.owns.items c.self.invariant.even ∙ ap (λ (v : Seats). threads_from 0 v.threads) c.self.view_is) c.list_held.ensures
