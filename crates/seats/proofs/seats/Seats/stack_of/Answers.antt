use Rattle.std.proofs.Common.{ℕ, sym, subst, IsSome, IsSomeAnd, slice_get}
use Rattle.mu_model.specs.Turns.{active_on}
use Rattle.seats.specs.Seats.{IsOn}
use Rattle.seats.proofs.Seen.{seated, holds, number_seen, active_seen}
use Rattle.seats.proofs.seats.Seats.stack_of.Goals as goal

pub stack-requires : goal.stack-requires
stack-requires c =
    let k = c.self.inside in
    let h = seated k.threads.stacks k.owns.items k.stacks k.waiters.waiters c.args.self.now c.args.thread c.self.view_is c.requires in
    holds k.threads.stacks k.owns.items c.args.self.now c.args.thread h

pub returns-clause-on : goal.returns-clause-on
returns-clause-on c =
    let k = c.self.inside in
    let h = seated k.threads.stacks k.owns.items k.stacks k.waiters.waiters c.args.self.now c.args.thread c.self.view_is c.requires in
    subst (λ (n : ℕ). IsOn c.args.self.now c.args.thread n) (sym c.number.ensures) (number_seen k.threads.stacks k.owns.items c.args.self.now c.args.thread c.stack.result.now h c.stack.ensures)

pub returns-clause-active : goal.returns-clause-active
returns-clause-active c =
    let k = c.self.inside in
    let h = seated k.threads.stacks k.owns.items k.stacks k.waiters.waiters c.args.self.now c.args.thread c.self.view_is c.requires in
    subst (λ (n : ℕ). IsSomeAnd (slice_get c.args.self.now.stacks n) (λ k. IsSome (active_on c.args.thread k))) (sym c.number.ensures)
    (active_seen k.threads.states k.threads.stacks k.owns.items k.stacks _ k.waiters.waiters c.args.self.now c.args.thread c.stack.result.now c.self.view_is c.self.invariant h c.stack.ensures)
