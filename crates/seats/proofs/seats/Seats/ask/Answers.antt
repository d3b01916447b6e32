use Rattle.std.proofs.Common.{ℕ, List}
use Rattle.frames.specs.Activations.{Activation}
use Rattle.seats.proofs.Seen.{on_stack, holds}
use Rattle.seats.proofs.Waking.{seat_left}
use Rattle.seats.proofs.Showing.{takes_here, shown_sound, shown_asked}
use Rattle.seats.proofs.seats.Seats.ask.Goals as goal

pub show-requires-clause-left : goal.show-requires-clause-left
show-requires-clause-left g c =
    let k = c.self.inside in
    let on = on_stack k.threads.stacks k.owns.items k.stacks k.waiters.waiters c.args.self.now c.args.thread c.args.stack c.self.view_is c.requires.on in
    seat_left k.threads k.stacks k.owns.items _ k.waiters.waiters c.args.self.now c.args.thread c.self.invariant on.0

pub show-requires-clause-holds : goal.show-requires-clause-holds
show-requires-clause-holds g c =
    let k = c.self.inside in
    let on = on_stack k.threads.stacks k.owns.items k.stacks k.waiters.waiters c.args.self.now c.args.thread c.args.stack c.self.view_is c.requires.on in
    holds k.threads.stacks k.owns.items c.args.self.now c.args.thread on.0

pub show-requires-clause-takes : goal.show-requires-clause-takes
show-requires-clause-takes g c =
    let k = c.self.inside in
    let on = on_stack k.threads.stacks k.owns.items k.stacks k.waiters.waiters c.args.self.now c.args.thread c.args.stack c.self.view_is c.requires.on in
    takes_here k.threads k.stacks k.owns.items _ k.waiters.waiters c.args.self.now c.args.thread c.args.stack (λ (fs : List Activation). g.A.Asks.takes c.args.asks.now fs c.args.waits.members) c.self.invariant on.0 c.self.view_is on.1 c.requires.takes

pub invariant_of-self : goal.invariant_of-self
invariant_of-self g c =
    let k = c.self.inside in
    let on = on_stack k.threads.stacks k.owns.items k.stacks k.waiters.waiters c.args.self.now c.args.thread c.args.stack c.self.view_is c.requires.on in
    shown_sound k.threads c.show.new.threads k.stacks k.owns.items _ k.waiters.waiters c.args.self.now c.args.thread (λ (n : ℕ) (fs gs : List Activation). g.A.Asks.asked c.args.asks.now n fs c.args.waits.members c.show.new.asks gs) c.self.invariant on.0 c.show.ensures

pub returns : goal.returns
returns g c =
    let k = c.self.inside in
    let on = on_stack k.threads.stacks k.owns.items k.stacks k.waiters.waiters c.args.self.now c.args.thread c.args.stack c.self.view_is c.requires.on in
    shown_asked k.threads c.show.new.threads k.stacks k.owns.items _ k.waiters.waiters c.args.self.now c.args.thread (λ (n : ℕ) (fs gs : List Activation). g.A.Asks.asked c.args.asks.now n fs c.args.waits.members c.show.new.asks gs) c.self.invariant on.0 c.show.ensures c.args.stack c.self.view_is on.1
