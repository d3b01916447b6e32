use Rattle.std.proofs.Common.{ℕ, ◌<◌, ◌≡◌, length, subst, arith, rules}
use Rattle.std.specs.Vec.{vec_len}
use Rattle.seats.proofs.Changing.{even_states, even_threads, is_open, takes_there, started_sound, started_seen}
use Rattle.seats.proofs.seats.Seats.start.Goals as goal

pub sit_last-passed-requires-clause-few : goal.sit_last-passed-requires-clause-few
sit_last-passed-requires-clause-few c =
    let k = c.self.inside in
    let few : length k.threads.states < 64 = subst (λ (n : ℕ). n < 64) (even_threads k.threads.states k.threads.stacks k.stacks k.owns.items _ k.waiters.waiters c.args.self.now c.self.view_is c.self.invariant) c.requires.few in
    few

pub sit_last-passed-requires-clause-takes : goal.sit_last-passed-requires-clause-takes
sit_last-passed-requires-clause-takes c =
    let k = c.self.inside in
    let o = is_open k.threads.states k.threads.stacks k.stacks k.owns.items _ k.waiters.waiters c.args.self.now c.args.to c.args.with_ c.self.view_is c.self.invariant c.requires.takes in
    takes_there k.stacks c.args.to c.args.with_ o

pub push_reserved-requires : goal.push_reserved-requires
push_reserved-requires c =
    let k = c.self.inside in
    let few : length k.threads.states < 64 = subst (λ (n : ℕ). n < 64) (even_threads k.threads.states k.threads.stacks k.stacks k.owns.items _ k.waiters.waiters c.args.self.now c.self.view_is c.self.invariant) c.requires.few in
    let many : vec_len k.owns ≡ length k.owns.items = search rules in
    omega (arith, many, few, c.self.invariant.even, even_states k.threads.states k.threads.stacks k.stacks k.owns.items _ k.waiters.waiters c.self.invariant, c.self.invariant.room_fits)

pub invariant_of-self : goal.invariant_of-self
invariant_of-self c =
    let k = c.self.inside in
    let o = is_open k.threads.states k.threads.stacks k.stacks k.owns.items _ k.waiters.waiters c.args.self.now c.args.to c.args.with_ c.self.view_is c.self.invariant c.requires.takes in
    let few : length k.threads.states < 64 = subst (λ (n : ℕ). n < 64) (even_threads k.threads.states k.threads.stacks k.stacks k.owns.items _ k.waiters.waiters c.args.self.now c.self.view_is c.self.invariant) c.requires.few in
    started_sound k.threads c.sit_last-passed.new.threads k.stacks c.sit_last-passed.new.stacks k.owns.items c.push_reserved.new.self.items _ _ k.waiters.waiters c.args.to c.args.own c.args.with_ c.self.invariant o few c.sit_last-passed.ensures.states c.sit_last-passed.ensures.bound c.sit_last-passed.ensures.stacks c.push_reserved.ensures.items c.push_reserved.ensures.capacity

pub returns-clause-seats : goal.returns-clause-seats
returns-clause-seats c =
    let k = c.self.inside in
    let o = is_open k.threads.states k.threads.stacks k.stacks k.owns.items _ k.waiters.waiters c.args.self.now c.args.to c.args.with_ c.self.view_is c.self.invariant c.requires.takes in
    started_seen k.threads c.sit_last-passed.new.threads k.stacks c.sit_last-passed.new.stacks k.owns.items c.push_reserved.new.self.items _ k.waiters.waiters c.args.self.now c.args.to c.args.own c.args.with_ c.self.view_is c.self.invariant o c.sit_last-passed.ensures.bound c.sit_last-passed.ensures.stacks c.push_reserved.ensures.items
