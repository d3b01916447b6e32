use Rattle.seats.proofs.Seen.{seated}
use Rattle.seats.proofs.Waking.{seat_left, seat_below, goes_on, wait_sound, wait_seen, wait_same}
use Rattle.seats.proofs.seats.Seats.wait.Goals as goal

pub wait-requires-clause-left : goal.wait-requires-clause-left
wait-requires-clause-left c =
    let k = c.self.inside in
    let h = seated k.threads.stacks k.owns.items k.stacks k.waiters.waiters c.args.self.now c.args.thread c.self.view_is c.requires.there in
    seat_left k.threads k.stacks k.owns.items _ k.waiters.waiters c.args.self.now c.args.thread c.self.invariant h

pub wait-requires-clause-below : goal.wait-requires-clause-below
wait-requires-clause-below c =
    let k = c.self.inside in
    let h = seated k.threads.stacks k.owns.items k.stacks k.waiters.waiters c.args.self.now c.args.thread c.self.view_is c.requires.there in
    seat_below k.threads k.stacks k.owns.items _ k.waiters.waiters c.args.self.now c.args.thread c.self.invariant h

pub wait-requires-clause-goes_on : goal.wait-requires-clause-goes_on
wait-requires-clause-goes_on c =
    let k = c.self.inside in
    goes_on k.threads.stacks k.owns.items k.stacks k.waiters.waiters c.args.self.now c.args.thread c.self.view_is c.requires.goes_on

pub invariant_of-self : goal.invariant_of-self
invariant_of-self c =
    let k = c.self.inside in
    let h = seated k.threads.stacks k.owns.items k.stacks k.waiters.waiters c.args.self.now c.args.thread c.self.view_is c.requires.there in
    wait_sound k.threads c.wait.new.threads k.stacks k.owns.items _ k.waiters.waiters c.wait.new.waiters.waiters c.args.self.now (record { thread = c.args.thread; cell = c.args.cell; timed = c.args.timed }) c.wait.result c.self.invariant h c.wait.ensures.threads c.wait.ensures.waiters c.wait.ensures.same_threads c.wait.ensures.same_waiters

pub returns-clause-ok : goal.returns-clause-ok
returns-clause-ok c =
    let k = c.self.inside in
    wait_seen k.threads c.wait.new.threads k.stacks k.owns.items k.waiters.waiters c.wait.new.waiters.waiters c.args.self.now (record { thread = c.args.thread; cell = c.args.cell; timed = c.args.timed }) c.wait.result c.self.view_is c.wait.ensures.threads c.wait.ensures.waiters

pub returns-clause-err : goal.returns-clause-err
returns-clause-err c =
    let k = c.self.inside in
    wait_same k.threads c.wait.new.threads k.stacks k.owns.items k.waiters.waiters c.wait.new.waiters.waiters c.args.self.now c.wait.result c.self.view_is c.wait.ensures.same_threads c.wait.ensures.same_waiters
