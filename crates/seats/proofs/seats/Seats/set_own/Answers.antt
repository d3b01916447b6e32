use Rattle.seats.proofs.Seen.{seated, own_within, owns_written, owned_seen}
use Rattle.seats.proofs.seats.Seats.set_own.Goals as goal

pub write_own-requires : goal.write_own-requires
write_own-requires c =
    let k = c.self.inside in
    let h = seated k.threads.stacks k.owns.items k.stacks k.waiters.waiters c.args.self.now c.args.thread c.self.view_is c.requires in
    own_within k.threads.stacks k.owns.items c.args.self.now c.args.thread h

pub invariant_of-self : goal.invariant_of-self
invariant_of-self c =
    let k = c.self.inside in
    owns_written k.threads.states k.threads.stacks k.owns.items c.write_own.new.owns.items k.stacks _ _ k.waiters.waiters c.args.thread c.args.own c.self.invariant c.write_own.ensures.owns c.write_own.ensures.room

pub returns : goal.returns
returns c =
    let k = c.self.inside in
    owned_seen k.threads.stacks k.owns.items c.write_own.new.owns.items k.stacks k.waiters.waiters c.args.self.now c.args.thread c.args.own c.self.view_is c.write_own.ensures.owns
