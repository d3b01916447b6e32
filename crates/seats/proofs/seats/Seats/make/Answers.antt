use Rattle.seats.proofs.Changing.{made_sound, made_number, made_seen, same_seen}
use Rattle.seats.proofs.seats.Seats.make.Goals as goal

pub invariant_of-self : goal.invariant_of-self
invariant_of-self c =
    let k = c.self.inside in
    made_sound k.threads.states k.threads.stacks k.stacks c.make.new.stacks k.owns.items _ k.waiters.waiters c.args.frames c.args.waits.members c.make.result c.self.invariant c.requires c.make.ensures.made c.make.ensures.same

pub returns-clause-number : goal.returns-clause-number
returns-clause-number c =
    let k = c.self.inside in
    made_number k.threads.stacks k.owns.items k.stacks k.waiters.waiters c.args.self.now c.make.result c.self.view_is c.make.ensures.number

pub returns-clause-made : goal.returns-clause-made
returns-clause-made c =
    let k = c.self.inside in
    made_seen k.threads.stacks k.owns.items k.stacks c.make.new.stacks k.waiters.waiters c.args.self.now c.args.frames c.args.waits.members c.make.result c.self.view_is c.make.ensures.made

pub returns-clause-same : goal.returns-clause-same
returns-clause-same c =
    let k = c.self.inside in
    same_seen k.threads.stacks k.owns.items k.stacks c.make.new.stacks k.waiters.waiters c.args.self.now c.make.result c.self.view_is c.make.ensures.same
