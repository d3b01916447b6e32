use Rattle.std.proofs.Common.{arith}
use Rattle.write_history.proofs.LastFound.{other-none, other-some}
use Rattle.write_history.proofs.groups.Groups.other_at.Goals as goal

pub overflow_add-result : goal.overflow_add-result
overflow_add-result g c =
    let there = (other-some c.args.self.now.values c.args.value c.args.below c.requires.there c.in-Some.found c.in-Some.ensures.found).there in
    let few = c.requires.few in
    let count = c.count_up_to.ensures in
    omega (arith, there, few, count)

pub returns-in-Some-clause-other : goal.returns-in-Some-clause-other
returns-in-Some-clause-other g c = rw c.count_up_to.ensures (other-some c.args.self.now.values c.args.value c.args.below c.requires.there c.in-Some.found c.in-Some.ensures.found)

pub returns-in-None-clause-other : goal.returns-in-None-clause-other
returns-in-None-clause-other g c = other-none c.args.self.now.values c.args.value c.args.below c.requires.there c.in-None.ensures.found
