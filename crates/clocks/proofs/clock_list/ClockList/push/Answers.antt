use Rattle.std.proofs.Common.{◌<◌, arith}
use Rattle.clocks.proofs.SpansKept.{laid-next, number-next}
use Rattle.clocks.proofs.clock_list.ClockList.push.Goals as goal

pub invariant_of-self : goal.invariant_of-self
invariant_of-self c =
    let room : 0 < c.self.inside.spare = rw (← c.self.view_is) at c.requires in
    record {
      laid =
          rw (c.push_reserved.ensures.items, c.append.ensures.items)
          (laid-next c.self.inside.ends.items c.self.inside.numbers.items c.numbers.result.now c.len.result (omega arith) c.numbers.ensures.small c.self.invariant.laid);
      ends_room = omega arith;
      numbers_room = omega arith;
      counted = omega arith;
      few = omega arith;
    }

pub returns-clause-pushed : goal.returns-clause-pushed
returns-clause-pushed c p u =
    rw (← c.self.view_is, c.push_reserved.ensures.items, c.append.ensures.items, ← c.numbers.ensures.same u)
    (number-next c.self.inside.ends.items c.self.inside.numbers.items c.numbers.result.now c.len.result p u (omega arith) c.self.invariant.laid)
