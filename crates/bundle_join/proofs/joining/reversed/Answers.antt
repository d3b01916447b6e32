use Rattle.std.proofs.Common.{arith, ap, length, reverse, []}
use Rattle.bundle_join.proofs.Steps.{moved, all_moved, one_less}
use Rattle.bundle_join.proofs.joining.reversed.Goals as goal

pub each-preserved : goal.each-preserved
each-preserved g c = moved c.each.members.items c.push.new.self.items c.each.left c.pop.new.self (reverse c.args.list) c.in-Some.member c.each.invariant c.in-Some.ensures.some c.in_ok-push.ensures.items

pub each-smaller : goal.each-smaller
each-smaller g c = one_less c.each.left c.pop.new.self c.in-Some.member c.in-Some.ensures.some

pub returns : goal.returns
returns g c = all_moved c.each.members.items c.each.left (reverse c.args.list) c.each.invariant c.in_default.ensures.none
