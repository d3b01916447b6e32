use Rattle.std.proofs.Common.{arith}
use Rattle.mu_values.proofs.Appending.{append_next, count_next, not_full}
use Rattle.mu_values.proofs.slots.Slots.append_reserved.Goals as goal

pub loop-n-preserved : goal.loop-n-preserved
loop-n-preserved c =
    let next = count_next c.args.more.now.values c.loop-n.n c.at.result.now c.at.ensures in
    (append_next _ _ _ _ c.loop-n.n _ c.loop-n.invariant.0 c.at.ensures c.in-Ok.ensures.ok, omega (arith, c.loop-n.invariant.1, c.push_slice.ensures.spare), omega (arith, c.loop-n.invariant.2, c.push_slice.ensures.scalars, next))

pub unreachable-requires : goal.unreachable-requires
unreachable-requires c = not_full c.args.more.now.values c.loop-n.n _ _ c.at.result.now c.loop-n.invariant.1 c.loop-n.invariant.2 c.at.ensures c.in-Err.ensures.refused
