use Rattle.std.proofs.Common.{◌∙◌, sym, arith}
use Rattle.write_history.proofs.Merging.{taken-older, taken-newer, next-older, next-newer}
use Rattle.write_history.proofs.runs.interleave.Goals.{then-is_older_next, else-is_older_next}
use Rattle.write_history.proofs.runs.interleave.Goals as goal

pub loop-index-preserved : goal.loop-index-preserved
loop-index-preserved c =
    let values = c.args.values.now in
    let order = c.args.order.now in
    let i = c.loop-index.invariant in
    let m = i.merged in
    let n = i.count in
    let t = c.loop-index-test.true in
    elim c.if-is_older_next.branch [
      | then-is_older_next w ↦ (let next = next-older values order c.loop-index.left c.args.middle c.loop-index.right m.left_to m.right_to (sym c.is_older_next.ensures ∙ w.if-is_older_next.true) in
          record {
            merged = rw (w.merged-is, w.left-is, w.right-is, w.push_reserved.ensures.items) (taken-older values order c.args.start c.args.middle c.loop-index.left c.loop-index.right c.loop-index.merged.items m c.requires.older c.requires.newer next.0 next.1);
            count = rw (w.left-is, w.right-is) (omega (arith, n));
            capacity = rw w.merged-is (w.push_reserved.ensures.capacity ∙ i.capacity);
          })
      | else-is_older_next w ↦ (let next = next-newer values order c.loop-index.left c.args.middle c.loop-index.right m.left_to m.right_to (omega (arith, n, t)) (sym c.is_older_next.ensures ∙ w.if-is_older_next.false) in
          record {
            merged = rw (w.merged-is, w.left-is, w.right-is, w.push_reserved-else-is_older_next.ensures.items) (taken-newer values order c.args.start c.args.middle c.loop-index.left c.loop-index.right c.loop-index.merged.items m c.requires.older c.requires.newer next.0 next.1);
            count = rw (w.left-is, w.right-is) (omega (arith, n));
            capacity = rw w.merged-is (w.push_reserved-else-is_older_next.ensures.capacity ∙ i.capacity);
          })
    ]
