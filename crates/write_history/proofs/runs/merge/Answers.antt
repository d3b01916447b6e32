use Rattle.std.proofs.Common.{◌++◌, ◌-◌, ◌∙◌, length, take, slice_index, sym, subst, ℕ, arith}
use Rattle.write_history.specs.ScalarOrder.{is_lower}
use Rattle.write_history.specs.ByValue.{value_in, IsRun}
use Rattle.write_history.specs.Merging.{Interleaves}
use Rattle.write_history.proofs.Merging.{run-joined, run-merged, merged-size, not-true}
use Rattle.write_history.proofs.runs.merge.Goals.{then-start-middle-via-then-start-middle, then-start-middle-via-else-start-middle+then-middle-len, then-start-middle-via-else-start-middle+else-middle-len+then-in_order}
use Rattle.write_history.proofs.runs.merge.Goals as goal

pub returns-then-start-middle-clause-run : goal.returns-then-start-middle-clause-run
returns-then-start-middle-clause-run c =
    let values = c.args.values.now in
    let order = c.args.order.now.items in
    let size = c.args.order.now.ok in
    run-joined values order c.args.start c.args.middle (length order) c.requires.start c.requires.middle c.requires.older c.requires.newer
    (λ a b. elim c.then-start-middle.branch [
      | then-start-middle-via-then-start-middle w ↦ (let e = w.if-start-middle.true in absurd (omega (arith, e, a)))
      | then-start-middle-via-else-start-middle+then-middle-len w ↦ (let e = w.if-middle-len.true in let l = w.len.ensures in absurd (omega (arith, e, l, b, size)))
      | then-start-middle-via-else-start-middle+else-middle-len+then-in_order w ↦
          not-true (is_lower (value_in values (slice_index order c.args.middle)) (value_in values (slice_index order (c.args.middle - 1)))) (rw w.deref.ensures.value at (sym w.in_order.ensures ∙ w.if-in_order.true))
    ])

pub returns-clause-run : goal.returns-clause-run
returns-clause-run c =
    let values = c.args.values.now in
    let order = c.args.order.now.items in
    let merged = c.interleave.new.merged.items in
    let h : Interleaves values order c.args.start c.args.middle c.args.middle (length order) merged = rw c.deref-2.ensures.value at c.interleave.ensures.merged in
    let run = run-merged values order c.args.start c.args.middle merged h c.requires.older c.requires.newer in
    rw (c.put_back.ensures.items, c.deref-3.ensures.value) (subst (λ (n : ℕ). IsRun values (take c.args.start order ++ merged) c.args.start n) (sym (merged-size values order c.args.start c.args.middle merged h)) run)
