use Rattle.std.proofs.Common.{◌≡◌, ◌∙◌, ◌≤◌, slice_index, inl, inr, below_more, arith}
use Rattle.std.proofs.lemmas.List.{get_or_default}
use Rattle.view_parts.specs.LookUps.{position_known}
use Rattle.view_parts.proofs.Searching.{cost-more}
use Rattle.view_parts.proofs.look_ups.floor_over.Goals as goal

pub loop-thread-preserved : goal.loop-thread-preserved
loop-thread-preserved g c =
    let this = slice_index c.args.threads.now c.loop-thread.thread-index in
    let here : c.floor_at.result ≡ position_known (g.E.ByThread.entries c.args.indexes.now) c.args.clock.now this = rw c.of.ensures at c.floor_at.ensures.found in
    record {
      above = below_more (λ k. position_known (g.E.ByThread.entries c.args.indexes.now) c.args.clock.now (slice_index c.args.threads.now k) ≤ c.greater-greatest.result) _ (λ k h. let q = c.loop-thread.invariant.above k h in omega arith) (omega arith);
      least = λ p h. (let q = c.loop-thread.invariant.least p h in let r = h this in omega arith);
      cost = λ d h. cost-more c.loop-thread.thread-index d c.args.steps.now c.loop-thread.steps c.floor_at.new.steps (c.loop-thread.invariant.cost d h) (c.floor_at.ensures.cost d (h this));
    }

pub returns-clause-above : goal.returns-clause-above
returns-clause-above g c u = elim (c.requires.made u) [
  | inl m ↦ (let e : slice_index c.args.threads.now m.0 ≡ u = get_or_default c.args.threads.now m.0 0 u m.1 ∙ m.2 in rw e at (c.loop-thread.invariant.above m.0 (let l = m.1 in omega arith)))
  | inr e ↦ rw e (omega arith)
]
