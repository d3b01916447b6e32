use Rattle.std.proofs.Common.{◌≡◌, ◌∙◌, ℕ, Bool, true, false, cond, slice_index, refl, arith}
use Rattle.std.specs.Prelude.{max}
use Rattle.clocks.specs.Tables.{row_at}
use Rattle.view_parts.proofs.rows.Rows.add.Goals as goal

-- a thread that is made by its own event knows what the event does
pick : (own child : Bool) (x y : ℕ) → cond child (max (cond own x y) x) (cond own x y) ≡ cond own x (cond child (max y x) y)
pick true true x y = omega arith
pick true false x y = refl
pick false true x y = refl
pick false false x y = refl

pub returns-clause-added : goal.returns-clause-added
returns-clause-added c = record {
  threads = λ t u. c.start.ensures.joined t u ∙ rw (c.set.ensures.set t u) (pick _ _ (slice_index c.args.clock.now u) (row_at c.args.self.now.threads t u));
  left = c.leave.ensures.put;
  wakes = c.wake.ensures.put;
  fenced = c.fence_off.ensures.set;
  pending = c.pend.ensures.joined;
  joined = c.join_fence.ensures;
  before = c.keep_joined.ensures.put;
  fences = c.index_fence.ensures.entries;
}
