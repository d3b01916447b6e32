use Rattle.std.proofs.Common.{◌≡◌, ℕ, ◌+◌, ◌-◌, ◌<◌, ◌≤◌, length}
use Rattle.hail_load.specs.Fills.{row_of, uncovered_in}
use Rattle.hail_load.proofs.fills.reach.Given as goal

abbrev pub invariant-each : goal.invariant-each
invariant-each l = record {
  same : (n : ℕ) → row_of l.rows.items n ≡ row_of l.fn.rows.items n;
  more : length l.fn.rows.items ≤ length l.rows.items;
  cells : uncovered_in l.rows.items ≡ uncovered_in l.fn.rows.items;
  few : (most : ℕ) → length l.fn.rows.items ≤ most → l.object < most → length l.rows.items ≤ most;
}

abbrev pub decreases-each : goal.decreases-each
decreases-each l = (l.object + 1) - length l.rows.items
