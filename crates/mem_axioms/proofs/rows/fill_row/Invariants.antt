use Rattle.std.proofs.Common.{◌≡◌, ℕ, ◌&&◌, ◌||◌, ◌==◌, length, reverse, take}
use Rattle.mem_axioms.specs.Logs.{any_event}
use Rattle.mem_axioms.specs.HappensBefore.{precedes, happens_before}
use Rattle.mem_axioms.specs.Flags.{flag}
use Rattle.mem_axioms.proofs.rows.fill_row.Given as goal

abbrev pub invariant-loop-k : goal.invariant-loop-k
invariant-loop-k l = record {
  size : length l.row ≡ length l.initial.row;
  right : (i : ℕ) → flag l.row i ≡ any_event (λ k ek. precedes l.rule (reverse l.events) k ek l.next && ((k == i) || happens_before l.rule (reverse l.events) i k)) (reverse (take l.k l.events));
}
