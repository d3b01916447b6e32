use Rattle.std.proofs.Common.{◌≡◌, ℕ, ◌<◌, ◌≤◌, ◌||◌}
use Rattle.mem_axioms.specs.Flags.{flag}
use Rattle.mem_axioms.proofs.rows.join_flags.Given as goal

abbrev pub invariant-loop-i : goal.invariant-loop-i
invariant-loop-i l = record {
  low : (k : ℕ) → k < l.i → flag l.flags k ≡ (flag l.initial.flags k || flag l.other k);
  high : (k : ℕ) → l.i ≤ k → flag l.flags k ≡ flag l.initial.flags k;
}
