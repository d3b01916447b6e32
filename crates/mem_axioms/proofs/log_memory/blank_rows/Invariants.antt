use Rattle.std.proofs.Common.{◌≡◌, false, replicate}
use Rattle.mem_axioms.proofs.log_memory.blank_rows.Given as goal

abbrev pub invariant-loop : goal.invariant-loop
invariant-loop l = l.rows.items ≡ replicate l.counter (replicate l.len false)
