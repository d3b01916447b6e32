use Rattle.std.proofs.Common.{◌≡◌, ℕ, vec_len, []}
use Rattle.std.specs.Prelude.{slice_index_or}
use Rattle.mu_types.specs.Rows.{lists}
use Rattle.type_classes.proofs.blocks.empty_rows.Given as goal

abbrev pub invariant-loop-i : goal.invariant-loop-i
invariant-loop-i l = record {
  len : vec_len l.rows ≡ l.i;
  empty : (x : ℕ) → slice_index_or (lists l.rows.items) x [] ≡ [];
}
