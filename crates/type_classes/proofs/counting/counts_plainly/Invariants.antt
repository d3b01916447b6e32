use Rattle.std.proofs.Common.{◌≡◌, ℕ, length, vec_len}
use Rattle.std.specs.Prelude.{slice_index}
use Rattle.type_classes.specs.declared.counting.TheConstants.{CAP}
use Rattle.type_classes.specs.Levels.{Counts}
use Rattle.type_classes.proofs.counting.counts_plainly.Given as goal

abbrev pub invariant-loop-i : goal.invariant-loop-i
invariant-loop-i l = record {
  len : vec_len l.counts ≡ l.i;
  none : (x : ℕ) → slice_index l.counts.items x ≡ 0;
}

abbrev pub invariant-loop-depth : goal.invariant-loop-depth
invariant-loop-depth l = record {
  len : vec_len l.counts ≡ length l.all;
  counts : Counts l.all l.depth CAP l.counts.items;
}
