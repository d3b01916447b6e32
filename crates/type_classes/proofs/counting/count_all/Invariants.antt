use Rattle.std.proofs.Common.{◌≡◌, length, min}
use Rattle.type_definitions.specs.Leaves.{leaves}
use Rattle.type_classes.specs.declared.counting.TheConstants.{CAP}
use Rattle.type_classes.specs.Ordered.{Found}
use Rattle.type_classes.proofs.counting.count_all.Given as goal

abbrev pub invariant-loop-i : goal.invariant-loop-i
invariant-loop-i l = record {
  len : length l.counts ≡ length l.all;
  found : Found 0 (length l.all) l.rank (λ x. min CAP (length (leaves l.all x))) l.counts l.i;
}
