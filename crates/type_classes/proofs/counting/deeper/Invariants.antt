use Rattle.std.proofs.Common.{◌≡◌, ℕ, ◌<◌, vec_len, Some, slice_get, min}
use Rattle.std.specs.Prelude.{slice_index}
use Rattle.type_definitions.specs.declared.definition.TypeDef.{TypeDef}
use Rattle.type_definitions.specs.Counts.{count_by}
use Rattle.type_classes.specs.declared.counting.TheConstants.{CAP}
use Rattle.type_classes.proofs.counting.deeper.Given as goal

abbrev pub invariant-loop-x : goal.invariant-loop-x
invariant-loop-x l = record {
  len : vec_len l.next ≡ l.x;
  counted : (x : ℕ) (d : TypeDef) → x < l.x → slice_get l.all x ≡ Some d → slice_index l.next.items x ≡ min CAP (count_by (λ p. slice_index l.counts p) d);
}
