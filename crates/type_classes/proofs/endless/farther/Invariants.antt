use Rattle.std.proofs.Common.{◌≡◌, ℕ, ◌<◌, ◌||◌, ◌==◌, vec_len, Some, slice_get}
use Rattle.std.specs.List.{list_any}
use Rattle.type_definitions.specs.declared.definition.TypeDef.{TypeDef}
use Rattle.type_definitions.specs.Parts.{parts}
use Rattle.type_classes.specs.Walks.{is_marked}
use Rattle.type_classes.proofs.endless.farther.Given as goal

abbrev pub invariant-loop-x : goal.invariant-loop-x
invariant-loop-x l = record {
  len : vec_len l.next ≡ l.x;
  marked : (x : ℕ) (d : TypeDef) → x < l.x → slice_get l.all x ≡ Some d → is_marked l.next.items x ≡ list_any (λ p. (p == l.goal) || is_marked l.marks p) (parts d);
}
