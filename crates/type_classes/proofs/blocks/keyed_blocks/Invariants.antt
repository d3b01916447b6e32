use Rattle.std.proofs.Common.{◌≡◌, ℕ, ◌<◌, vec_len, Some, slice_get}
use Rattle.std.specs.Prelude.{slice_index}
use Rattle.std.specs.BTreeMap.{get}
use Rattle.std.specs.Ordering.{nat_cmp}
use Rattle.type_definitions.specs.declared.definition.TypeDef.{TypeDef}
use Rattle.type_classes.specs.Keys.{key_of}
use Rattle.type_classes.proofs.blocks.keyed_blocks.Given as goal

abbrev pub invariant-loop-x : goal.invariant-loop-x
invariant-loop-x l = record {
  len : vec_len l.all ≡ l.x;
  keyed : (u : ℕ) (d : TypeDef) → u < l.x → slice_get l.definitions u ≡ Some d → get nat_cmp l.blocks (key_of d) ≡ Some (slice_index l.all.items u);
}
