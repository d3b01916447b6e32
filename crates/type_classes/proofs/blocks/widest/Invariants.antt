use Rattle.std.proofs.Common.{◌≡◌, ℕ, ◌<◌, ◌≤◌, Some, length, slice_get}
use Rattle.type_definitions.specs.declared.definition.TypeDef.{TypeDef}
use Rattle.type_definitions.specs.Definition.{arguments}
use Rattle.type_classes.proofs.blocks.widest.Given as goal

abbrev pub invariant-loop-x : goal.invariant-loop-x
invariant-loop-x l = (u : ℕ) (d : TypeDef) → u < l.x → slice_get l.definitions u ≡ Some d → length (arguments d) ≤ l.width
