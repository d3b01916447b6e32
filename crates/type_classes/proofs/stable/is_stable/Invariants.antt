use Rattle.std.proofs.Common.{◌≡◌, ℕ, ◌<◌, true, slice_get}
use Rattle.std.specs.Prelude.{slice_index}
use Rattle.type_definitions.specs.Same.{agree_at}
use Rattle.type_definitions.specs.Partition.{alike_by}
use Rattle.type_classes.proofs.stable.is_stable.Given as goal

abbrev pub invariant-loop-x : goal.invariant-loop-x
invariant-loop-x l = (x : ℕ) → x < l.x → agree_at (alike_by l.p) (slice_get l.definitions x) (slice_get l.definitions (slice_index l.p x)) ≡ true
