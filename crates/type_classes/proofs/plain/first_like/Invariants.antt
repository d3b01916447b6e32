use Rattle.std.proofs.Common.{◌≡◌, ℕ, ◌<◌, false, slice_get}
use Rattle.type_definitions.specs.Same.{agree_at}
use Rattle.type_definitions.specs.Partition.{alike_by}
use Rattle.type_classes.proofs.plain.first_like.Given as goal

abbrev pub invariant-loop-y : goal.invariant-loop-y
invariant-loop-y l = (y : ℕ) → y < l.y → agree_at (alike_by l.p) (slice_get l.definitions y) (slice_get l.definitions l.x) ≡ false
