use Rattle.std.proofs.Common.{◌≡◌, ℕ, ◌<◌, length}
use Rattle.std.specs.Prelude.{slice_index}
use Rattle.type_definitions.specs.Ranks.{IsFree}
use Rattle.type_classes.proofs.ranking.is_ordered.Given as goal

abbrev pub invariant-loop-x : goal.invariant-loop-x
invariant-loop-x l = record {
  within : (a : ℕ) → a < l.x → slice_index l.rank a < length l.all;
  order : (a : ℕ) → a < l.x → slice_index l.order (slice_index l.rank a) ≡ a;
  free : (a : ℕ) → a < l.x → IsFree l.all l.rank a;
}
