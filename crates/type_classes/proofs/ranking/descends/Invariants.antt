use Rattle.std.proofs.Common.{ℕ, ◌<◌, ◌≤◌, slice_get}
use Rattle.std.specs.Prelude.{slice_index}
use Rattle.std.specs.List.{All}
use Rattle.type_definitions.specs.Parts.{parts_at}
use Rattle.type_classes.proofs.ranking.descends.Given as goal

abbrev pub invariant-loop-x : goal.invariant-loop-x
invariant-loop-x l = (a : ℕ) → a < l.x → All (λ p. slice_index l.rank p ≤ slice_index l.rank a) (parts_at (slice_get l.all a))
