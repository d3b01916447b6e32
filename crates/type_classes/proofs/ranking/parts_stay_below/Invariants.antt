use Rattle.std.proofs.Common.{take, ◌<◌}
use Rattle.std.specs.Prelude.{slice_index}
use Rattle.std.specs.List.{All}
use Rattle.type_definitions.specs.Parts.{parts}
use Rattle.type_classes.proofs.ranking.parts_stay_below.Given as goal

abbrev pub invariant-loop-k : goal.invariant-loop-k
invariant-loop-k l = All (λ p. slice_index l.rank p < l.top) (take l.k (parts l.definition))
