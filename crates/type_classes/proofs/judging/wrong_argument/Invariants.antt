use Rattle.std.proofs.Common.{◌≡◌, ℕ, ◌<◌, true}
use Rattle.mu_types.specs.TypeDemands.{allows}
use Rattle.type_classes.proofs.judging.wrong_argument.Given as goal

abbrev pub invariant-loop-k : goal.invariant-loop-k
invariant-loop-k l = (u : ℕ) → u < l.k → allows l.all l.definition u ≡ true
