use Rattle.std.proofs.Common.{◌≡◌, ℕ, ◌<◌, None}
use Rattle.demands.specs.Demands.{first_unmet}
use Rattle.mu_types.specs.TypeDemands.{wrong_arguments}
use Rattle.type_classes.proofs.judging.first_wrong_argument.Given as goal

abbrev pub invariant-loop-t : goal.invariant-loop-t
invariant-loop-t l = (u : ℕ) → u < l.t → first_unmet (wrong_arguments l.all l.places u) ≡ None
