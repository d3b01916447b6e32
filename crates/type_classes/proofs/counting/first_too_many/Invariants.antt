use Rattle.std.proofs.Common.{◌≡◌, ℕ, ◌<◌, None}
use Rattle.demands.specs.Demands.{first_unmet}
use Rattle.mu_types.specs.TypeDemands.{too_many_leaves}
use Rattle.type_classes.proofs.counting.first_too_many.Given as goal

abbrev pub invariant-loop-t : goal.invariant-loop-t
invariant-loop-t l = (u : ℕ) → u < l.t → first_unmet (too_many_leaves l.all l.places u) ≡ None
