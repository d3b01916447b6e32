use Rattle.std.proofs.Common.{◌≡◌, ℕ, ◌<◌, None}
use Rattle.demands.specs.Demands.{first_unmet}
use Rattle.mu_types.specs.TypeDemands.{endless_type}
use Rattle.type_classes.proofs.endless.first_endless.Given as goal

abbrev pub invariant-loop-t : goal.invariant-loop-t
invariant-loop-t l = (u : ℕ) → u < l.t → first_unmet (endless_type l.all l.places u) ≡ None
