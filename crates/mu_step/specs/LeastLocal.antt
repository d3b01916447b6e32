-- The place of the thread whose local step comes first.
use Rattle.std.specs.Prelude.{◌≡◌, ℕ, Option, Some, None, slice_get, IsSomeAnd}
use Rattle.mu_model.specs.Configuration.{Configuration}
use Rattle.mu_model.specs.Acts.{Program}
use Rattle.mu_model.specs.Step.{runnable}
use Rattle.local_steps.specs.IsLocal.{least_local}

-- At this place among the threads that may make the next step stands the least one whose step is local; or there is none.
abbrev pub IsLeastAt : Program → Configuration → Option ℕ → Type 0
IsLeastAt p c (Some place) = IsSomeAnd (slice_get (runnable c) place) (λ i. least_local p c ≡ Some i)
IsLeastAt p c None = least_local p c ≡ None
