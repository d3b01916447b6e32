-- What contracts see of a run that is to begin.
use Rattle.std.specs.Prelude.{ℕ}
use Rattle.mu_model.specs.Run.{Setting}

-- the function that it begins with, what it is given, and how many cells are left of those that it may make
pub record Started : Type 0 where
  pub entry : ℕ
  pub setting : Setting
  pub left : ℕ
