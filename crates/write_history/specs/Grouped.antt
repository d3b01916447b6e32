-- What is kept of the positions of a cell: how many earlier ones have their value, and their order.
use Rattle.std.specs.Prelude.{◌≡◌, ℕ, List, length}
use Rattle.mu_values.specs.declared.scalars.Scalar.{Scalar}
use Rattle.write_history.specs.ByValue.{AreRuns}
use Rattle.write_history.specs.Searching.{AreRanks}
use Rattle.write_history.specs.declared.runs.Starts.{Starts}

pub record IsGrouped (values : List Scalar) (ranks order : List ℕ) (starts : Starts) : Type 0 where
  pub ranked : AreRanks values ranks
  pub runs : AreRuns values order starts
  pub size : length order ≡ length values
