-- What contracts see of a tape, a history and an index: what it holds, and `spare`, how many more it takes without a refusal.
use Rattle.std.specs.Prelude.{ℕ, List}
use Rattle.mu_values.specs.declared.scalars.Scalar.{Scalar}
use Rattle.mem_axioms.specs.declared.types.Event.{Event}
use Rattle.write_history.specs.declared.access_index.Entry.{Entry}

-- the events, newest first
pub record Events : Type 0 where
  pub events : List Event
  pub spare : ℕ

-- the values of a cell, by position
pub record Values : Type 0 where
  pub values : List Scalar
  pub spare : ℕ

-- the accesses, newest first
pub record Accesses : Type 0 where
  pub accesses : List Entry
  pub spare : ℕ
