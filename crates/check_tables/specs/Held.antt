-- What a table of types keeps true of what it holds.
-- Contracts inside the crate, and the one that makes a table, cite this.
use Rattle.std.specs.Prelude.{◌≡◌, ℕ, Some, slice_get}
use Rattle.type_definitions.specs.declared.definition.TypeDef.TheVariants.{Void}
use Rattle.type_definitions.specs.Same.{IsGraph}
use Rattle.mu_types.specs.Graph.{Table}

pub record IsHeld (p : Table) (written : ℕ) : Type 0 where
  pub graph : IsGraph p.definitions
  pub count : p.written ≡ written
  pub void : slice_get p.definitions written ≡ Some Void
