-- What is known of the code of a bundle that meets its demands.
-- Contracts inside the crate cite this; no public one does, so no reader of those needs it.
use Rattle.std.specs.Prelude.{◌≡◌, ℕ, ◌<◌, ◌≤◌, List, [], Some, length, slice_get, slice_index_or}
use Rattle.std.specs.List.{All}
use Rattle.name_scopes.specs.Names.{found}
use Rattle.type_definitions.specs.Same.{IsGraph}
use Rattle.mu_values.specs.Constants.{width_of}
use Rattle.check_tables.specs.Lookups.{written_number}
use Rattle.typed_heap.specs.Objects.{leaf_classes}
use Rattle.hail_load.specs.Code.{Code}
use Rattle.hail_load.specs.Rooms.{AreSized}

-- every int has 1 to 128 bits, the types of globals and those that names stand for are in the graph, types have the leaves of their parts,
-- and constants have a scalar for each leaf
pub record IsKnown (c : Code) : Type 0 where
  pub graph : IsGraph c.graph
  pub widths : (t w : ℕ) → width_of (slice_get c.graph t) ≡ Some w → (1 ≤ w) × (w ≤ 128)
  pub globals : All (λ t. t < length c.graph) c.globals
  pub types : (name : List ℕ) (t : ℕ) → written_number (found c.names name) ≡ Some t → t < length c.graph
  pub sizes : AreSized c.graph
  pub constants : (n t : ℕ) → slice_get c.constants n ≡ Some t → length (slice_index_or c.values n []) ≡ length (leaf_classes c.graph t)
