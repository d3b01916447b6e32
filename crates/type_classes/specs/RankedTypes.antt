-- Types whose leaves are listed by rank, class by class.
-- Contracts inside the crate cite this; no public one does, so no reader of those needs it.
use Rattle.std.proofs.Common.{◌≡◌, ℕ, ◌^◌, ◌<◌, Bool, List, length}
use Rattle.std.specs.Prelude.{Vec}
use Rattle.std.specs.Global.{Global}
use Rattle.type_definitions.specs.declared.definition.TypeDef.{TypeDef}
use Rattle.type_definitions.specs.Same.{IsGraph}
use Rattle.type_definitions.specs.Partition.{IsLeast}
use Rattle.type_definitions.specs.Ranks.{AreRanked}
use Rattle.type_classes.specs.Listings.{RowsDone, DoneTo}
use Rattle.type_classes.specs.Ordered.{IsOrder}
use Rattle.mu_types.specs.Rows.{lists}

-- each type has its class, and a rank above those of its parts; the order has the type with each rank
pub record AreRankedTypes (g : List TypeDef) (class rank order : List ℕ) : Type 0 where
  pub graph : IsGraph g
  pub least : IsLeast g class
  pub few : length g < 2 ^ 32
  pub ranked : AreRanked g rank
  pub ordered : IsOrder (length g) rank order

-- the rows of the classes that are done are right, and those of the types of the first i ranks are done
pub record AreDone (g : List TypeDef) (class rank : List ℕ) (rows : List (Vec ℕ Global)) (done : List Bool) (i : ℕ) : Type 0 where
  pub rowed : length rows ≡ length g
  pub marked : length done ≡ length g
  pub held : RowsDone g (lists rows) done
  pub found : DoneTo g class rank done i
