-- A partition while it is refined, and what it is refined by.
-- Contracts inside the crate cite this; no public one does, so no reader of those needs it.
use Rattle.std.proofs.Common.{◌≡◌, ℕ, ◌<◌, List, length}
use Rattle.std.specs.Prelude.{Vec}
use Rattle.std.specs.Global.{Global}
use Rattle.type_definitions.specs.declared.definition.TypeDef.{TypeDef}
use Rattle.type_definitions.specs.Same.{IsGraph}
use Rattle.type_definitions.specs.Partition.{Keeps}
use Rattle.type_classes.specs.declared.edges.Edge.{Edge}
use Rattle.type_classes.specs.declared.refine.Partition.{Partition}
use Rattle.type_classes.specs.Blocks.{Listed}
use Rattle.type_classes.specs.Leads.{AreClosed, IsBackward, IsForward}
use Rattle.mu_types.specs.Rows.{lists, Holds}
use Rattle.type_classes.specs.Targets.{TargetsFit}

-- each type has a block, which keeps the same types together and lists its own; each block goes to one that there is
pub record IsFit (g : List TypeDef) (p : Partition) : Type 0 where
  pub sized : length p.block.items ≡ length g
  pub keeps : Keeps g p.block.items
  pub listed : Listed p.block.items (lists p.members.items)
  pub target : TargetsFit p.target.items (length p.members.items)

-- each bucket holds types of the graph, and with a type those that are the same
pub record AreFilled (g : List TypeDef) (buckets : List (Vec ℕ Global)) : Type 0 where
  pub within : (k x : ℕ) → Holds (lists buckets) k x → x < length g
  pub closed : AreClosed g (lists buckets)

-- the arguments of a graph are known where they lead, and no others
pub record AreLinked (g : List TypeDef) (preds : List (Vec Edge Global)) : Type 0 where
  pub graph : IsGraph g
  pub back : IsBackward g (lists preds)
  pub forward : IsForward g (lists preds)
