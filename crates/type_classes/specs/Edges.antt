-- Edges as pairs of a place and a type.
-- Contracts inside the crate cite this; no public one does, so no reader of those needs it.
use Rattle.std.proofs.Common.{ℕ}
use Rattle.type_classes.specs.declared.edges.Edge.{Edge}

abbrev pub edge_of : ℕ → ℕ → Edge
edge_of k x = record { place = k; from = x }
