use Rattle.std.proofs.Common.{◌≡◌, ◌+◌, ◌^◌, ◌<◌, length}
use Rattle.hail_load.specs.Parts.{size_of, indexed}
use Rattle.hail_load.specs.Fitting.{next_indexes}
use Rattle.hail_load.specs.Answering.{IsThere}
use Rattle.hail_load.proofs.indexes.indexed_by.Given as goal

abbrev pub invariant-each : goal.invariant-each
invariant-each l = record {
  told : indexed l.classes.definitions l.spot (next_indexes l.left) ≡ indexed l.classes.definitions l.fn.from (next_indexes l.fn.pieces);
  part : IsThere l.classes.definitions l.spot.part;
  room : l.spot.at + size_of l.classes.definitions l.spot.part < 2 ^ 32;
}

abbrev pub decreases-each : goal.decreases-each
decreases-each l = length l.left
