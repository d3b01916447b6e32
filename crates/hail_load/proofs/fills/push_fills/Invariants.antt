use Rattle.std.proofs.Common.{◌≡◌, ◌+◌, ◌++◌, length, take}
use Rattle.hail_load.specs.Fills.{fills_of}
use Rattle.hail_load.specs.Gathered.{gathered}
use Rattle.hail_load.proofs.fills.push_fills.Given as goal

abbrev pub invariant-loop-run : goal.invariant-loop-run
invariant-loop-run l = record {
  at : l.at ≡ l.fn.at + length (gathered (take l.run-index l.runs));
  fills : l.fills.items ≡ l.fn.fills.items ++ fills_of l.object l.fn.at (take l.run-index l.runs);
}
