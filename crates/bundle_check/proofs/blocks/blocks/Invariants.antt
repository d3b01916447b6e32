use Rattle.std.proofs.Common.{◌≡◌, ◌++◌, length}
use Rattle.demands.specs.Demands.{first_unmet}
use Rattle.checked_code.specs.Blocks.{blocks_demands, blocks_code}
use Rattle.bundle_check.proofs.blocks.blocks.Given as goal

abbrev pub invariant-each : goal.invariant-each
invariant-each l = record {
  left : first_unmet (blocks_demands l.tables l.body l.left) ≡ first_unmet (blocks_demands l.tables l.body l.fn.blocks);
  made : l.all ++ blocks_code l.tables l.body l.item l.at l.left ≡ l.fn.all ++ blocks_code l.tables l.body l.item 0 l.fn.blocks;
}

abbrev pub decreases-each : goal.decreases-each
decreases-each l = length l.left
