use Rattle.std.proofs.Common.{◌≡◌, length, []}
use Rattle.demands.specs.Demands.{first_unmet}
use Rattle.bundle_names.specs.Definitions.{insts_demands, with_head}
use Rattle.bundle_names.proofs.blocks.define_block.Given as goal

abbrev pub invariant-each : goal.invariant-each
invariant-each l = first_unmet (insts_demands l.scope l.left) ≡ first_unmet (insts_demands (with_head [] l.block.head) l.block.insts)

abbrev pub decreases-each : goal.decreases-each
decreases-each l = length l.left
