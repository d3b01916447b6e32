use Rattle.std.proofs.Common.{◌≡◌, length, []}
use Rattle.demands.specs.Demands.{first_unmet}
use Rattle.bundle_names.specs.Definitions.{blocks_demands}
use Rattle.bundle_names.proofs.blocks.define_blocks.Given as goal

abbrev pub invariant-each : goal.invariant-each
invariant-each l = first_unmet (blocks_demands l.scope l.left) ≡ first_unmet (blocks_demands [] l.fn.blocks)

abbrev pub decreases-each : goal.decreases-each
decreases-each l = length l.left
