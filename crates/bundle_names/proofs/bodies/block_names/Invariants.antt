use Rattle.std.proofs.Common.{◌≡◌, length, []}
use Rattle.bundle_names.specs.BodyUses.{with_blocks}
use Rattle.bundle_names.proofs.bodies.block_names.Given as goal

abbrev pub invariant-each : goal.invariant-each
invariant-each l = with_blocks l.scope l.left ≡ with_blocks [] l.fn.blocks

abbrev pub decreases-each : goal.decreases-each
decreases-each l = length l.left
