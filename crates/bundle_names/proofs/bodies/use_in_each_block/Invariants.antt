use Rattle.std.proofs.Common.{◌≡◌, length}
use Rattle.demands.specs.Demands.{first_unmet}
use Rattle.bundle_names.specs.BodyUses.{block_uses}
use Rattle.bundle_names.proofs.bodies.use_in_each_block.Given as goal

abbrev pub invariant-each : goal.invariant-each
invariant-each l = first_unmet (block_uses l.globals l.function l.left) ≡ first_unmet (block_uses l.globals l.function l.fn.blocks)

abbrev pub decreases-each : goal.decreases-each
decreases-each l = length l.left
