use Rattle.std.proofs.Common.{◌≡◌, length}
use Rattle.demands.specs.Demands.{first_unmet}
use Rattle.bundle_names.specs.ItemUses.{item_uses}
use Rattle.bundle_names.proofs.items.use_in_items.Given as goal

abbrev pub invariant-each : goal.invariant-each
invariant-each l = first_unmet (item_uses l.globals l.left) ≡ first_unmet (item_uses l.globals l.fn.items)

abbrev pub decreases-each : goal.decreases-each
decreases-each l = length l.left
