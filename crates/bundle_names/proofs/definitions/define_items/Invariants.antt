use Rattle.std.proofs.Common.{◌≡◌, length}
use Rattle.demands.specs.Demands.{first_unmet}
use Rattle.bundle_names.specs.Globals.{no_globals, with_items}
use Rattle.bundle_names.specs.Definitions.{items_demands}
use Rattle.bundle_names.proofs.definitions.define_items.Given as goal

abbrev pub invariant-each : goal.invariant-each
invariant-each l = record {
  left : first_unmet (items_demands l.globals l.left) ≡ first_unmet (items_demands no_globals l.fn.items);
  made : with_items l.globals l.left ≡ with_items no_globals l.fn.items;
}

abbrev pub decreases-each : goal.decreases-each
decreases-each l = length l.left
