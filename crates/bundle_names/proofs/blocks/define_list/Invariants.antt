use Rattle.std.proofs.Common.{◌≡◌, length}
use Rattle.demands.specs.Demands.{first_unmet}
use Rattle.bundle_names.specs.Definitions.{list_demands, with_list}
use Rattle.bundle_names.proofs.blocks.define_list.Given as goal

abbrev pub invariant-each : goal.invariant-each
invariant-each l = record {
  left : first_unmet (list_demands l.scope l.left) ≡ first_unmet (list_demands l.fn.scope l.fn.names);
  made : with_list l.scope l.left ≡ with_list l.fn.scope l.fn.names;
}

abbrev pub decreases-each : goal.decreases-each
decreases-each l = length l.left
