use Rattle.std.proofs.Common.{◌≡◌, length}
use Rattle.demands.specs.Demands.{first_unmet}
use Rattle.bundle_names.specs.Definitions.{list_demands, with_list, parameter_names}
use Rattle.bundle_names.proofs.blocks.define_parameters.Given as goal

abbrev pub invariant-each : goal.invariant-each
invariant-each l = record {
  left :
      first_unmet (list_demands l.scope (parameter_names l.left))
      ≡ first_unmet (list_demands l.fn.scope (parameter_names l.fn.parameters));
  made : with_list l.scope (parameter_names l.left) ≡ with_list l.fn.scope (parameter_names l.fn.parameters);
}

abbrev pub decreases-each : goal.decreases-each
decreases-each l = length l.left
