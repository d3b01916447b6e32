use Rattle.std.proofs.Common.{◌≡◌, map, take}
use Rattle.mu_model.specs.Types.{zero_value}
use Rattle.client_hooks.proofs.view.blank_values.Given as goal

abbrev pub invariant-loop-class : goal.invariant-loop-class
invariant-loop-class l = l.values.values ≡ map (zero_value l.tables) (take l.class-index l.asked)
