use Rattle.std.proofs.Common.{◌≡◌, Some, take, map}
use Rattle.std.specs.Prelude.{slice_get}
use Rattle.mu_model.specs.Operands.{all_some}
use Rattle.step_forms.proofs.operands.kept_classes.Given as goal

abbrev pub invariant-loop-n : goal.invariant-loop-n
invariant-loop-n l = all_some (map (slice_get l.types) (take l.n l.names)) ≡ Some l.out.members
