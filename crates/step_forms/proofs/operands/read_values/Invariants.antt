use Rattle.std.proofs.Common.{◌≡◌, Some, take}
use Rattle.model_numbers.specs.Sources.{values_at}
use Rattle.step_forms.proofs.operands.read_values.Given as goal

abbrev pub invariant-loop-n : goal.invariant-loop-n
invariant-loop-n l = values_at l.code l.vars (take l.n l.sources) ≡ Some l.out.values
