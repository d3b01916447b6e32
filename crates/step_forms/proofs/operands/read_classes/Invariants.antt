use Rattle.std.proofs.Common.{◌≡◌, Some, take}
use Rattle.checked_code.specs.Checking.{bundle_tables}
use Rattle.model_numbers.specs.Sources.{classes_at}
use Rattle.step_forms.proofs.operands.read_classes.Given as goal

abbrev pub invariant-loop-n : goal.invariant-loop-n
invariant-loop-n l = classes_at (bundle_tables l.code) l.types (take l.n l.sources) ≡ Some l.out.members
