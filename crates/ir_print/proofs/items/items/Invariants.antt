use Rattle.std.proofs.Common.{◌≡◌, ◌++◌, take}
use Rattle.ir_print.specs.Items.{bundle_text}
use Rattle.ir_print.proofs.items.items.Given as goal

abbrev pub invariant-loop-one : goal.invariant-loop-one
invariant-loop-one l = l.out.items ≡ l.initial.out.items ++ bundle_text (take l.one-index l.bundle)
