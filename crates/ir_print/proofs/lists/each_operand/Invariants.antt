use Rattle.std.proofs.Common.{◌≡◌, ◌++◌, take}
use Rattle.std.specs.List.{flat_map}
use Rattle.ir_print.specs.Words.{text, spaced}
use Rattle.ir_print.specs.Lists.{value_words}
use Rattle.ir_print.proofs.lists.each_operand.Given as goal

abbrev pub invariant-loop-one : goal.invariant-loop-one
invariant-loop-one l = l.out.items ≡ l.initial.out.items ++ flat_map (λ x. text (value_words spaced x)) (take l.one-index l.operands)
