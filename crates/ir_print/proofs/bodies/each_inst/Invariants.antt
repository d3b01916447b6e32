use Rattle.std.proofs.Common.{◌≡◌, ◌++◌, take}
use Rattle.std.specs.List.{flat_map}
use Rattle.ir_print.specs.Words.{text, indented}
use Rattle.ir_print.specs.Instructions.{inst_words}
use Rattle.ir_print.proofs.bodies.each_inst.Given as goal

abbrev pub invariant-loop-one : goal.invariant-loop-one
invariant-loop-one l = l.out.items ≡ l.initial.out.items ++ flat_map (λ x. text (inst_words indented x)) (take l.one-index l.insts)
