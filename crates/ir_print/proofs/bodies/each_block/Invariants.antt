use Rattle.std.proofs.Common.{◌≡◌, ◌++◌, take}
use Rattle.std.specs.List.{flat_map}
use Rattle.ir_print.specs.Words.{text, on_new_line}
use Rattle.ir_print.specs.Bodies.{block_words}
use Rattle.ir_print.proofs.bodies.each_block.Given as goal

abbrev pub invariant-loop-one : goal.invariant-loop-one
invariant-loop-one l = l.out.items ≡ l.initial.out.items ++ flat_map (λ x. text (block_words on_new_line x)) (take l.one-index l.blocks)
