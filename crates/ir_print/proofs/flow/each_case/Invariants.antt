use Rattle.std.proofs.Common.{◌≡◌, ◌++◌, take}
use Rattle.std.specs.List.{flat_map}
use Rattle.ir_print.specs.Words.{text, spaced}
use Rattle.ir_print.specs.Control.{switch_case_words}
use Rattle.ir_print.proofs.flow.each_case.Given as goal

abbrev pub invariant-loop-one : goal.invariant-loop-one
invariant-loop-one l = l.out.items ≡ l.initial.out.items ++ flat_map (λ x. text (switch_case_words spaced x)) (take l.one-index l.cases)
