use Rattle.std.proofs.Common.{◌≡◌, ◌++◌, take, codes}
use Rattle.std.specs.List.{flat_map}
use Rattle.run_texts.specs.EventTexts.{scalar_text}
use Rattle.run_print.proofs.values.more_scalars.Given as goal

abbrev pub invariant-loop-scalar : goal.invariant-loop-scalar
invariant-loop-scalar l = l.out.items ≡ l.initial.out.items ++ flat_map (λ s. codes " " ++ scalar_text l.code s) (take l.scalar-index l.scalars)
