use Rattle.std.proofs.Common.{◌≡◌, ◌++◌, drop, zip}
use Rattle.mu_base.specs.Files.{IsPrefix}
use Rattle.run_texts.specs.EventTexts.{spaced, value_text}
use Rattle.run_print.proofs.values.values_text.Given as goal

-- what is left of the values is still to be appended
abbrev pub invariant-loop-n : goal.invariant-loop-n
invariant-loop-n l = (l.out.items ++ spaced (value_text l.code) (drop l.n (zip l.values.types l.values.values)) ≡ l.initial.out.items ++ spaced (value_text l.code) (zip l.values.types l.values.values)) × IsPrefix l.initial.out.items l.out.items
