use Rattle.std.proofs.Common.{◌≡◌, ◌++◌, take}
use Rattle.std.specs.Prelude.{codes, decimal}
use Rattle.std.specs.List.{flat_map}
use Rattle.search_texts.proofs.texts.numbers.Given as goal

abbrev pub invariant-loop-pick : goal.invariant-loop-pick
invariant-loop-pick l = l.out.items ≡ l.initial.out.items ++ flat_map (λ p. codes " " ++ decimal p) (take l.pick-index l.picks)
