use Rattle.std.proofs.Common.{◌≡◌, drop, ◌==◌}
use Rattle.std.specs.List.{list_any}
use Rattle.type_definitions.specs.Parts.{parts}
use Rattle.type_classes.proofs.endless.has_part.Given as goal

abbrev pub invariant-loop-k : goal.invariant-loop-k
invariant-loop-k l = list_any (λ p. p == l.goal) (parts l.definition) ≡ list_any (λ p. p == l.goal) (drop l.k (parts l.definition))
