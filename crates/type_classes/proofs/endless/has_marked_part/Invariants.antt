use Rattle.std.proofs.Common.{◌≡◌, drop, ◌||◌, ◌==◌}
use Rattle.std.specs.List.{list_any}
use Rattle.type_definitions.specs.Parts.{parts}
use Rattle.type_classes.specs.Walks.{is_marked}
use Rattle.type_classes.proofs.endless.has_marked_part.Given as goal

abbrev pub invariant-loop-k : goal.invariant-loop-k
invariant-loop-k l = list_any (λ p. (p == l.goal) || is_marked l.marks p) (parts l.definition) ≡ list_any (λ p. (p == l.goal) || is_marked l.marks p) (drop l.k (parts l.definition))
