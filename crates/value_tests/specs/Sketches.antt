-- What a graph that is being drawn keeps true, and how many definitions a finished one has.
use Rattle.std.specs.Prelude.{◌≡◌, ℕ, ◌+◌, ◌*◌, ◌<◌, ◌≤◌, List, length}
use Rattle.std.specs.List.{All}
use Rattle.type_definitions.specs.declared.definition.TypeDef.{TypeDef}
use Rattle.type_definitions.specs.Definition.{arguments}
use Rattle.mu_types.specs.Implied.{complete}

-- so many definitions; so many with the implied ones: at most three for each, and seven; and each argument below a number
pub record IsDrawn (g : List TypeDef) (count whole top : ℕ) : Type 0 where
  pub counted : length g ≡ count
  pub completed : length (complete g) ≡ whole
  pub few : whole ≤ 3 * count + 7
  pub below : All (λ d. All (λ y. y < top) (arguments d)) g
