-- The demands on written types, in their order.
use Rattle.std.specs.Prelude.{ℕ, zero, suc, ◌+◌, Bool, true, false, not, ◌&&◌, ◌==◌, nat_le, List, [], length, Option, Some, None, slice_get, slice_index, slice_index_or}
use Rattle.std.specs.List.{list_any}
use Rattle.demands.specs.Demands.{Demands, none, demand, ◌⨾◌}
use Rattle.type_definitions.specs.declared.definition.TypeDef.{TypeDef}
use Rattle.type_definitions.specs.declared.definition.TypeDef.TheVariants.{Int, Struct, Array, Hybrid, Void}
use Rattle.type_definitions.specs.Parts.{contains_itself}
use Rattle.type_definitions.specs.Leaves.{leaves}
use Rattle.mu_types.specs.declared.limits.TheConstants.{WIDTHS, LONGEST_ARRAY, MOST_LEAVES}
use Rattle.mu_types.specs.declared.faults.TypeKind.{TypeKind}
use Rattle.mu_types.specs.declared.faults.TypeKind.TheVariants.{EndlessType, WrongArgument, TooManyLeaves}
use Rattle.mu_types.specs.Graph.{Written}
use Rattle.mu_types.specs.Implied.{complete}

-- the demands of so many numbers from the first on, in order
abbrev pub each : (ℕ → Demands TypeKind) → ℕ → ℕ → Demands TypeKind
each demands zero first = none
each demands (suc many) first = demands first ⨾ each demands many (suc first)

-- whether values of the type can be parts of others: not those of void or of a hybrid
abbrev pub can_be_part : Option TypeDef → Bool
can_be_part None = false
can_be_part (Some (Hybrid fixed element)) = false
can_be_part (Some Void) = false
can_be_part _ = true

-- how many arguments of the definition are judged: widths, lengths, fields and elements
abbrev pub judged : TypeDef → ℕ
judged (Int width) = 1
judged (Struct fields) = length fields
judged (Array element size) = 2
judged (Hybrid fixed element) = length fixed + 1
judged _ = 0

-- whether argument k is allowed; of an array the element comes first, then the length
abbrev pub allows : List TypeDef → TypeDef → ℕ → Bool
allows graph (Int width) k = list_any (λ allowed. allowed == width) WIDTHS
allows graph (Struct fields) k = can_be_part (slice_get graph (slice_index fields k))
allows graph (Array element size) zero = can_be_part (slice_get graph element)
allows graph (Array element size) (suc k) = nat_le 1 size && nat_le size LONGEST_ARRAY
allows graph (Hybrid fixed element) k = can_be_part (slice_get graph (slice_index_or fixed k element))
allows graph _ k = true

-- place k of a definition: 0 is that of the name, k + 1 that of argument k; 0 where none is given
abbrev pub place : List (List ℕ) → ℕ → ℕ → ℕ
place places t k = slice_index (slice_index_or places t []) k

abbrev pub wrong_arguments_of : List TypeDef → List (List ℕ) → ℕ → Option TypeDef → Demands TypeKind
wrong_arguments_of graph places t None = none
wrong_arguments_of graph places t (Some d) = each (λ k. demand (place places t (k + 1)) WrongArgument (allows graph d k)) (judged d) 0

-- the arguments of definition t
abbrev pub wrong_arguments : List TypeDef → List (List ℕ) → ℕ → Demands TypeKind
wrong_arguments graph places t = wrong_arguments_of graph places t (slice_get graph t)

-- definition t does not contain itself
abbrev pub endless_type : List TypeDef → List (List ℕ) → ℕ → Demands TypeKind
endless_type graph places t = demand (place places t 0) EndlessType (not (contains_itself graph t))

-- definition t has few leaves; of a hybrid the fixed ones count
abbrev pub too_many_leaves : List TypeDef → List (List ℕ) → ℕ → Demands TypeKind
too_many_leaves graph places t = demand (place places t 0) TooManyLeaves (nat_le (length (leaves graph t)) MOST_LEAVES)

-- three passes over the definitions: the arguments of all, then whether one contains itself, then their leaves
abbrev pub passes : List TypeDef → List (List ℕ) → ℕ → Demands TypeKind
passes graph places many = each (wrong_arguments graph places) many 0 ⨾ each (endless_type graph places) many 0 ⨾ each (too_many_leaves graph places) many 0

-- the demands on a graph of written types
abbrev pub written_demands : Written → Demands TypeKind
written_demands written = passes (complete written.definitions) written.places (length written.definitions)
