-- The members of literals, and which constants are made. No public contract cites this, so no reader of those needs it.
use Rattle.std.specs.Prelude.{◌≡◌, ℕ, ◌<◌, ◌≤◌, Bool, true, false, List, [], map, length, Option, Some, None, slice_get, slice_index_or}
use Rattle.std.specs.List.{All, list_all}
use Rattle.demands.specs.Demands.{first_unmet}
use Rattle.type_definitions.specs.declared.definition.TypeDef.{TypeDef}
use Rattle.type_definitions.specs.Same.{IsGraph}
use Rattle.type_definitions.specs.Laws.{IsFinite}
use Rattle.mu_values.specs.declared.scalars.Scalar.{Scalar}
use Rattle.mu_values.specs.declared.literals.LiteralKind.{LiteralKind}
use Rattle.mu_values.specs.declared.literals.LiteralKind.TheVariants as literals
use Rattle.mu_values.specs.Constants.{width_of, constant_demands, constant_value, HasMembers}
use Rattle.checked_code.specs.declared.constants.Constant.{Constant}
use Rattle.checked_code.specs.ConstantValues.{told, values_to}

abbrev pub types_of : List Constant → List ℕ
types_of cs = map (λ (c : Constant). c.of_type) cs

-- what is known of the constants of a bundle whose items meet their demands
pub record Lawful (g : List TypeDef) (cs : List Constant) : Type 0 where
  pub graph : IsGraph g
  pub some : 0 < length g
  pub finite : IsFinite g
  pub widths : (t w : ℕ) → width_of (slice_get g t) ≡ Some w → (1 ≤ w) × (w ≤ 128)
  pub typed : All (λ (c : Constant). c.of_type < length g) cs
  pub members : All (λ (c : Constant). HasMembers (length cs) c.literal.kind) cs
  pub judged : (n : ℕ) (c : Constant) → slice_get cs n ≡ Some c → first_unmet (constant_demands g (types_of cs) c.of_type c.literal) ≡ None

abbrev pub members_of : LiteralKind → List ℕ
members_of (literals.Members members places) = members
members_of _ = []

-- whether constant n is made
abbrev pub is_made : List Bool → ℕ → Bool
is_made done n = slice_index_or done n false

-- whether all members of a literal are made
abbrev pub is_ready : List Bool → LiteralKind → Bool
is_ready done kind = list_all (is_made done) (members_of kind)

abbrev pub is_ready_at : List Bool → Option Constant → Bool
is_ready_at done None = true
is_ready_at done (Some c) = is_ready done c.literal.kind

-- the value of a constant where those of its members are told
abbrev pub value_by : List TypeDef → (ℕ → List Scalar) → Option Constant → List Scalar
value_by g of None = []
value_by g of (Some c) = constant_value g of c.of_type c.literal

-- the value of constant n
abbrev pub value_of : List TypeDef → List Constant → ℕ → List Scalar
value_of g cs n = told (values_to g cs (length g)) n
