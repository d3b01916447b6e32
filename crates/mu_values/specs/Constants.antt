-- Constants: the demands on a literal by its type, and the value that it has.
use Rattle.std.specs.Prelude.{◌≡◌, ℕ, ◌<◌, Result, Ok, Err, zero, suc, ◌-◌, ◌^◌, Bool, true, false, pos, neg_ℤ, List, [], ◌∷◌, length, Option, Some, None, slice_get, slice_index, nat_eq, nat_lt, nat_le, if◌then◌else◌}
use Rattle.std.specs.List.{All, flat_map}
use Rattle.std.specs.BTreeMap.{get}
use Rattle.std.specs.Ordering.{nat_cmp}
use Rattle.mu_base.specs.Lists.{Roomy}
use Rattle.demands.specs.Demands.{Demands, none, demand, ◌⨾◌, first_unmet}
use Rattle.demands.specs.declared.fault.Fault.TheVariants.{At}
use Rattle.type_definitions.specs.declared.definition.TypeDef.{TypeDef}
use Rattle.type_definitions.specs.declared.definition.TypeDef.TheVariants.{Struct, Array, Ref, Iref, FuncRef, StackRef, ThreadRef}
use Rattle.type_definitions.specs.declared.definition.TypeDef.TheVariants as types
use Rattle.type_definitions.specs.Same.{same}
use Rattle.mu_values.specs.declared.scalars.Scalar.{Scalar}
use Rattle.mu_values.specs.declared.scalars.Scalar.TheVariants.{Int, Null}
use Rattle.mu_values.specs.declared.literals.Literal.{Literal}
use Rattle.mu_values.specs.declared.literals.LiteralKind.{LiteralKind}
use Rattle.mu_values.specs.declared.literals.LiteralKind.TheVariants as literals
use Rattle.mu_values.specs.declared.literals.ConstFault.{ConstFault}
use Rattle.mu_values.specs.declared.literals.ConstKind.{ConstKind}
use Rattle.mu_values.specs.declared.literals.ConstKind.TheVariants.{OutOfWidth, WrongShape, NotNullable}
use Rattle.mu_values.specs.declared.made.Made.{Made}
use Rattle.mu_values.specs.Integers.{bits_of}

-- ---- what a type asks

-- the width of an int, None for every other type
abbrev pub width_of : Option TypeDef → Option ℕ
width_of (Some (types.Int width)) = Some width
width_of _ = None

abbrev pub is_reference : Option TypeDef → Bool
is_reference (Some (Ref t)) = true
is_reference (Some (Iref t)) = true
is_reference (Some (FuncRef s)) = true
is_reference (Some StackRef) = true
is_reference (Some ThreadRef) = true
is_reference _ = false

-- how many members a value has that is written as a list: structs and arrays alone have such values
abbrev pub member_count : Option TypeDef → Option ℕ
member_count (Some (Struct fields)) = Some (length fields)
member_count (Some (Array element size)) = Some size
member_count _ = None

-- the type of member k: of a struct that of field k, of an array that of its elements
abbrev pub member_type : Option TypeDef → ℕ → ℕ
member_type (Some (Struct fields)) k = slice_index fields k
member_type (Some (Array element size)) k = element
member_type _ k = 0

-- ---- demands

-- at least -2^(w-1) and less than 2^w
abbrev pub fits : Bool → ℕ → ℕ → Bool
fits negative magnitude w = if negative then nat_le magnitude (2 ^ (w - 1)) else nat_lt magnitude (2 ^ w)

-- a number is for an int, and fits its width
abbrev pub number_demands : ℕ → Option ℕ → Bool → ℕ → Demands ConstKind
number_demands place None negative magnitude = demand place WrongShape false
number_demands place (Some w) negative magnitude = demand place OutOfWidth (fits negative magnitude w)

abbrev pub is_count : Option ℕ → ℕ → Bool
is_count None n = false
is_count (Some m) n = nat_eq m n

-- the demands of so many members, from member k on: each is a constant of the type of its member
abbrev pub member_demands : List TypeDef → List ℕ → Option TypeDef → List ℕ → List ℕ → ℕ → ℕ → Demands ConstKind
member_demands graph constants d members places zero k = none
member_demands graph constants d members places (suc many) k =
    demand (slice_index places k) WrongShape (same graph (slice_index constants (slice_index members k)) (member_type d k))
    ⨾ member_demands graph constants d members places many (suc k)

-- a literal at a place for a type with this definition; the constants are given by their types
abbrev pub kind_demands : List TypeDef → List ℕ → Option TypeDef → ℕ → LiteralKind → Demands ConstKind
kind_demands graph constants d place (literals.Number negative magnitude) = number_demands place (width_of d) negative magnitude
kind_demands graph constants d place literals.Null = demand place NotNullable (is_reference d)
kind_demands graph constants d place (literals.Members members places) =
    demand place WrongShape (is_count (member_count d) (length members))
    ⨾ member_demands graph constants d members places (length members) 0

abbrev pub constant_demands : List TypeDef → List ℕ → ℕ → Literal → Demands ConstKind
constant_demands graph constants t literal = kind_demands graph constants (slice_get graph t) literal.place literal.kind

-- the members of a literal are constants, of which there are so many
abbrev pub HasMembers : ℕ → LiteralKind → Type 0
HasMembers many (literals.Members members places) = All (λ n. n < many) members
HasMembers many _ = Unit {0}

-- what judging answers: nothing where all demands are met, else the first that is not
abbrev pub Judged : Demands ConstKind → Result (Unit {0}) ConstFault → Type 0
Judged ds (Ok x) = first_unmet ds ≡ None
Judged ds (Err fault) = first_unmet ds ≡ Some (At fault.kind fault.place)

-- ---- values

-- the bits of a number
abbrev pub number_bits : ℕ → Bool → ℕ → ℕ
number_bits w negative magnitude = bits_of w (if negative then neg_ℤ (pos magnitude) else pos magnitude)

abbrev pub number_value : Option ℕ → Bool → ℕ → List Scalar
number_value None negative magnitude = []
number_value (Some w) negative magnitude = Int w (number_bits w negative magnitude) ∷ []

-- the value of a literal, where those of the constants are told
abbrev pub kind_value : (ℕ → List Scalar) → Option TypeDef → LiteralKind → List Scalar
kind_value of d (literals.Number negative magnitude) = number_value (width_of d) negative magnitude
kind_value of d literals.Null = Null ∷ []
kind_value of d (literals.Members members places) = flat_map of members

abbrev pub constant_value : List TypeDef → (ℕ → List Scalar) → ℕ → Literal → List Scalar
constant_value graph of t literal = kind_value of (slice_get graph t) literal.kind

-- the value of constant n among those that are made; one that is not made has no scalars
abbrev pub scalars_of : Option (Roomy Scalar) → List Scalar
scalars_of None = []
scalars_of (Some value) = value.members

abbrev pub value_at : Made → ℕ → List Scalar
value_at made n = scalars_of (get nat_cmp made.values n)
