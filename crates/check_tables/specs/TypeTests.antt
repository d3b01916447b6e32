-- What the forms of instructions ask of the types that they name, by the types' definitions.
use Rattle.std.specs.Prelude.{ℕ, Bool, true, false, List, Option, Some, None, length, slice_get, is_some, nat_eq, nat_le, if◌then◌else◌, ◌&&◌}
use Rattle.ir_lex.specs.declared.token.Number.{Number}
pub use Rattle.type_definitions.specs.Scalars.{is_scalar}
use Rattle.type_definitions.specs.declared.definition.TypeDef.{TypeDef}
use Rattle.type_definitions.specs.declared.definition.TypeDef.TheVariants.{Int, Struct, Array, Hybrid, Void, Ref, Iref, FuncRef, StackRef, ThreadRef}

abbrev pub is_int : Option TypeDef → Bool
is_int (Some (Int width)) = true
is_int _ = false

-- neither void nor a hybrid
abbrev pub is_sized : Option TypeDef → Bool
is_sized (Some (Int width)) = true
is_sized (Some (Struct fields)) = true
is_sized (Some (Array element size)) = true
is_sized (Some (Ref t)) = true
is_sized (Some (Iref t)) = true
is_sized (Some (FuncRef s)) = true
is_sized (Some StackRef) = true
is_sized (Some ThreadRef) = true
is_sized _ = false

-- all types but hybrids
abbrev pub is_no_hybrid : Option TypeDef → Bool
is_no_hybrid (Some Void) = true
is_no_hybrid d = is_sized d

-- variables have value types: neither void nor a hybrid, with at most 256 leaves
abbrev pub most_leaves_of_a_variable : ℕ
most_leaves_of_a_variable = 256

abbrev pub is_value_type : Option TypeDef → List ℕ → Bool
is_value_type d leaves = is_sized d && nat_le (length leaves) most_leaves_of_a_variable

-- both are references to objects, both to places, or both to functions
abbrev pub are_cast : Option TypeDef → Option TypeDef → Bool
are_cast (Some (Ref t)) (Some (Ref u)) = true
are_cast (Some (Iref t)) (Some (Iref u)) = true
are_cast (Some (FuncRef s)) (Some (FuncRef r)) = true
are_cast _ _ = false

-- such a reference, which may be cast
abbrev pub is_castable : Option TypeDef → Bool
is_castable d = are_cast d d

-- the fields of a struct
abbrev pub fields_of : Option TypeDef → Option (List ℕ)
fields_of (Some (Struct fields)) = Some fields
fields_of _ = None

abbrev pub is_struct : Option TypeDef → Bool
is_struct d = is_some (fields_of d)

-- the fields that a place of the type has: those of a struct, and the fixed ones of a hybrid
abbrev pub fixed_fields_of : Option TypeDef → Option (List ℕ)
fixed_fields_of (Some (Struct fields)) = Some fields
fixed_fields_of (Some (Hybrid fixed element)) = Some fixed
fixed_fields_of _ = None

-- the field with a number as it is written, counted from 0
abbrev pub field_at : Option (List ℕ) → Number → Option ℕ
field_at None n = None
field_at (Some fields) n = if n.negative then None else slice_get fields n.magnitude

-- the element of an array
abbrev pub element_of : Option TypeDef → Option ℕ
element_of (Some (Array element size)) = Some element
element_of _ = None

-- the element that a hybrid has any number of
abbrev pub repeated_of : Option TypeDef → Option ℕ
repeated_of (Some (Hybrid fixed element)) = Some element
repeated_of _ = None

abbrev pub is_hybrid : Option TypeDef → Bool
is_hybrid d = is_some (repeated_of d)

-- an int of 64 bits
abbrev pub is_int64 : Option TypeDef → Bool
is_int64 (Some (Int width)) = nat_eq width 64
is_int64 _ = false

-- an index or a count of elements is an int of at most 64 bits
abbrev pub most_bits_of_an_index : ℕ
most_bits_of_an_index = 64

abbrev pub is_index_type : Option TypeDef → Bool
is_index_type (Some (Int width)) = nat_le width most_bits_of_an_index
is_index_type _ = false
