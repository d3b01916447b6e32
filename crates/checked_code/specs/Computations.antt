-- Instructions that compute a value from values: for each form its demands from left to right, what it gives, and its code.
use Rattle.std.specs.Prelude.{ℕ, Bool, false, List, [], ◌∷◌, Option, Some, is_some, ◌&&◌}
use Rattle.demands.specs.Demands.{Demands, demand, ◌⨾◌}
use Rattle.ir_lex.specs.declared.name.Name.{Name}
use Rattle.ir_lex.specs.declared.name.Numeral.{Numeral}
use Rattle.mu_base.specs.declared.operators.CompareOp.{CompareOp}
use Rattle.mu_base.specs.declared.operators.CompareOp.TheVariants as compare_ops
use Rattle.mu_base.specs.declared.operators.ConvertOp.{ConvertOp}
use Rattle.ir_tree.specs.declared.computing.Computation.{Computation}
use Rattle.ir_tree.specs.declared.computing.Computation.TheVariants as computations
use Rattle.type_definitions.specs.declared.definition.TypeDef.{TypeDef}
use Rattle.type_definitions.specs.declared.definition.TypeDef.TheVariants.{Int}
use Rattle.mu_values.specs.Integers.{is_conversion}
use Rattle.check_tables.specs.declared.fault.CheckKind.{CheckKind}
use Rattle.check_tables.specs.declared.fault.CheckKind.TheVariants.{OperandType, BadIndex}
use Rattle.check_tables.specs.declared.tables.Tables.{Tables}
use Rattle.check_tables.specs.Types.{class_in, int1}
use Rattle.check_tables.specs.Lookups.{or_zero, class_named, noted_class, definition_named, leaves_named}
use Rattle.check_tables.specs.TypeTests.{is_int, is_scalar, is_value_type, is_castable, are_cast, is_struct, fields_of, field_at}
use Rattle.checked_code.specs.declared.code.ComputationForm.{ComputationForm}
use Rattle.checked_code.specs.declared.code.ComputationForm.TheVariants as forms
use Rattle.checked_code.specs.declared.scopes.Locals.{Locals}
use Rattle.checked_code.specs.Operands.{operand_demands, of_type, is_class, type_demand, value_type_demand, source_of}

-- EQ and NE compare all scalars, the orders ints alone
abbrev pub compares : CompareOp → Option TypeDef → Bool
compares compare_ops.Eq d = is_scalar d
compares compare_ops.Ne d = is_scalar d
compares _ d = is_int d

-- TRUNC, ZEXT and SEXT lead from an int to an int, of a width that `is_conversion` allows
abbrev pub converts : ConvertOp → Option TypeDef → Option TypeDef → Bool
converts op (Some (Int from)) (Some (Int to)) = is_conversion op from to
converts _ _ _ = false

-- ---- fields

-- the field of a struct with a number as it is written
abbrev pub field_named : Tables → Name → Numeral → Option ℕ
field_named p t n = field_at (fields_of (definition_named p t)) n.number

-- a struct that is a value type, and one of its fields
abbrev pub field_demands : Tables → Name → Numeral → Demands CheckKind
field_demands p t n =
    type_demand t (is_struct (definition_named p t) && is_value_type (definition_named p t) (leaves_named p t))
    ⨾ demand n.place BadIndex (is_some (field_named p t n))

-- ---- the forms

abbrev pub computation_demands : Tables → Locals → Computation → Demands CheckKind
-- BIN < T > a b exc?: T int; a, b: T
computation_demands p ls (computations.Binary op t a b e) = type_demand t (is_int (definition_named p t)) ⨾ of_type p ls a t ⨾ of_type p ls b t
-- CMP < T > a b: T scalar for EQ and NE, else int; a, b: T
computation_demands p ls (computations.Compare op t a b) = type_demand t (compares op (definition_named p t)) ⨾ of_type p ls a t ⨾ of_type p ls b t
-- TRUNC < A B > a, ZEXT, SEXT: A, B int; B not wider, or not narrower; a: A
computation_demands p ls (computations.Convert op s t a) =
    type_demand s (is_int (definition_named p s)) ⨾ type_demand t (converts op (definition_named p s) (definition_named p t)) ⨾ of_type p ls a s
-- REFCAST < A B > a: both ref, both iref or both funcref; a: A
computation_demands p ls (computations.Refcast s t a) =
    type_demand s (is_castable (definition_named p s)) ⨾ type_demand t (are_cast (definition_named p s) (definition_named p t)) ⨾ of_type p ls a s
-- SELECT < C T > c a b: C int<1>; T value type; c: C; a, b: T
computation_demands p ls (computations.Select s t c a b) =
    type_demand s (is_class (class_named p s) (Some (int1 p.types))) ⨾ value_type_demand p t ⨾ of_type p ls c s ⨾ of_type p ls a t ⨾ of_type p ls b t
-- EXTRACTVALUE < T n > a: T struct, a value type; n one of its fields; a: T
computation_demands p ls (computations.Extractvalue t n a) = field_demands p t n ⨾ of_type p ls a t
-- INSERTVALUE < T n > a b: the same; b: the field's type
computation_demands p ls (computations.Insertvalue t n a b) =
    field_demands p t n ⨾ of_type p ls a t ⨾ operand_demands p ls OperandType b (class_in p.types (field_named p t n))

-- the classes of the results
abbrev pub computation_gives : Tables → Computation → List ℕ
computation_gives p (computations.Binary op t a b e) = noted_class p t ∷ []
computation_gives p (computations.Compare op t a b) = int1 p.types ∷ []
computation_gives p (computations.Convert op s t a) = noted_class p t ∷ []
computation_gives p (computations.Refcast s t a) = noted_class p t ∷ []
computation_gives p (computations.Select s t c a b) = noted_class p t ∷ []
computation_gives p (computations.Extractvalue t n a) = or_zero (class_in p.types (field_named p t n)) ∷ []
computation_gives p (computations.Insertvalue t n a b) = noted_class p t ∷ []

abbrev pub computation_code : Tables → Locals → Computation → ComputationForm
computation_code p ls (computations.Binary op t a b e) = forms.Binary op (noted_class p t) (source_of p ls a) (source_of p ls b)
computation_code p ls (computations.Compare op t a b) = forms.Compare op (noted_class p t) (source_of p ls a) (source_of p ls b)
computation_code p ls (computations.Convert op s t a) = forms.Convert op (noted_class p s) (noted_class p t) (source_of p ls a)
computation_code p ls (computations.Refcast s t a) = forms.Refcast (noted_class p s) (noted_class p t) (source_of p ls a)
computation_code p ls (computations.Select s t c a b) = forms.Select (noted_class p t) (source_of p ls c) (source_of p ls a) (source_of p ls b)
computation_code p ls (computations.Extractvalue t n a) = forms.Extractvalue (noted_class p t) n.number.magnitude (source_of p ls a)
computation_code p ls (computations.Insertvalue t n a b) = forms.Insertvalue (noted_class p t) n.number.magnitude (source_of p ls a) (source_of p ls b)
