-- Instructions that compute a value from values. An operand is an option: where it has no value, or none of the kind that
-- is wanted, there is no act.
use Rattle.std.specs.Prelude.{ℕ, ◌+◌, Bool, true, false, List, [], ◌∷◌, ◌++◌, Option, Some, None, nat_eq, length, take, drop, slice_get, if◌then◌else◌, ◌&&◌}
use Rattle.ir_tree.specs.declared.computing.Computation.{Computation}
use Rattle.ir_tree.specs.declared.computing.Computation.TheVariants as computations
use Rattle.mu_values.specs.declared.scalars.Scalar.{Scalar}
use Rattle.mu_values.specs.declared.scalars.Scalar.TheVariants.{Int}
use Rattle.mu_base.specs.declared.operators.BinaryOp.{BinaryOp}
use Rattle.mu_base.specs.declared.operators.CompareOp.{CompareOp}
use Rattle.mu_base.specs.declared.operators.ConvertOp.{ConvertOp}
use Rattle.mu_values.specs.Integers.{binary_value, converted, is_conversion}
use Rattle.mu_values.specs.Comparisons.{compared}
use Rattle.check_tables.specs.declared.tables.Tables.{Tables}
use Rattle.check_tables.specs.TypeTests.{fields_of}
use Rattle.typed_heap.specs.Objects.{leaf_classes}
use Rattle.typed_heap.specs.Places.{with_some, leaves_together}
use Rattle.frames.specs.Activations.{Value}
use Rattle.mu_model.specs.declared.endings.Case.TheVariants as cases
use Rattle.mu_model.specs.Types.{type_graph, class_definition, class_width}
use Rattle.mu_model.specs.Acts.{Act, Gives, Faults, Casts}
use Rattle.mu_model.specs.Operands.{Scope, tables_in, class, value_named, scalar_in, is_width, is_integer, bits_in}

-- ---- BIN: a zero divisor is a fault

abbrev pub result_or_fault : ℕ → Option ℕ → Act
result_or_fault w None = Faults cases.DivideByZero
result_or_fault w (Some n) = Gives ((Int w n ∷ []) ∷ [])

abbrev pub binary_act : Tables → BinaryOp → ℕ → Option Value → Option Value → Option Act
binary_act p op c a b =
    with_some (class_width p c) (λ w. with_some (bits_in (Some w) a) (λ x. with_some (bits_in (Some w) b) (λ y. Some (result_or_fault w (binary_value op w x y)))))

-- ---- CMP

abbrev pub bit : Bool → ℕ
bit true = 1
bit false = 0

-- integers are of one width
abbrev pub are_comparable : Scalar → Scalar → Bool
are_comparable (Int w m) (Int v n) = nat_eq w v && is_integer w m && is_integer v n
are_comparable _ _ = true

abbrev pub compare_act : CompareOp → Option Value → Option Value → Option Act
compare_act op a b =
    with_some (scalar_in a) (λ x. with_some (scalar_in b) (λ y. if are_comparable x y then Some (Gives ((Int 1 (bit (compared op x y)) ∷ []) ∷ [])) else None))

-- ---- TRUNC, ZEXT, SEXT

-- to an int of 1 to 128 bits, of a width that `is_conversion` allows
abbrev pub leads_to : ConvertOp → ℕ → ℕ → Bool
leads_to op from to = is_width to && is_conversion op from to

abbrev pub convert_act : Tables → ConvertOp → ℕ → ℕ → Option Value → Option Act
convert_act p op c d a =
    with_some (class_width p c) (λ w. with_some (class_width p d) (λ v. with_some (bits_in (Some w) a) (λ n.
    if leads_to op w v then Some (Gives ((Int v (converted op w v n) ∷ []) ∷ [])) else None)))

-- ---- REFCAST

-- one act on one scalar
abbrev pub scalar_act : (Scalar → Act) → Option Value → Option Act
scalar_act act v = with_some (scalar_in v) (λ s. Some (act s))

abbrev pub refcast_act : ℕ → Option Value → Option Act
refcast_act d v = scalar_act (Casts d) v

-- ---- SELECT

abbrev pub select_act : Option Value → Option Value → Option Value → Option Act
select_act c a b = with_some (bits_in (Some 1) c) (λ n. with_some a (λ x. with_some b (λ y. Some (Gives ((if nat_eq n 1 then x else y) ∷ [])))))

-- ---- EXTRACTVALUE and INSERTVALUE

-- how many leaves stand before a field of a struct, and how many it has
pub record Part : Type 0 where
  pub before : ℕ
  pub size : ℕ

abbrev pub part_of : Tables → ℕ → ℕ → Option Part
part_of p c n =
    with_some (fields_of (class_definition p c)) (λ fields. with_some (slice_get fields n) (λ t.
    Some (record { before = leaves_together (type_graph p) (take n fields); size = length (leaf_classes (type_graph p) t) })))

-- the scalars of the field
abbrev pub extractvalue_act : Tables → ℕ → ℕ → Option Value → Option Act
extractvalue_act p c n a = with_some (part_of p c n) (λ q. with_some a (λ v. Some (Gives (take q.size (drop q.before v) ∷ []))))

-- the same value with these scalars in their place
abbrev pub insertvalue_act : Tables → ℕ → ℕ → Option Value → Option Value → Option Act
insertvalue_act p c n a b =
    with_some (part_of p c n) (λ q. with_some a (λ v. with_some b (λ u. Some (Gives ((take q.before v ++ u ++ drop (q.before + q.size) v) ∷ [])))))

-- ---- by name

abbrev pub computation_act : Scope → List Value → Computation → Option Act
computation_act s vars (computations.Binary op t a b e) = binary_act (tables_in s) op (class s t) (value_named s vars a) (value_named s vars b)
computation_act s vars (computations.Compare op t a b) = compare_act op (value_named s vars a) (value_named s vars b)
computation_act s vars (computations.Convert op t u a) = convert_act (tables_in s) op (class s t) (class s u) (value_named s vars a)
computation_act s vars (computations.Refcast t u a) = refcast_act (class s u) (value_named s vars a)
computation_act s vars (computations.Select t u c a b) = select_act (value_named s vars c) (value_named s vars a) (value_named s vars b)
computation_act s vars (computations.Extractvalue t n a) = extractvalue_act (tables_in s) (class s t) n.number.magnitude (value_named s vars a)
computation_act s vars (computations.Insertvalue t n a b) =
    insertvalue_act (tables_in s) (class s t) n.number.magnitude (value_named s vars a) (value_named s vars b)
