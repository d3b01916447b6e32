-- Instructions that make objects, and those that find places in them: for each form its demands from left to right, what it
-- gives, and its code.
use Rattle.std.specs.Prelude.{ℕ, List, [], ◌∷◌, Option, is_some}
use Rattle.demands.specs.Demands.{Demands, demand, ◌⨾◌}
use Rattle.ir_lex.specs.declared.name.Name.{Name}
use Rattle.ir_lex.specs.declared.name.Numeral.{Numeral}
use Rattle.ir_tree.specs.declared.operands.Operand.{Operand}
use Rattle.ir_tree.specs.declared.allocating.Allocation.{Allocation}
use Rattle.ir_tree.specs.declared.allocating.Allocation.TheVariants as allocations
use Rattle.ir_tree.specs.declared.addressing.Addressing.{Addressing}
use Rattle.ir_tree.specs.declared.addressing.Addressing.TheVariants as addressings
use Rattle.check_tables.specs.declared.fault.CheckKind.{CheckKind}
use Rattle.check_tables.specs.declared.fault.CheckKind.TheVariants.{OperandType, BadIndex}
use Rattle.check_tables.specs.declared.tables.Tables.{Tables}
use Rattle.check_tables.specs.Types.{iref_in}
use Rattle.check_tables.specs.Lookups.{or_zero, noted_class, definition_named, ref_named, iref_named}
use Rattle.check_tables.specs.TypeTests.{is_index_type, is_sized, is_no_hybrid, is_hybrid, fixed_fields_of, field_at, element_of, repeated_of}
use Rattle.checked_code.specs.declared.code.AllocationForm.{AllocationForm}
use Rattle.checked_code.specs.declared.code.AllocationForm.TheVariants as makings
use Rattle.checked_code.specs.declared.code.AddressingForm.{AddressingForm}
use Rattle.checked_code.specs.declared.code.AddressingForm.TheVariants as findings
use Rattle.checked_code.specs.declared.scopes.Locals.{Locals}
use Rattle.checked_code.specs.Operands.{operand_demands, of_type, type_demand, source_of}

-- ---- making

abbrev pub allocation_demands : Tables → Locals → Allocation → Demands CheckKind
-- NEW < T > exc?: T no hybrid
allocation_demands p ls (allocations.New t e) = type_demand t (is_no_hybrid (definition_named p t))
-- NEWHYBRID < H I > n exc?: H hybrid; I int of at most 64 bits; n: I
allocation_demands p ls (allocations.Newhybrid h i n e) =
    type_demand h (is_hybrid (definition_named p h)) ⨾ type_demand i (is_index_type (definition_named p i)) ⨾ of_type p ls n i
-- ALLOCA < T > exc?: T no hybrid
allocation_demands p ls (allocations.Alloca t e) = type_demand t (is_no_hybrid (definition_named p t))

-- the classes of the results
abbrev pub allocation_gives : Tables → Allocation → List ℕ
allocation_gives p (allocations.New t e) = or_zero (ref_named p t) ∷ []
allocation_gives p (allocations.Newhybrid h i n e) = or_zero (ref_named p h) ∷ []
allocation_gives p (allocations.Alloca t e) = or_zero (iref_named p t) ∷ []

abbrev pub allocation_code : Tables → Locals → Allocation → AllocationForm
allocation_code p ls (allocations.New t e) = makings.New (noted_class p t)
allocation_code p ls (allocations.Newhybrid h i n e) = makings.Newhybrid (noted_class p h) (noted_class p i) (source_of p ls n)
allocation_code p ls (allocations.Alloca t e) = makings.Alloca (noted_class p t)

-- ---- finding

-- an operand that is a reference to a place of the type with this name, and one to an object of it
abbrev pub place_of_type : Tables → Locals → Operand → Name → Demands CheckKind
place_of_type p ls o t = operand_demands p ls OperandType o (iref_named p t)

abbrev pub object_of_type : Tables → Locals → Operand → Name → Demands CheckKind
object_of_type p ls o t = operand_demands p ls OperandType o (ref_named p t)

-- the field of a struct, or the fixed field of a hybrid, with a number as it is written
abbrev pub fixed_field_named : Tables → Name → Numeral → Option ℕ
fixed_field_named p t n = field_at (fixed_fields_of (definition_named p t)) n.number

abbrev pub addressing_demands : Tables → Locals → Addressing → Demands CheckKind
-- GETIREF < T > r: r: ref<T>
addressing_demands p ls (addressings.Getiref t r) = object_of_type p ls r t
-- GETFIELDIREF < T n > p: T struct or hybrid; n a field or a fixed field; p: iref<T>
addressing_demands p ls (addressings.Getfieldiref t n l) =
    type_demand t (is_some (fixed_fields_of (definition_named p t))) ⨾ demand n.place BadIndex (is_some (fixed_field_named p t n)) ⨾ place_of_type p ls l t
-- GETELEMIREF < T I > p i: T array; I int of at most 64 bits; p: iref<T>; i: I
addressing_demands p ls (addressings.Getelemiref t i l x) =
    type_demand t (is_some (element_of (definition_named p t))) ⨾ type_demand i (is_index_type (definition_named p i)) ⨾ place_of_type p ls l t ⨾ of_type p ls x i
-- SHIFTIREF < T I > p i: T neither void nor hybrid; I int of at most 64 bits; p: iref<T>; i: I
addressing_demands p ls (addressings.Shiftiref t i l x) =
    type_demand t (is_sized (definition_named p t)) ⨾ type_demand i (is_index_type (definition_named p i)) ⨾ place_of_type p ls l t ⨾ of_type p ls x i
-- GETVARPARTIREF < H > p: H hybrid; p: iref<H>
addressing_demands p ls (addressings.Getvarpartiref h l) = type_demand h (is_hybrid (definition_named p h)) ⨾ place_of_type p ls l h

-- the classes of the results
abbrev pub addressing_gives : Tables → Addressing → List ℕ
addressing_gives p (addressings.Getiref t r) = or_zero (iref_named p t) ∷ []
addressing_gives p (addressings.Getfieldiref t n l) = or_zero (iref_in p.types (fixed_field_named p t n)) ∷ []
addressing_gives p (addressings.Getelemiref t i l x) = or_zero (iref_in p.types (element_of (definition_named p t))) ∷ []
addressing_gives p (addressings.Shiftiref t i l x) = or_zero (iref_named p t) ∷ []
addressing_gives p (addressings.Getvarpartiref h l) = or_zero (iref_in p.types (repeated_of (definition_named p h))) ∷ []

abbrev pub addressing_code : Tables → Locals → Addressing → AddressingForm
addressing_code p ls (addressings.Getiref t r) = findings.Getiref (noted_class p t) (source_of p ls r)
addressing_code p ls (addressings.Getfieldiref t n l) = findings.Getfieldiref (noted_class p t) n.number.magnitude (source_of p ls l)
addressing_code p ls (addressings.Getelemiref t i l x) = findings.Getelemiref (noted_class p t) (noted_class p i) (source_of p ls l) (source_of p ls x)
addressing_code p ls (addressings.Shiftiref t i l x) = findings.Shiftiref (noted_class p t) (noted_class p i) (source_of p ls l) (source_of p ls x)
addressing_code p ls (addressings.Getvarpartiref h l) = findings.Getvarpartiref (noted_class p h) (source_of p ls l)
