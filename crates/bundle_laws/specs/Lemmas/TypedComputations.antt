-- Computations that meet their demands fit, one clause a form.
use Rattle.std.proofs.Common.{◌≡◌, ℕ, true, false, List, [], ◌∷◌, Option, Some, None, IsSomeAnd, is_some, refl, sym, ◌∙◌, ap, subst}
use Rattle.demands.specs.Demands.{AllMet}
use Rattle.ir_tree.specs.declared.computing.Computation.{Computation}
use Rattle.ir_tree.specs.declared.computing.Computation.TheVariants as computations
use Rattle.type_definitions.specs.declared.definition.TypeDef.{TypeDef}
use Rattle.type_definitions.specs.declared.definition.TypeDef.TheVariants.{Int, Struct, Array, Hybrid, Void, Ref, Iref, FuncRef, StackRef, ThreadRef, Sig}
use Rattle.mu_base.specs.declared.operators.CompareOp.{CompareOp}
use Rattle.mu_base.specs.declared.operators.CompareOp.TheVariants as compare_ops
use Rattle.mu_base.specs.declared.operators.ConvertOp.{ConvertOp}
use Rattle.check_tables.specs.declared.fault.CheckKind.TheVariants.{OperandType}
use Rattle.check_tables.specs.declared.tables.Tables.{Tables}
use Rattle.check_tables.specs.Types.{definition_at, definition_in, class_in, int1}
use Rattle.check_tables.specs.Lookups.{or_zero, type_named, class_named, definition_named, leaves_named}
use Rattle.check_tables.specs.TypeTests.{is_int, is_castable, are_cast, is_struct, is_value_type, fields_of}
use Rattle.checked_code.specs.declared.code.Source.{Source}
use Rattle.checked_code.specs.declared.scopes.Locals.{Locals}
use Rattle.checked_code.specs.Operands.{source_of}
use Rattle.checked_code.specs.Computations.{compares, converts, field_named, computation_demands, computation_gives, computation_code}
use Rattle.bundle_laws.specs.Typed.{SourceFits, TypeFits, nth_field, ComputationFits, LocalsFit, TablesFit}
use Rattle.bundle_laws.specs.Lemmas.TypedTables.{part_gives_type, field_is_there}
use Rattle.bundle_laws.specs.Lemmas.TypedOperands.{both_are, same_class, operand_fits, of_type_fits, field_is, TypeIn, type_of, ValueTypeIn, value_type_in}

-- ---- what is not there passes no test

nothing_compares : (op : CompareOp) → compares op None ≡ false
nothing_compares compare_ops.Eq = refl
nothing_compares compare_ops.Ne = refl
nothing_compares _ = refl

nothing_is_converted : (op : ConvertOp) (d : Option TypeDef) → converts op d None ≡ false
nothing_is_converted op (Some (Int width)) = refl
nothing_is_converted op _ = refl

nothing_is_cast : (d : Option TypeDef) → are_cast d None ≡ false
nothing_is_cast None = refl
nothing_is_cast (Some (Int width)) = refl
nothing_is_cast (Some (Struct fields)) = refl
nothing_is_cast (Some (Array element size)) = refl
nothing_is_cast (Some (Hybrid fixed element)) = refl
nothing_is_cast (Some Void) = refl
nothing_is_cast (Some (Ref t)) = refl
nothing_is_cast (Some (Iref t)) = refl
nothing_is_cast (Some (FuncRef s)) = refl
nothing_is_cast (Some StackRef) = refl
nothing_is_cast (Some ThreadRef) = refl
nothing_is_cast (Some (Sig takes gives)) = refl

-- ---- computations

-- a value of the type of a part
part_fits : (p : Tables) (ks : List ℕ) (s : Source) (o : Option ℕ) → IsSomeAnd (class_in p.types o) (λ c. SourceFits p ks s c) → IsSomeAnd o (λ k. TypeFits p ks s k)
part_fits p ks s None h = absurd h
part_fits p ks s (Some k) h = h

pub computation_fits : (p : Tables) (ls : Locals) (c : Computation) → TablesFit p → LocalsFit ls → AllMet (computation_demands p ls c) →
    ComputationFits p ls.classes (computation_code p ls c) (computation_gives p c)
computation_fits p ls (computations.Binary op t a b e) tables fits m =
    ((type_of p t is_int refl m.0).type, of_type_fits p ls a t fits m.1.0, of_type_fits p ls b t fits m.1.1, refl)
computation_fits p ls (computations.Compare op t a b) tables fits m =
    ((type_of p t (compares op) (nothing_compares op) m.0).type, of_type_fits p ls a t fits m.1.0, of_type_fits p ls b t fits m.1.1, refl)
computation_fits p ls (computations.Convert op s t a) tables fits m =
    let from : TypeIn p (type_named p s) is_int = type_of p s is_int refl m.0 in (
      from.type,
      (type_of p t (converts op (definition_at p.types from.type.number)) (nothing_is_converted op (definition_at p.types from.type.number))
          (subst (λ (x : Option ℕ). converts op (definition_in p.types x) (definition_named p t) ≡ true) from.is m.1.0)).type,
      of_type_fits p ls a s fits m.1.1,
      refl,
    )
computation_fits p ls (computations.Refcast s t a) tables fits m =
    let from : TypeIn p (type_named p s) is_castable = type_of p s is_castable refl m.0 in (
      from.type,
      (type_of p t (are_cast (definition_at p.types from.type.number)) (nothing_is_cast (definition_at p.types from.type.number))
          (subst (λ (x : Option ℕ). are_cast (definition_in p.types x) (definition_named p t) ≡ true) from.is m.1.0)).type,
      of_type_fits p ls a s fits m.1.1,
      refl,
    )
computation_fits p ls (computations.Select s t c a b) tables fits m = (
  (value_type_in p (type_named p t) m.1.0).type,
  subst (λ (x : Option ℕ). IsSomeAnd x (λ k. SourceFits p ls.classes (source_of p ls c) k)) (same_class (class_named p s) (Some (int1 p.types)) m.0)
      (operand_fits p ls OperandType c (class_named p s) fits m.1.1.0),
  of_type_fits p ls a t fits m.1.1.1.0,
  of_type_fits p ls b t fits m.1.1.1.1,
  refl,
)
computation_fits p ls (computations.Extractvalue t n a) tables fits m =
    let type : ValueTypeIn p (type_named p t) =
    value_type_in p (type_named p t) (both_are (is_struct (definition_named p t)) (is_value_type (definition_named p t) (leaves_named p t)) m.0.0).1 in
    let field : field_named p t n ≡ nth_field n.number.magnitude (definition_at p.types type.type.number) =
    field_is (fields_of (definition_named p t)) n.number m.0.1 ∙ ap (λ o. nth_field n.number.magnitude (definition_in p.types o)) type.is in (
      type.type,
      of_type_fits p ls a t fits m.1,
      part_gives_type p (nth_field n.number.magnitude (definition_at p.types type.type.number)) (computation_gives p (computations.Extractvalue t n a))
          (λ k e. field_is_there p type.type.number n.number.magnitude k tables e)
          (sym (ap is_some field) ∙ m.0.1)
          (ap (λ x. or_zero (class_in p.types x) ∷ []) field),
    )
computation_fits p ls (computations.Insertvalue t n a b) tables fits m =
    let type : ValueTypeIn p (type_named p t) =
    value_type_in p (type_named p t) (both_are (is_struct (definition_named p t)) (is_value_type (definition_named p t) (leaves_named p t)) m.0.0).1 in
    let field : field_named p t n ≡ nth_field n.number.magnitude (definition_at p.types type.type.number) =
    field_is (fields_of (definition_named p t)) n.number m.0.1 ∙ ap (λ o. nth_field n.number.magnitude (definition_in p.types o)) type.is in (
      type.type,
      of_type_fits p ls a t fits m.1.0,
      part_fits p ls.classes (source_of p ls b) (nth_field n.number.magnitude (definition_at p.types type.type.number))
          (subst (λ (x : Option ℕ). IsSomeAnd (class_in p.types x) (λ k. SourceFits p ls.classes (source_of p ls b) k)) field
          (operand_fits p ls OperandType b (class_in p.types (field_named p t n)) fits m.1.1)),
      refl,
    )
