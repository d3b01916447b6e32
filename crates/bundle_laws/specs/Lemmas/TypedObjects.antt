-- Instructions that make objects or find places in them, and that meet their demands, fit, one clause a form.
use Rattle.std.proofs.Common.{◌≡◌, ℕ, Bool, true, false, [], ◌∷◌, Option, Some, None, IsSomeAnd, is_some, if◌then◌else◌, refl, sym, ◌∙◌, ap, subst}
use Rattle.demands.specs.Demands.{AllMet}
use Rattle.ir_tree.specs.declared.allocating.Allocation.{Allocation}
use Rattle.ir_tree.specs.declared.allocating.Allocation.TheVariants as allocations
use Rattle.ir_tree.specs.declared.addressing.Addressing.{Addressing}
use Rattle.ir_tree.specs.declared.addressing.Addressing.TheVariants as addressings
use Rattle.type_definitions.specs.declared.definition.TypeDef.TheVariants.{Int, Struct, Array, Hybrid, Void, Ref, Iref, FuncRef, StackRef, ThreadRef, Sig}
use Rattle.type_definitions.specs.declared.definition.TypeDef.{TypeDef}
use Rattle.check_tables.specs.declared.fault.CheckKind.TheVariants.{OperandType}
use Rattle.check_tables.specs.declared.tables.Tables.{Tables}
use Rattle.check_tables.specs.Types.{class_like, definition_at, definition_in, is_type_there, ref_in, iref_in}
use Rattle.check_tables.specs.Lookups.{or_zero, type_named, ref_named, definition_named}
use Rattle.check_tables.specs.TypeTests.{is_index_type, is_sized, is_no_hybrid, is_hybrid, fixed_fields_of, element_of, repeated_of}
use Rattle.checked_code.specs.declared.scopes.Locals.{Locals}
use Rattle.checked_code.specs.Operands.{source_of}
use Rattle.checked_code.specs.Objects.{allocation_demands, allocation_gives, allocation_code, fixed_field_named, addressing_demands, addressing_gives, addressing_code}
use Rattle.bundle_laws.specs.Typed.{SourceFits, nth_fixed_field, has_fixed_field, has_element, AllocationFits, AddressingFits, LocalsFit, TablesFit}
use Rattle.bundle_laws.specs.Lemmas.TypedTables.{is_there_by, gives_object, gives_place, part_gives_place, fixed_field_is_there, element_is_there, repeated_is_there}
use Rattle.bundle_laws.specs.Lemmas.TypedOperands.{operand_fits, of_type_fits, place_fits, field_is, TypeIn, type_of}

-- ---- making

no_hybrid_is_there : (d : Option TypeDef) → is_no_hybrid d ≡ true → is_type_there d ≡ true
no_hybrid_is_there d h = is_there_by is_no_hybrid d refl (λ takes gives. refl) h

hybrid_is_there : (d : Option TypeDef) → is_hybrid d ≡ true → is_type_there d ≡ true
hybrid_is_there d h = is_there_by is_hybrid d refl (λ takes gives. refl) h

sized_is_there : (d : Option TypeDef) → is_sized d ≡ true → is_type_there d ≡ true
sized_is_there d h = is_there_by is_sized d refl (λ takes gives. refl) h

pub allocation_fits : (p : Tables) (ls : Locals) (a : Allocation) → LocalsFit ls → AllMet (allocation_demands p ls a) →
    AllocationFits p ls.classes (allocation_code p ls a) (allocation_gives p a)
allocation_fits p ls (allocations.New t e) fits m =
    let type : TypeIn p (type_named p t) is_no_hybrid = type_of p t is_no_hybrid refl m in (
      type.type,
      gives_object p type.type.number (allocation_gives p (allocations.New t e)) (no_hybrid_is_there (definition_at p.types type.type.number) type.type.passes)
          (ap (λ o. or_zero (ref_in p.types o) ∷ []) type.is),
    )
allocation_fits p ls (allocations.Newhybrid h i n e) fits m =
    let type : TypeIn p (type_named p h) is_hybrid = type_of p h is_hybrid refl m.0 in (
      type.type,
      (type_of p i is_index_type refl m.1.0).type,
      of_type_fits p ls n i fits m.1.1,
      gives_object p type.type.number (allocation_gives p (allocations.Newhybrid h i n e)) (hybrid_is_there (definition_at p.types type.type.number) type.type.passes)
          (ap (λ o. or_zero (ref_in p.types o) ∷ []) type.is),
    )
allocation_fits p ls (allocations.Alloca t e) fits m =
    let type : TypeIn p (type_named p t) is_no_hybrid = type_of p t is_no_hybrid refl m in (
      type.type,
      gives_place p type.type.number (allocation_gives p (allocations.Alloca t e)) (no_hybrid_is_there (definition_at p.types type.type.number) type.type.passes)
          (ap (λ o. or_zero (iref_in p.types o) ∷ []) type.is),
    )

-- ---- finding

known : (b : Bool) (c : ℕ) (P : ℕ → Type 0) → IsSomeAnd (if b then Some c else None) P → b ≡ true
known true c P h = refl
known false c P h = absurd h

-- a type of whose objects there are references is there
type_is_there : (p : Tables) (o : Option ℕ) (P : ℕ → Type 0) → IsSomeAnd (ref_in p.types o) P → is_type_there (definition_in p.types o) ≡ true
type_is_there p None P h = absurd h
type_is_there p (Some t) P h = known (is_type_there (definition_at p.types t)) (class_like p.types.definitions (Ref t)) P h

has_repeated : (d : Option TypeDef) → is_hybrid d ≡ true → is_some (repeated_of d) ≡ true
has_repeated None h = cc
has_repeated (Some (Int width)) h = cc
has_repeated (Some (Struct fields)) h = cc
has_repeated (Some (Array element size)) h = cc
has_repeated (Some (Hybrid fixed element)) h = refl
has_repeated (Some Void) h = cc
has_repeated (Some (Ref t)) h = cc
has_repeated (Some (Iref t)) h = cc
has_repeated (Some (FuncRef s)) h = cc
has_repeated (Some StackRef) h = cc
has_repeated (Some ThreadRef) h = cc
has_repeated (Some (Sig takes gives)) h = cc

pub addressing_fits : (p : Tables) (ls : Locals) (a : Addressing) → TablesFit p → LocalsFit ls → AllMet (addressing_demands p ls a) →
    AddressingFits p ls.classes (addressing_code p ls a) (addressing_gives p a)
addressing_fits p ls (addressings.Getiref t r) tables fits m =
    let object : IsSomeAnd (ref_named p t) (λ c. SourceFits p ls.classes (source_of p ls r) c) = operand_fits p ls OperandType r (ref_named p t) fits m in
    let type : TypeIn p (type_named p t) is_type_there =
    type_of p t is_type_there refl (type_is_there p (type_named p t) (λ c. SourceFits p ls.classes (source_of p ls r) c) object) in (
      type.type,
      subst (λ (x : Option ℕ). IsSomeAnd (ref_in p.types x) (λ c. SourceFits p ls.classes (source_of p ls r) c)) type.is object,
      gives_place p type.type.number (addressing_gives p (addressings.Getiref t r)) type.type.passes (ap (λ o. or_zero (iref_in p.types o) ∷ []) type.is),
    )
addressing_fits p ls (addressings.Getfieldiref t n l) tables fits m =
    let field : fixed_field_named p t n ≡ nth_fixed_field n.number.magnitude (definition_named p t) =
    field_is (fixed_fields_of (definition_named p t)) n.number m.1.0 in
    let type : TypeIn p (type_named p t) (has_fixed_field n.number.magnitude) =
    type_of p t (has_fixed_field n.number.magnitude) refl (sym (ap is_some field) ∙ m.1.0) in (
      type.type,
      place_fits p ls l (type_named p t) type.type.number fits type.is m.1.1,
      part_gives_place p (nth_fixed_field n.number.magnitude (definition_at p.types type.type.number)) (addressing_gives p (addressings.Getfieldiref t n l))
          (λ k e. fixed_field_is_there p type.type.number n.number.magnitude k tables e) type.type.passes
          (ap (λ x. or_zero (iref_in p.types x) ∷ []) (field ∙ ap (λ o. nth_fixed_field n.number.magnitude (definition_in p.types o)) type.is)),
    )
addressing_fits p ls (addressings.Getelemiref t i l x) tables fits m =
    let type : TypeIn p (type_named p t) has_element = type_of p t has_element refl m.0 in (
      type.type,
      (type_of p i is_index_type refl m.1.0).type,
      place_fits p ls l (type_named p t) type.type.number fits type.is m.1.1.0,
      of_type_fits p ls x i fits m.1.1.1,
      part_gives_place p (element_of (definition_at p.types type.type.number)) (addressing_gives p (addressings.Getelemiref t i l x))
          (λ k e. element_is_there p type.type.number k tables e) type.type.passes
          (ap (λ o. or_zero (iref_in p.types (element_of (definition_in p.types o))) ∷ []) type.is),
    )
addressing_fits p ls (addressings.Shiftiref t i l x) tables fits m =
    let type : TypeIn p (type_named p t) is_sized = type_of p t is_sized refl m.0 in (
      type.type,
      (type_of p i is_index_type refl m.1.0).type,
      place_fits p ls l (type_named p t) type.type.number fits type.is m.1.1.0,
      of_type_fits p ls x i fits m.1.1.1,
      gives_place p type.type.number (addressing_gives p (addressings.Shiftiref t i l x)) (sized_is_there (definition_at p.types type.type.number) type.type.passes)
          (ap (λ o. or_zero (iref_in p.types o) ∷ []) type.is),
    )
addressing_fits p ls (addressings.Getvarpartiref h l) tables fits m =
    let type : TypeIn p (type_named p h) is_hybrid = type_of p h is_hybrid refl m.0 in (
      type.type,
      place_fits p ls l (type_named p h) type.type.number fits type.is m.1,
      part_gives_place p (repeated_of (definition_at p.types type.type.number)) (addressing_gives p (addressings.Getvarpartiref h l))
          (λ k e. repeated_is_there p type.type.number k tables e) (has_repeated (definition_at p.types type.type.number) type.type.passes)
          (ap (λ o. or_zero (iref_in p.types (repeated_of (definition_in p.types o))) ∷ []) type.is),
    )
