-- The types that every bundle has, and what holds of parts, widths and zeros.
use Rattle.std.proofs.Common.{◌≡◌, ℕ, ◌<◌, true, Option, Some, nat_lt, slice_get, refl, sym, ◌∙◌, ap, subst, arith}
use Rattle.type_definitions.specs.declared.definition.TypeDef.{TypeDef}
use Rattle.type_definitions.specs.declared.definition.TypeDef.TheVariants.{Int, Ref, StackRef, ThreadRef}
use Rattle.type_definitions.specs.Class.{class_of}
use Rattle.type_definitions.specs.Parts.{parts, parts_at}
use Rattle.type_definitions.specs.Scalars.{is_scalar}
use Rattle.type_definitions.specs.Lemmas.Proved.{congruence}
use Rattle.check_tables.specs.declared.tables.Tables.{Tables}
use Rattle.check_tables.specs.Types.{class_like, definition_at, class_at, is_type_there, ref_void}
use Rattle.check_tables.specs.Lemmas.Like.{class_is_like}
use Rattle.bundle_laws.specs.Typed.{TablesFit}
use Rattle.model_laws.specs.Places.{IsScalarClass, HasTypes}
use Rattle.bundle_facts.specs.Facts.{RefersTo}
use Rattle.bundle_facts.specs.Lemmas.Shapes.{class_leaves, leaves_of_parts}
use Rattle.bundle_facts.specs.Lemmas.Completed.{IsComplete, written_there}
use Rattle.bundle_facts.specs.Lemmas.References.{refers, ref_is}

pub below_is : (n many : ℕ) → n < many → nat_lt n many ≡ true
below_is n many l = grind (arith, l)

pub part_class : (p : Tables) (t n k : ℕ) (d : TypeDef) → TablesFit p → definition_at p.types t ≡ Some d → slice_get (parts d) n ≡ Some k → class_at p.types k ≡ Some (class_of p.types.definitions k)
part_class p t n k d fit e h =
    let there = written_there p.types k is_type_there refl (fit.parts t n k (subst (λ (o : Option TypeDef). slice_get (parts_at o) n ≡ Some k) (sym e) h)) in
    rw (below_is k p.types.written there.1) refl

-- ---- the types that every bundle has

scalar_class : (p : Tables) (d : TypeDef) → IsComplete p.types → is_scalar (Some d) ≡ true → slice_get p.types.definitions (class_like p.types.definitions d) ≡ Some d →
    IsScalarClass p (class_like p.types.definitions d) d
scalar_class p d known s there =
    let g = p.types.definitions in
    let own : class_of g (class_like g d) ≡ class_like g d = class_is_like g (congruence g known.graph) (class_like g d) d there in
    record { leaf = (leaves_of_parts g known.graph known.finite).scalar (class_like g d) own (ap is_scalar there ∙ s); definition = there }

pub has_types : (p : Tables) → IsComplete p.types → HasTypes p
has_types p known =
    let g = p.types.definitions in
    let void : RefersTo g (ref_void p.types) Ref p.types.written = refers g known.graph known.finite Ref (ref_is g) p.types.written known.void in
    record {
      int1 = scalar_class p (Int 1) known refl known.defined.int1;
      int32 = scalar_class p (Int 32) known refl known.defined.int32;
      stackref = scalar_class p StackRef known refl known.defined.stackref;
      threadref = scalar_class p ThreadRef known refl known.defined.threadref;
      target = void.target;
      ref_void = record { leaf = void.leaf; definition = void.definition };
      void = class_leaves g known.graph void.target p.types.written void.within void.written void.class ∙ (leaves_of_parts g known.graph known.finite).void p.types.written known.nothing;
    }
