-- The definition of a class says of an int type what its own definition says.
use Rattle.std.proofs.Common.{◌≡◌, ℕ, ◌<◌, Bool, true, false, List, Option, Some, None, length, slice_get, nat_eq, nat_lt, if◌then◌else◌, refl, ap, subst, arith}
use Rattle.std.proofs.lemmas.Option.{slice_get_within}
use Rattle.type_definitions.specs.declared.definition.TypeDef.{TypeDef}
use Rattle.type_definitions.specs.declared.definition.TypeDef.TheVariants.{Int, Struct, Array, Hybrid, Void, Ref, Iref, FuncRef, StackRef, ThreadRef, Sig}
use Rattle.type_definitions.specs.Same.{same, agree_at, IsGraph}
use Rattle.type_definitions.specs.Class.{class_of}
use Rattle.type_definitions.specs.Laws.{ClassesDecide}
use Rattle.type_definitions.specs.Lemmas.Proved.{congruence, decided}
use Rattle.mu_values.specs.Constants.{width_of}
use Rattle.ir_lex.specs.declared.name.Name.{Name}
use Rattle.check_tables.specs.declared.tables.Tables.{Tables}
use Rattle.check_tables.specs.Types.{definition_in, class_in}
use Rattle.check_tables.specs.Lookups.{or_zero, type_named, noted_class, definition_named}
use Rattle.check_tables.specs.TypeTests.{is_int}
use Rattle.bundle_laws.specs.Typed.{TablesFit}
use Rattle.bundle_laws.specs.Lemmas.TypedOperands.{nat_eq_is, both_are}
use Rattle.mu_model.specs.Types.{class_width}

agrees_with_int : (r : ℕ → ℕ → Bool) (w : ℕ) (o : Option TypeDef) → agree_at r o (Some (Int w)) ≡ true → width_of o ≡ Some w
agrees_with_int r w (Some (Int v)) h = ap (λ (x : ℕ). Some x) (nat_eq_is v w (both_are (nat_eq v w) true h).0)
agrees_with_int r w (Some (Struct fields)) h = cc
agrees_with_int r w (Some (Array element size)) h = cc
agrees_with_int r w (Some (Hybrid fixed element)) h = cc
agrees_with_int r w (Some Void) h = cc
agrees_with_int r w (Some (Ref t)) h = cc
agrees_with_int r w (Some (Iref t)) h = cc
agrees_with_int r w (Some (FuncRef s)) h = cc
agrees_with_int r w (Some StackRef) h = cc
agrees_with_int r w (Some ThreadRef) h = cc
agrees_with_int r w (Some (Sig takes gives)) h = cc
agrees_with_int r w None h = cc

width_of_class : (g : List TypeDef) (u w : ℕ) → IsGraph g → slice_get g u ≡ Some (Int w) → width_of (slice_get g (class_of g u)) ≡ Some w
width_of_class g u w graph there =
    let decides : ClassesDecide g = decided g graph in
    let inside : u < length g = slice_get_within g u (Int w) there in
    let low : class_of g u < length g = omega (arith, decides.no_later u inside) in
    agrees_with_int (same g) w (slice_get g (class_of g u))
    (subst (λ (o : Option TypeDef). agree_at (same g) (slice_get g (class_of g u)) o ≡ true) there ((congruence g graph (class_of g u) u low inside).0 (decides.of_it u inside)))

width_at : (p : Tables) (o : Option ℕ) → TablesFit p → is_int (definition_in p.types o) ≡ true → class_width p (or_zero (class_in p.types o)) ≡ width_of (definition_in p.types o)
width_at p None fit h = cc
width_at p (Some t) fit h = by (nat_lt t p.types.written) (slice_get p.types.definitions t) refl h
  where
    by : (b : Bool) (d : Option TypeDef) → slice_get p.types.definitions t ≡ d → is_int (if b then d else None) ≡ true →
        class_width p (or_zero (if b then Some (class_of p.types.definitions t) else None)) ≡ width_of (if b then d else None)
    by false d e h = cc
    by true (Some (Int w)) e h = width_of_class p.types.definitions t w fit.graph e
    by true (Some (Struct fields)) e h = cc
    by true (Some (Array element size)) e h = cc
    by true (Some (Hybrid fixed element)) e h = cc
    by true (Some Void) e h = cc
    by true (Some (Ref u)) e h = cc
    by true (Some (Iref u)) e h = cc
    by true (Some (FuncRef s)) e h = cc
    by true (Some StackRef) e h = cc
    by true (Some ThreadRef) e h = cc
    by true (Some (Sig takes gives)) e h = cc
    by true None e h = cc

pub width_same : (p : Tables) (t : Name) → TablesFit p → is_int (definition_named p t) ≡ true → class_width p (noted_class p t) ≡ width_of (definition_named p t)
width_same p t fit h = width_at p (type_named p t) fit h
