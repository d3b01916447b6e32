-- What is known of the tables of a bundle: what is given has a class, and no int type has the class of a reference.
use Rattle.std.proofs.Common.{◌≡◌, ℕ, zero, suc, ◌<◌, Bool, true, false, List, [], ◌∷◌, Option, Some, None, IsSomeAnd, is_some, nat_eq, nat_lt, ◌&&◌, slice_get, length, if◌then◌else◌, refl, sym, ◌∙◌, subst, arith}
use Rattle.std.proofs.lemmas.Option.{slice_get_within}
use Rattle.type_definitions.specs.declared.definition.TypeDef.{TypeDef}
use Rattle.type_definitions.specs.declared.definition.TypeDef.TheVariants.{Int, Struct, Array, Hybrid, Void, Ref, Iref, FuncRef, StackRef, ThreadRef, Sig}
use Rattle.type_definitions.specs.Definition.{constructor, number, arguments}
use Rattle.type_definitions.specs.Same.{IsGraph, same, agree, agree_at, pairs}
use Rattle.type_definitions.specs.Class.{least, class_of}
use Rattle.type_definitions.specs.Parts.{parts_at}
use Rattle.type_definitions.specs.Laws.{ClassesDecide}
use Rattle.type_definitions.specs.Lemmas.Proved.{congruence, decided}
use Rattle.check_tables.specs.declared.tables.Signature.{Signature}
use Rattle.check_tables.specs.declared.tables.Tables.{Tables}
use Rattle.check_tables.specs.Types.{class_like, definition_at, class_at, class_in, is_type_there, is_sig, ref_at, iref_at, iref_in}
use Rattle.check_tables.specs.Lookups.{or_zero, signature_in, funcref_of}
use Rattle.check_tables.specs.TypeTests.{is_int, element_of, repeated_of}
use Rattle.bundle_laws.specs.Typed.{HasType, GivesType, GivesPlace, GivesObject, nth_field, nth_fixed_field, TablesFit}
use Rattle.bundle_laws.specs.Lemmas.TypedOperands.{nat_eq_is, both_are}
use Rattle.bundle_laws.specs.Lemmas.TypedVariables.{get_more, get_last}

-- ---- what is given

-- a type that passes a test which nothing and no signature passes is there
pub is_there_by : (test : Option TypeDef → Bool) (d : Option TypeDef) → test None ≡ false → ((takes gives : List ℕ) → test (Some (Sig takes gives)) ≡ false) → test d ≡ true → is_type_there d ≡ true
is_there_by test None absent signature h = let k : false ≡ true = sym absent ∙ h in cc
is_there_by test (Some (Int width)) absent signature h = refl
is_there_by test (Some (Struct fields)) absent signature h = refl
is_there_by test (Some (Array element size)) absent signature h = refl
is_there_by test (Some (Hybrid fixed element)) absent signature h = refl
is_there_by test (Some Void) absent signature h = refl
is_there_by test (Some (Ref t)) absent signature h = refl
is_there_by test (Some (Iref t)) absent signature h = refl
is_there_by test (Some (FuncRef s)) absent signature h = refl
is_there_by test (Some StackRef) absent signature h = refl
is_there_by test (Some ThreadRef) absent signature h = refl
is_there_by test (Some (Sig takes gives)) absent signature h = let k : false ≡ true = sym (signature takes gives) ∙ h in cc

given : (b : Bool) (x : ℕ) (gs : List ℕ) → b ≡ true → gs ≡ or_zero (if b then Some x else None) ∷ [] → IsSomeAnd (if b then Some x else None) (λ c. gs ≡ c ∷ [])
given true x gs h e = e
given false x gs h e = cc

pub gives_place : (p : Tables) (t : ℕ) (gs : List ℕ) → is_type_there (definition_at p.types t) ≡ true → gs ≡ or_zero (iref_at p.types t) ∷ [] → GivesPlace p t gs
gives_place p t gs h e = given (is_type_there (definition_at p.types t)) (class_like p.types.definitions (Iref t)) gs h e

pub gives_object : (p : Tables) (t : ℕ) (gs : List ℕ) → is_type_there (definition_at p.types t) ≡ true → gs ≡ or_zero (ref_at p.types t) ∷ [] → GivesObject p t gs
gives_object p t gs h e = given (is_type_there (definition_at p.types t)) (class_like p.types.definitions (Ref t)) gs h e

gives_type : (p : Tables) (t : ℕ) (gs : List ℕ) → is_type_there (definition_at p.types t) ≡ true → gs ≡ or_zero (class_at p.types t) ∷ [] → GivesType p t gs
gives_type p t gs h e = by (nat_lt t p.types.written) (slice_get p.types.definitions t) (class_of p.types.definitions t) h e
  where
    by : (b : Bool) (o : Option TypeDef) (x : ℕ) → is_type_there (if b then o else None) ≡ true → gs ≡ or_zero (if b then Some x else None) ∷ [] →
        IsSomeAnd (if b then Some x else None) (λ c. gs ≡ c ∷ [])
    by true o x h e = e
    by false o x h e = cc

-- the same of a part of a type
pub part_gives_place : (p : Tables) (o : Option ℕ) (gs : List ℕ) → ((k : ℕ) → o ≡ Some k → is_type_there (definition_at p.types k) ≡ true) → is_some o ≡ true →
    gs ≡ or_zero (iref_in p.types o) ∷ [] → IsSomeAnd o (λ k. GivesPlace p k gs)
part_gives_place p None gs parts h e = cc
part_gives_place p (Some k) gs parts h e = gives_place p k gs (parts k refl) e

pub part_gives_type : (p : Tables) (o : Option ℕ) (gs : List ℕ) → ((k : ℕ) → o ≡ Some k → is_type_there (definition_at p.types k) ≡ true) → is_some o ≡ true →
    gs ≡ or_zero (class_in p.types o) ∷ [] → IsSomeAnd o (λ k. GivesType p k gs)
part_gives_type p None gs parts h e = cc
part_gives_type p (Some k) gs parts h e = gives_type p k gs (parts k refl) e

-- ---- parts of types

-- k is one of the parts of a type
abbrev IsPart : Option TypeDef → ℕ → Type 0
IsPart d k = (n : ℕ) × (slice_get (parts_at d) n ≡ Some k)

fixed_field_is_part : (n : ℕ) (d : Option TypeDef) (k : ℕ) → nth_fixed_field n d ≡ Some k → IsPart d k
fixed_field_is_part n None k h = cc
fixed_field_is_part n (Some (Int width)) k h = cc
fixed_field_is_part n (Some (Struct fields)) k h = (n, h)
fixed_field_is_part n (Some (Array element size)) k h = cc
fixed_field_is_part n (Some (Hybrid fixed element)) k h = (n, get_more fixed (element ∷ []) n k h)
fixed_field_is_part n (Some Void) k h = cc
fixed_field_is_part n (Some (Ref t)) k h = cc
fixed_field_is_part n (Some (Iref t)) k h = cc
fixed_field_is_part n (Some (FuncRef s)) k h = cc
fixed_field_is_part n (Some StackRef) k h = cc
fixed_field_is_part n (Some ThreadRef) k h = cc
fixed_field_is_part n (Some (Sig takes gives)) k h = cc

field_is_part : (n : ℕ) (d : Option TypeDef) (k : ℕ) → nth_field n d ≡ Some k → IsPart d k
field_is_part n None k h = cc
field_is_part n (Some (Int width)) k h = cc
field_is_part n (Some (Struct fields)) k h = (n, h)
field_is_part n (Some (Array element size)) k h = cc
field_is_part n (Some (Hybrid fixed element)) k h = cc
field_is_part n (Some Void) k h = cc
field_is_part n (Some (Ref t)) k h = cc
field_is_part n (Some (Iref t)) k h = cc
field_is_part n (Some (FuncRef s)) k h = cc
field_is_part n (Some StackRef) k h = cc
field_is_part n (Some ThreadRef) k h = cc
field_is_part n (Some (Sig takes gives)) k h = cc

element_is_part : (d : Option TypeDef) (k : ℕ) → element_of d ≡ Some k → IsPart d k
element_is_part None k h = cc
element_is_part (Some (Int width)) k h = cc
element_is_part (Some (Struct fields)) k h = cc
element_is_part (Some (Array element size)) k h = (0, h)
element_is_part (Some (Hybrid fixed element)) k h = cc
element_is_part (Some Void) k h = cc
element_is_part (Some (Ref t)) k h = cc
element_is_part (Some (Iref t)) k h = cc
element_is_part (Some (FuncRef s)) k h = cc
element_is_part (Some StackRef) k h = cc
element_is_part (Some ThreadRef) k h = cc
element_is_part (Some (Sig takes gives)) k h = cc

repeated_is_part : (d : Option TypeDef) (k : ℕ) → repeated_of d ≡ Some k → IsPart d k
repeated_is_part None k h = cc
repeated_is_part (Some (Int width)) k h = cc
repeated_is_part (Some (Struct fields)) k h = cc
repeated_is_part (Some (Array element size)) k h = cc
repeated_is_part (Some (Hybrid fixed element)) k h = (length fixed, get_last fixed element ∙ h)
repeated_is_part (Some Void) k h = cc
repeated_is_part (Some (Ref t)) k h = cc
repeated_is_part (Some (Iref t)) k h = cc
repeated_is_part (Some (FuncRef s)) k h = cc
repeated_is_part (Some StackRef) k h = cc
repeated_is_part (Some ThreadRef) k h = cc
repeated_is_part (Some (Sig takes gives)) k h = cc

-- each is a type that is there
pub fixed_field_is_there : (p : Tables) (t n k : ℕ) → TablesFit p → nth_fixed_field n (definition_at p.types t) ≡ Some k → is_type_there (definition_at p.types k) ≡ true
fixed_field_is_there p t n k tables h =
    let part : IsPart (definition_at p.types t) k = fixed_field_is_part n (definition_at p.types t) k h in tables.parts t part.0 k part.1

pub field_is_there : (p : Tables) (t n k : ℕ) → TablesFit p → nth_field n (definition_at p.types t) ≡ Some k → is_type_there (definition_at p.types k) ≡ true
field_is_there p t n k tables h =
    let part : IsPart (definition_at p.types t) k = field_is_part n (definition_at p.types t) k h in tables.parts t part.0 k part.1

pub element_is_there : (p : Tables) (t k : ℕ) → TablesFit p → element_of (definition_at p.types t) ≡ Some k → is_type_there (definition_at p.types k) ≡ true
element_is_there p t k tables h =
    let part : IsPart (definition_at p.types t) k = element_is_part (definition_at p.types t) k h in tables.parts t part.0 k part.1

pub repeated_is_there : (p : Tables) (t k : ℕ) → TablesFit p → repeated_of (definition_at p.types t) ≡ Some k → is_type_there (definition_at p.types k) ≡ true
repeated_is_there p t k tables h =
    let part : IsPart (definition_at p.types t) k = repeated_is_part (definition_at p.types t) k h in tables.parts t part.0 k part.1

-- ---- ints and references

least_passes : (test : ℕ → Bool) (n : ℕ) → least test n < n → test (least test n) ≡ true
least_passes test zero l = absurd (omega arith)
least_passes test (suc n) l = by (test 0) refl (least_passes (λ k. test (suc k)) n)
  where
    by : (b : Bool) → test 0 ≡ b → (least (λ k. test (suc k)) n < n → test (suc (least (λ k. test (suc k)) n)) ≡ true) → test (least test (suc n)) ≡ true
    by true e ih = let z : least test (suc n) ≡ 0 = rw e refl in subst (λ (x : ℕ). test x ≡ true) (sym z) e
    by false e ih =
        let z : least test (suc n) ≡ suc (least (λ k. test (suc k)) n) = rw e refl in
        subst (λ (x : ℕ). test x ≡ true) (sym z) (ih (omega (arith, z, l)))

-- definitions that agree have one constructor
one_constructor : (r : ℕ → ℕ → Bool) (a b : TypeDef) → agree r a b ≡ true → constructor a ≡ constructor b
one_constructor r a b h =
    let heads : (nat_eq (constructor a) (constructor b) && nat_eq (number a) (number b)) ≡ true =
    (both_are (nat_eq (constructor a) (constructor b) && nat_eq (number a) (number b)) (pairs r (arguments a) (arguments b)) h).0 in
    nat_eq_is (constructor a) (constructor b) (both_are (nat_eq (constructor a) (constructor b)) (nat_eq (number a) (number b)) heads).0

constructors_agree : (r : ℕ → ℕ → Bool) (o : Option TypeDef) (a b : TypeDef) → agree_at r o (Some a) ≡ true → agree_at r o (Some b) ≡ true → constructor a ≡ constructor b
constructors_agree r None a b h k = cc
constructors_agree r (Some d) a b h k = sym (one_constructor r d a h) ∙ one_constructor r d b k

-- a type whose class is that of the types that are defined like this has the same constructor
same_constructor : (g : List TypeDef) (a b : TypeDef) (u : ℕ) → IsGraph g → slice_get g u ≡ Some b → class_like g a ≡ class_of g u → constructor a ≡ constructor b
same_constructor g a b u graph there e =
    let decides : ClassesDecide g = decided g graph in
    let inside : u < length g = slice_get_within g u b there in
    let low : class_of g u < length g = omega (arith, decides.no_later u inside) in
    let first : agree_at (same g) (slice_get g (class_of g u)) (Some a) ≡ true =
    subst (λ (x : ℕ). agree_at (same g) (slice_get g x) (Some a) ≡ true) e
    (least_passes (λ k. agree_at (same g) (slice_get g k) (Some a)) (length g) (subst (λ (x : ℕ). x < length g) (sym e) low)) in
    let second : agree_at (same g) (slice_get g (class_of g u)) (Some b) ≡ true =
    subst (λ (o : Option TypeDef). agree_at (same g) (slice_get g (class_of g u)) o ≡ true) there
    ((congruence g graph (class_of g u) u low inside).0 (decides.of_it u inside)) in
    constructors_agree (same g) (slice_get g (class_of g u)) a b first second

int_constructor : (d : TypeDef) → is_int (Some d) ≡ true → constructor d ≡ 0
int_constructor (Int width) h = refl
int_constructor (Struct fields) h = cc
int_constructor (Array element size) h = cc
int_constructor (Hybrid fixed element) h = cc
int_constructor Void h = cc
int_constructor (Ref t) h = cc
int_constructor (Iref t) h = cc
int_constructor (FuncRef s) h = cc
int_constructor StackRef h = cc
int_constructor ThreadRef h = cc
int_constructor (Sig takes gives) h = cc

-- the class of an int type is that of a definition like this one: it is an int
like_an_int : (p : Tables) (d : TypeDef) → IsGraph p.types.definitions → HasType p is_int (class_like p.types.definitions d) → constructor d ≡ 0
like_an_int p d graph int =
    by (nat_lt int.number p.types.written) (slice_get p.types.definitions int.number) refl int.class int.passes
  where
    by : (b : Bool) (o : Option TypeDef) → slice_get p.types.definitions int.number ≡ o →
        (if b then Some (class_of p.types.definitions int.number) else None) ≡ Some (class_like p.types.definitions d) → is_int (if b then o else None) ≡ true → constructor d ≡ 0
    by false o e class passes = cc
    by true None e class passes = cc
    by true (Some x) e class passes =
        let equal : class_like p.types.definitions d ≡ class_of p.types.definitions int.number = cc in
        same_constructor p.types.definitions d x int.number graph e equal ∙ int_constructor x passes

known_is : (b : Bool) (x c : ℕ) → (if b then Some x else None) ≡ Some c → c ≡ x
known_is true x c h = cc
known_is false x c h = cc

-- no int type has the class of a global or of a function as an operand
pub cell_is_no_int : (p : Tables) (n c : ℕ) → TablesFit p → slice_get p.global_cells n ≡ Some c → HasType p is_int c → ⊥
cell_is_no_int p n c tables h int =
    let t : ℕ = (tables.cells n c h).0 in
    let e : c ≡ class_like p.types.definitions (Iref t) = known_is (is_type_there (definition_at p.types t)) (class_like p.types.definitions (Iref t)) c (tables.cells n c h).1 in
    let z : constructor (Iref t) ≡ 0 = like_an_int p (Iref t) tables.graph (subst (λ (x : ℕ). HasType p is_int x) e int) in
    omega (arith, z)

pub function_is_no_int : (p : Tables) (o : Option ℕ) (c : ℕ) → TablesFit p → funcref_of (signature_in p o) ≡ Some c → HasType p is_int c → ⊥
function_is_no_int p None c tables h int = cc
function_is_no_int p (Some n) c tables h int = by (slice_get p.signatures n) refl h
  where
    by : (o : Option Signature) → slice_get p.signatures n ≡ o → funcref_of o ≡ Some c → ⊥
    by None e h = cc
    by (Some s) e h =
        let k : ℕ = (tables.signatures n s e).0 in
        let same : s.funcref ≡ c = cc in
        let e : s.funcref ≡ class_like p.types.definitions (FuncRef k) =
        known_is (is_sig (definition_at p.types k)) (class_like p.types.definitions (FuncRef k)) s.funcref (tables.signatures n s e).1 in
        let z : constructor (FuncRef k) ≡ 0 = like_an_int p (FuncRef k) tables.graph (subst (λ (x : ℕ). HasType p is_int x) (sym same ∙ e) int) in
        omega (arith, z)
