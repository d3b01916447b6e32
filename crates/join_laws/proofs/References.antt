-- References to types, the types that every bundle has, fields and leaves.
use Rattle.std.proofs.Common.{◌≡◌, ℕ, zero, suc, ◌<◌, Bool, true, false, ◌&&◌, List, [], ◌∷◌, ◌++◌, length, nat_lt, nat_le, if◌then◌else◌, Option, Some, None, slice_get, is_some, refl, subst}
use Rattle.std.proofs.Common.{◌==◌}
use Rattle.std.proofs.lemmas.Bool.{false≢true, and_parts, and_from}
use Rattle.type_definitions.specs.declared.definition.TypeDef.{TypeDef}
use Rattle.type_definitions.specs.declared.definition.TypeDef.TheVariants.{Int, Struct, Array, Hybrid, Void, Ref, Iref, FuncRef, StackRef, ThreadRef}
use Rattle.type_definitions.specs.Definition.{constructor, number, arguments}
use Rattle.type_definitions.specs.Same.{pairs}
use Rattle.kin_laws.specs.Kin.{akin, Kin}
use Rattle.kin_laws.specs.Lemmas.Parts.{AllKin, all_kin, leaves_kin}
use Rattle.ir_lex.specs.declared.token.Number.{Number}
use Rattle.mu_types.specs.Graph.{Table}
use Rattle.check_tables.specs.Types.{class_like, definition_at, definition_in, leaves_at, leaves_in, funcref_at, ref_in, iref_in, is_sig, is_type_there, int1, int32, stackref, threadref, ref_void}
use Rattle.check_tables.specs.TypeTests.{is_sized, is_value_type, fields_of, fixed_fields_of, field_at, element_of, repeated_of}
use Rattle.join_laws.proofs.Tests.{type_there_kept, sig_kept, sized_kept}
use Rattle.join_laws.proofs.Classes.{Stands, Goes, Pair, IsWrittenKin, NumberGoes, DefinitionGoes, below, is_below, definition_goes, definitions_kin, test_goes, like_stands}

-- ---- references

-- two references to kin types are defined alike
ref_alike : (p q : Table) (t u : ℕ) → Kin p.definitions q.definitions t u → DefinitionGoes p q (Some (Ref t)) (Some (Ref u))
ref_alike p q t u m = λ k. and_from (akin p.definitions q.definitions k t u) true (m.to k) refl

iref_alike : (p q : Table) (t u : ℕ) → Kin p.definitions q.definitions t u → DefinitionGoes p q (Some (Iref t)) (Some (Iref u))
iref_alike p q t u m = λ k. and_from (akin p.definitions q.definitions k t u) true (m.to k) refl

funcref_alike : (p q : Table) (t u : ℕ) → Kin p.definitions q.definitions t u → DefinitionGoes p q (Some (FuncRef t)) (Some (FuncRef u))
funcref_alike p q t u m = λ k. and_from (akin p.definitions q.definitions k t u) true (m.to k) refl

-- the class of the references, where there is a type
told_goes : (p q : Table) (a b : Bool) (c d : ℕ) → (a ≡ true → (b ≡ true) × Stands p.definitions q.definitions c d) → Goes p q (if a then Some c else None) (if b then Some d else None)
told_goes p q false b c d f = tt
told_goes p q true b c d f = let both = f refl in rw (both.0) both.1

pub ref_goes : (p q : Table) → Pair p q → (o s : Option ℕ) → NumberGoes p q o s → Goes p q (ref_in p o) (ref_in q s)
ref_goes p q pair None s n = tt
ref_goes p q pair (Some t) None n = absurd n
ref_goes p q pair (Some t) (Some u) n =
    told_goes p q (is_type_there (definition_at p t)) (is_type_there (definition_at q u)) (class_like p.definitions (Ref t)) (class_like q.definitions (Ref u))
    (λ h. let g = test_goes p q is_type_there type_there_kept (definition_at p t) (definition_at q u) (definition_goes p q (Some t) (Some u) n) h in
    (g, like_stands p q pair (Ref t) (Ref u) (pair.one.ref t h) (pair.other.ref u g) (ref_alike p q t u n.kin)))

pub iref_goes : (p q : Table) → Pair p q → (o s : Option ℕ) → NumberGoes p q o s → Goes p q (iref_in p o) (iref_in q s)
iref_goes p q pair None s n = tt
iref_goes p q pair (Some t) None n = absurd n
iref_goes p q pair (Some t) (Some u) n =
    told_goes p q (is_type_there (definition_at p t)) (is_type_there (definition_at q u)) (class_like p.definitions (Iref t)) (class_like q.definitions (Iref u))
    (λ h. let g = test_goes p q is_type_there type_there_kept (definition_at p t) (definition_at q u) (definition_goes p q (Some t) (Some u) n) h in
    (g, like_stands p q pair (Iref t) (Iref u) (pair.one.iref t h) (pair.other.iref u g) (iref_alike p q t u n.kin)))

pub funcref_goes : (p q : Table) → Pair p q → (t u : ℕ) → IsWrittenKin p q t u → Goes p q (funcref_at p t) (funcref_at q u)
funcref_goes p q pair t u n =
    told_goes p q (is_sig (definition_at p t)) (is_sig (definition_at q u)) (class_like p.definitions (FuncRef t)) (class_like q.definitions (FuncRef u))
    (λ h. let g = test_goes p q is_sig sig_kept (definition_at p t) (definition_at q u) (definition_goes p q (Some t) (Some u) n) h in
    (g, like_stands p q pair (FuncRef t) (FuncRef u) (pair.one.funcref t h) (pair.other.funcref u g) (funcref_alike p q t u n.kin)))

-- ---- the types that every bundle has

pub int1_goes : (p q : Table) → Pair p q → Stands p.definitions q.definitions (int1 p) (int1 q)
int1_goes p q pair = like_stands p q pair (Int 1) (Int 1) pair.one.bit pair.other.bit (λ k. refl)

pub int32_goes : (p q : Table) → Pair p q → Stands p.definitions q.definitions (int32 p) (int32 q)
int32_goes p q pair = like_stands p q pair (Int 32) (Int 32) pair.one.word pair.other.word (λ k. refl)

pub stackref_goes : (p q : Table) → Pair p q → Stands p.definitions q.definitions (stackref p) (stackref q)
stackref_goes p q pair = like_stands p q pair StackRef StackRef pair.one.stack pair.other.stack (λ k. refl)

pub threadref_goes : (p q : Table) → Pair p q → Stands p.definitions q.definitions (threadref p) (threadref q)
threadref_goes p q pair = like_stands p q pair ThreadRef ThreadRef pair.one.thread pair.other.thread (λ k. refl)

pub void_kin : (p q : Table) → Pair p q → Kin p.definitions q.definitions p.written q.written
void_kin p q pair = definitions_kin p q p.written q.written Void Void pair.one.nothing pair.other.nothing (λ k. refl)

pub ref_void_goes : (p q : Table) → Pair p q → Stands p.definitions q.definitions (ref_void p) (ref_void q)
ref_void_goes p q pair = like_stands p q pair (Ref p.written) (Ref q.written) pair.one.void pair.other.void (ref_alike p q p.written q.written (void_kin p q pair))

-- ---- parts

-- parts of written types are written, and go
abbrev pub FieldsGo : Table → Table → Option (List ℕ) → Option (List ℕ) → Type 0
FieldsGo p q None o = Unit {0}
FieldsGo p q (Some xs) None = ⊥
FieldsGo p q (Some xs) (Some ys) = AllKin p.definitions q.definitions xs ys

all_args : (p q : Table) (d e : TypeDef) → DefinitionGoes p q (Some d) (Some e) → AllKin p.definitions q.definitions (arguments d) (arguments e)
all_args p q d e g = all_kin p.definitions q.definitions (arguments d) (arguments e) (λ k. (and_parts ((constructor d == constructor e) && (number d == number e)) (pairs (akin p.definitions q.definitions k) (arguments d) (arguments e)) (g k)).1)

front_kin : (g h : List TypeDef) (x y : ℕ) (xs ys : List ℕ) → AllKin g h (xs ++ x ∷ []) (ys ++ y ∷ []) → AllKin g h xs ys × Kin g h x y
front_kin g h x y [] [] m = (tt, m.0)
front_kin g h x y [] (z ∷ []) m = absurd m.1
front_kin g h x y [] (z ∷ w ∷ ys) m = absurd m.1
front_kin g h x y (z ∷ []) [] m = absurd m.1
front_kin g h x y (z ∷ w ∷ xs) [] m = absurd m.1
front_kin g h x y (z ∷ xs) (w ∷ ys) m = let more = front_kin g h x y xs ys m.1 in ((m.0, more.0), more.1)

pub fields_go : (p q : Table) (o s : Option TypeDef) → DefinitionGoes p q o s → FieldsGo p q (fields_of o) (fields_of s)
fields_go p q None s g = tt
fields_go p q (Some d) None g = absurd g
fields_go p q (Some (Struct xs)) (Some (Struct ys)) g = all_args p q (Struct xs) (Struct ys) g
fields_go p q (Some (Struct xs)) (Some e) g = absurd (false≢true (g 0))
fields_go p q (Some d) (Some e) g = tt

pub fixed_go : (p q : Table) (o s : Option TypeDef) → DefinitionGoes p q o s → FieldsGo p q (fixed_fields_of o) (fixed_fields_of s)
fixed_go p q None s g = tt
fixed_go p q (Some d) None g = absurd g
fixed_go p q (Some (Struct xs)) (Some (Struct ys)) g = all_args p q (Struct xs) (Struct ys) g
fixed_go p q (Some (Struct xs)) (Some e) g = absurd (false≢true (g 0))
fixed_go p q (Some (Hybrid xs x)) (Some (Hybrid ys y)) g = (front_kin p.definitions q.definitions x y xs ys (all_args p q (Hybrid xs x) (Hybrid ys y) g)).0
fixed_go p q (Some (Hybrid xs x)) (Some e) g = absurd (false≢true (g 0))
fixed_go p q (Some d) (Some e) g = tt

-- a part goes with a part
abbrev pub PartGoes : Table → Table → Option ℕ → Option ℕ → Type 0
PartGoes p q None o = Unit {0}
PartGoes p q (Some x) None = ⊥
PartGoes p q (Some x) (Some y) = Kin p.definitions q.definitions x y

pub element_goes : (p q : Table) (o s : Option TypeDef) → DefinitionGoes p q o s → PartGoes p q (element_of o) (element_of s)
element_goes p q None s g = tt
element_goes p q (Some d) None g = absurd g
element_goes p q (Some (Array x m)) (Some (Array y n)) g = (all_args p q (Array x m) (Array y n) g).0
element_goes p q (Some (Array x m)) (Some e) g = absurd (false≢true (g 0))
element_goes p q (Some d) (Some e) g = tt

pub repeated_goes : (p q : Table) (o s : Option TypeDef) → DefinitionGoes p q o s → PartGoes p q (repeated_of o) (repeated_of s)
repeated_goes p q None s g = tt
repeated_goes p q (Some d) None g = absurd g
repeated_goes p q (Some (Hybrid xs x)) (Some (Hybrid ys y)) g = (front_kin p.definitions q.definitions x y xs ys (all_args p q (Hybrid xs x) (Hybrid ys y) g)).1
repeated_goes p q (Some (Hybrid xs x)) (Some e) g = absurd (false≢true (g 0))
repeated_goes p q (Some d) (Some e) g = tt

member_goes : (p q : Table) (xs ys : List ℕ) (n : ℕ) → AllKin p.definitions q.definitions xs ys → PartGoes p q (slice_get xs n) (slice_get ys n)
member_goes p q [] [] n m = tt
member_goes p q (x ∷ xs) (y ∷ ys) zero m = m.0
member_goes p q (x ∷ xs) (y ∷ ys) (suc n) m = member_goes p q xs ys n m.1
member_goes p q [] (y ∷ ys) n m = absurd m
member_goes p q (x ∷ xs) [] n m = absurd m

pub field_goes : (p q : Table) (o s : Option (List ℕ)) (n : Number) → FieldsGo p q o s → PartGoes p q (field_at o n) (field_at s n)
field_goes p q None s n m = tt
field_goes p q (Some xs) None n m = absurd m
field_goes p q (Some xs) (Some ys) n m = by n.negative
  where
    by : (b : Bool) → PartGoes p q (if b then None else slice_get xs n.magnitude) (if b then None else slice_get ys n.magnitude)
    by true = tt
    by false = member_goes p q xs ys n.magnitude m

pub part_there : (p q : Table) (o s : Option ℕ) → PartGoes p q o s → is_some o ≡ true → is_some s ≡ true
part_there p q None s m h = absurd (false≢true h)
part_there p q (Some x) None m h = absurd m
part_there p q (Some x) (Some y) m h = refl

-- a part that is written on both sides is a number that goes
type_written : (p : Table) (x : ℕ) → is_type_there (definition_at p x) ≡ true → x < p.written
type_written p x h = by (nat_lt x p.written) refl h
  where
    by : (b : Bool) → nat_lt x p.written ≡ b → is_type_there (if b then slice_get p.definitions x else None) ≡ true → x < p.written
    by true e k = is_below x p.written e
    by false e k = absurd (false≢true k)

pub part_number : (p q : Table) (o s : Option ℕ) → PartGoes p q o s → ((x : ℕ) → o ≡ Some x → is_type_there (definition_at p x) ≡ true) → ((y : ℕ) → s ≡ Some y → is_type_there (definition_at q y) ≡ true) → NumberGoes p q o s
part_number p q None s m f g = tt
part_number p q (Some x) None m f g = absurd m
part_number p q (Some x) (Some y) m f g = record { kin = m; low = type_written p x (f x refl); there = type_written q y (g y refl) }

-- ---- leaves

pub value_type_goes : (p q : Table) → Pair p q → (o s : Option ℕ) → NumberGoes p q o s → is_value_type (definition_in p o) (leaves_in p o) ≡ true → is_value_type (definition_in q s) (leaves_in q s) ≡ true
value_type_goes p q pair None s n h = absurd (false≢true h)
value_type_goes p q pair (Some t) None n h = absurd n
value_type_goes p q pair (Some t) (Some u) n h =
    let both = and_parts (is_sized (definition_at p t)) (nat_le (length (leaves_at p t)) 256) h in
    let many : length (leaves_at p t) ≡ length (leaves_at q u) =
    rw (below t p.written n.low, below u q.written n.there) (leaves_kin p.definitions q.definitions pair.one.graph pair.finite_one pair.other.graph pair.finite_other t u n.kin) in
    and_from (is_sized (definition_at q u)) (nat_le (length (leaves_at q u)) 256)
    (test_goes p q is_sized sized_kept (definition_at p t) (definition_at q u) (definition_goes p q (Some t) (Some u) n) both.0)
    (subst (λ (x : ℕ). nat_le x 256 ≡ true) many both.1)
