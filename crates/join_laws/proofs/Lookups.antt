-- What the names of two bundles stand for: what a name stands for in the first, it stands for the like in the second.
use Rattle.std.proofs.Common.{◌≡◌, ℕ, Bool, true, false, List, length, nat_lt, nat_le, if◌then◌else◌, Option, Some, None, slice_get, is_some, refl, sym, ◌∙◌}
use Rattle.std.proofs.lemmas.Bool.{false≢true, and_parts}
use Rattle.type_definitions.specs.declared.definition.TypeDef.{TypeDef}
use Rattle.type_definitions.specs.declared.definition.TypeDef.TheVariants.{Sig}
use Rattle.type_definitions.specs.Class.{class_of}
use Rattle.ir_lex.specs.declared.name.Name.{Name}
use Rattle.check_tables.specs.declared.tables.Signature.{Signature}
use Rattle.check_tables.specs.declared.tables.Tables.{Tables}
use Rattle.mu_types.specs.Graph.{Table}
use Rattle.name_scopes.specs.Names.{found}
use Rattle.check_tables.specs.Types.{definition_at, definition_in, class_at, class_in, ref_in, iref_in, is_type_there}
use Rattle.check_tables.specs.Lookups.{written_number, signature_number, signature_in, global_class, type_named, definition_named, class_named, leaves_named, ref_named, iref_named, noted_class, or_zero, takes_of, gives_of, funcref_of}
use Rattle.check_tables.specs.TypeTests.{is_sized, is_no_hybrid, is_value_type}
use Rattle.join_laws.proofs.Tests.{IsKept}
use Rattle.join_laws.proofs.Classes.{Stands, Goes, AllGo, Pair, NumberGoes, DefinitionGoes, definition_goes, test_goes, class_goes}
use Rattle.join_laws.proofs.References.{ref_goes, iref_goes, value_type_goes}

-- ---- signatures

pub record SignaturesStand (p q : Table) (s r : Signature) : Type 0 where
  pub class : Stands p.definitions q.definitions s.class r.class
  pub funcref : Stands p.definitions q.definitions s.funcref r.funcref
  pub takes : AllGo p q s.takes r.takes
  pub gives : AllGo p q s.gives r.gives

abbrev pub SignatureGoes : Table → Table → Option Signature → Option Signature → Type 0
SignatureGoes p q None o = Unit {0}
SignatureGoes p q (Some s) None = ⊥
SignatureGoes p q (Some s) (Some r) = SignaturesStand p q s r

abbrev pub ListGoes : Table → Table → Option (List ℕ) → Option (List ℕ) → Type 0
ListGoes p q None o = Unit {0}
ListGoes p q (Some cs) None = ⊥
ListGoes p q (Some cs) (Some ds) = AllGo p q cs ds

pub funcref_of_goes : (p q : Table) (s r : Option Signature) → SignatureGoes p q s r → Goes p q (funcref_of s) (funcref_of r)
funcref_of_goes p q None r g = tt
funcref_of_goes p q (Some s) None g = absurd g
funcref_of_goes p q (Some s) (Some r) g = g.funcref

pub takes_goes : (p q : Table) (s r : Option Signature) → SignatureGoes p q s r → ListGoes p q (takes_of s) (takes_of r)
takes_goes p q None r g = tt
takes_goes p q (Some s) None g = absurd g
takes_goes p q (Some s) (Some r) g = g.takes

pub gives_goes : (p q : Table) (s r : Option Signature) → SignatureGoes p q s r → ListGoes p q (gives_of s) (gives_of r)
gives_goes p q None r g = tt
gives_goes p q (Some s) None g = absurd g
gives_goes p q (Some s) (Some r) g = g.gives

-- ---- tables

-- what a name stands for in the first, it stands for the like in the second
pub record TablesGo (p q : Tables) : Type 0 where
  pub pair : Pair p.types q.types
  pub type : (name : List ℕ) → NumberGoes p.types q.types (written_number (found p.globals.names name)) (written_number (found q.globals.names name))
  pub signature : (name : List ℕ) → SignatureGoes p.types q.types (signature_in p (signature_number (found p.globals.names name))) (signature_in q (signature_number (found q.globals.names name)))
  pub operand : (name : List ℕ) → Goes p.types q.types (global_class p (found p.globals.names name)) (global_class q (found q.globals.names name))

pub named_definition : (p q : Tables) → TablesGo p q → (n : Name) → DefinitionGoes p.types q.types (definition_named p n) (definition_named q n)
named_definition p q go n = definition_goes p.types q.types (type_named p n) (type_named q n) (go.type n.text)

pub named_class : (p q : Tables) → TablesGo p q → (n : Name) → Goes p.types q.types (class_named p n) (class_named q n)
named_class p q go n = class_goes p.types q.types go.pair (type_named p n) (type_named q n) (go.type n.text)

pub named_ref : (p q : Tables) → TablesGo p q → (n : Name) → Goes p.types q.types (ref_named p n) (ref_named q n)
named_ref p q go n = ref_goes p.types q.types go.pair (type_named p n) (type_named q n) (go.type n.text)

pub named_iref : (p q : Tables) → TablesGo p q → (n : Name) → Goes p.types q.types (iref_named p n) (iref_named q n)
named_iref p q go n = iref_goes p.types q.types go.pair (type_named p n) (type_named q n) (go.type n.text)

-- a test of the type with a name
pub type_test : (p q : Tables) → TablesGo p q → (test : Option TypeDef → Bool) → IsKept test → (n : Name) → test (definition_named p n) ≡ true → test (definition_named q n) ≡ true
type_test p q go test kept n h = test_goes p.types q.types test kept (definition_named p n) (definition_named q n) (named_definition p q go n) h

pub value_test : (p q : Tables) → TablesGo p q → (n : Name) → is_value_type (definition_named p n) (leaves_named p n) ≡ true → is_value_type (definition_named q n) (leaves_named q n) ≡ true
value_test p q go n h = value_type_goes p.types q.types go.pair (type_named p n) (type_named q n) (go.type n.text) h

-- ---- classes of names that have one

pub noted_stands : (p q : Table) (o s : Option ℕ) → Goes p q o s → is_some o ≡ true → Stands p.definitions q.definitions (or_zero o) (or_zero s)
noted_stands p q None s g h = absurd (false≢true h)
noted_stands p q (Some c) None g h = absurd g
noted_stands p q (Some c) (Some d) g h = g

there_at : (p : Table) (t : ℕ) (test : Option TypeDef → Bool) → test None ≡ false → test (definition_at p t) ≡ true → is_some (class_at p t) ≡ true
there_at p t test none h = by (nat_lt t p.written) (class_of p.definitions t) h
  where
    by : (b : Bool) (c : ℕ) → test (if b then slice_get p.definitions t else None) ≡ true → is_some (if b then Some c else None) ≡ true
    by true c k = refl
    by false c k = absurd (false≢true (sym none ∙ k))

pub there_in : (p : Table) (o : Option ℕ) (test : Option TypeDef → Bool) → test None ≡ false → test (definition_in p o) ≡ true → is_some (class_in p o) ≡ true
there_in p None test none h = absurd (false≢true (sym none ∙ h))
there_in p (Some t) test none h = there_at p t test none h

-- the class of the type with a name that passes a test
pub noted_test : (p q : Tables) → TablesGo p q → (test : Option TypeDef → Bool) → test None ≡ false → (n : Name) → test (definition_named p n) ≡ true →
    Stands p.types.definitions q.types.definitions (noted_class p n) (noted_class q n)
noted_test p q go test none n h = noted_stands p.types q.types (class_named p n) (class_named q n) (named_class p q go n) (there_in p.types (type_named p n) test none h)

pub value_sized : (o : Option TypeDef) (ls : List ℕ) → is_value_type o ls ≡ true → is_sized o ≡ true
value_sized o ls h = (and_parts (is_sized o) (nat_le (length ls) 256) h).0

pub noted_value : (p q : Tables) → TablesGo p q → (n : Name) → is_value_type (definition_named p n) (leaves_named p n) ≡ true → Stands p.types.definitions q.types.definitions (noted_class p n) (noted_class q n)
noted_value p q go n h = noted_test p q go is_sized refl n (value_sized (definition_named p n) (leaves_named p n) h)

-- references to a type that exists
ref_there : (p : Table) (o : Option ℕ) → is_type_there (definition_in p o) ≡ true → is_some (ref_in p o) ≡ true
ref_there p None h = absurd (false≢true h)
ref_there p (Some t) h = rw h refl

iref_there : (p : Table) (o : Option ℕ) → is_type_there (definition_in p o) ≡ true → is_some (iref_in p o) ≡ true
iref_there p None h = absurd (false≢true h)
iref_there p (Some t) h = rw h refl

pub noted_ref : (p q : Tables) → TablesGo p q → (n : Name) → is_type_there (definition_named p n) ≡ true → Stands p.types.definitions q.types.definitions (or_zero (ref_named p n)) (or_zero (ref_named q n))
noted_ref p q go n h = noted_stands p.types q.types (ref_named p n) (ref_named q n) (named_ref p q go n) (ref_there p.types (type_named p n) h)

pub noted_iref : (p q : Tables) → TablesGo p q → (n : Name) → is_type_there (definition_named p n) ≡ true → Stands p.types.definitions q.types.definitions (or_zero (iref_named p n)) (or_zero (iref_named q n))
noted_iref p q go n h = noted_stands p.types q.types (iref_named p n) (iref_named q n) (named_iref p q go n) (iref_there p.types (type_named p n) h)

pub part_iref : (p q : Table) (o s : Option ℕ) → Pair p q → NumberGoes p q o s → is_type_there (definition_in p o) ≡ true → Stands p.definitions q.definitions (or_zero (iref_in p o)) (or_zero (iref_in q s))
part_iref p q o s pair n h = noted_stands p q (iref_in p o) (iref_in q s) (iref_goes p q pair o s n) (iref_there p o h)

pub no_hybrid_type : (o : Option TypeDef) → is_no_hybrid o ≡ true → is_type_there o ≡ true
no_hybrid_type None h = absurd (false≢true h)
no_hybrid_type (Some (Sig takes gives)) h = absurd (false≢true h)
no_hybrid_type (Some d) h = refl

pub sized_type : (o : Option TypeDef) → is_sized o ≡ true → is_type_there o ≡ true
sized_type None h = absurd (false≢true h)
sized_type (Some (Sig takes gives)) h = absurd (false≢true h)
sized_type (Some d) h = refl
