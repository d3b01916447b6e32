-- Met demands on operands, types, arguments and destinations: what stands for them fits.
use Rattle.std.proofs.Common.{◌≡◌, ℕ, Bool, true, false, List, [], ◌∷◌, Option, Some, None, IsSomeAnd, is_some, not, nat_eq, nat_lt, ◌&&◌, slice_get, length, if◌then◌else◌, refl, sym, ◌∙◌, ap, subst, arith}
use Rattle.std.specs.Option.{option_map_or}
use Rattle.demands.specs.Demands.{AllMet, none}
use Rattle.name_scopes.specs.Names.{found}
use Rattle.ir_lex.specs.declared.name.Name.{Name}
use Rattle.ir_lex.specs.declared.token.Number.{Number}
use Rattle.ir_tree.specs.declared.operands.Operand.{Operand}
use Rattle.ir_tree.specs.declared.operands.Operand.TheVariants.{Local, Global}
use Rattle.ir_tree.specs.declared.operands.Arguments.{Arguments}
use Rattle.ir_tree.specs.declared.operands.Destination.{Destination}
use Rattle.bundle_names.specs.declared.globals.Sort.{Sort}
use Rattle.bundle_names.specs.declared.globals.Sort.TheVariants as sorts
use Rattle.type_definitions.specs.declared.definition.TypeDef.{TypeDef}
use Rattle.check_tables.specs.declared.fault.CheckKind.{CheckKind}
use Rattle.check_tables.specs.declared.fault.CheckKind.TheVariants.{OperandType, ArgumentType}
use Rattle.check_tables.specs.declared.tables.Signature.{Signature}
use Rattle.check_tables.specs.declared.tables.Tables.{Tables}
use Rattle.check_tables.specs.Types.{definition_at, definition_in, class_in, leaves_in, iref_in}
use Rattle.check_tables.specs.Lookups.{or_zero, type_named, class_named, noted_class, signature_number, signature_in, signature_named, noted_signature, funcref_of, global_class}
use Rattle.check_tables.specs.TypeTests.{is_int64, is_value_type, field_at}
use Rattle.checked_code.specs.declared.code.Source.{Source}
use Rattle.checked_code.specs.declared.scopes.BlockEntry.{BlockEntry}
use Rattle.checked_code.specs.declared.scopes.Variable.{Variable}
use Rattle.checked_code.specs.declared.scopes.Locals.{Locals}
use Rattle.checked_code.specs.declared.scopes.Body.{Body}
use Rattle.checked_code.specs.Operands.{is_class, of_type, variable_class, variable_number, operand_class, operand_demands, int64_demands, member_demands, argument_demands, value_type_demands, variable_demands, global_source, source_of, sources_of, noted_list, numbers_in}
use Rattle.checked_code.specs.Destinations.{block_named, entry_takes, takes_no_exception, block_number, target_of, exceptional_demands, normal_demands, optional_target, keepalive_numbers}
use Rattle.bundle_laws.specs.Typed.{SourceFits, SourcesFit, PlaceFits, Int64Fits, nth_of, AreVariables, HasType, HasValueType, HaveValueTypes, HasSignature, Blocks, TargetFits, NormalFits, OptionalTargetFits, OptionalNormalFits, LocalsFit, BodyFits}

-- ---- tests

pub nat_eq_is : (a b : ℕ) → nat_eq a b ≡ true → a ≡ b
nat_eq_is a b h = grind arith

pub not_is : (b : Bool) → not b ≡ true → b ≡ false
not_is true h = cc
not_is false h = refl

pub both_are : (a b : Bool) → (a && b) ≡ true → (a ≡ true) × (b ≡ true)
both_are true b h = (refl, h)
both_are false b h = cc

-- the classes that a test of operands compares are there, and are the same
pub same_class : (o wanted : Option ℕ) → is_class o wanted ≡ true → IsSomeAnd wanted (λ c. o ≡ Some c)
same_class None wanted h = cc
same_class (Some c) None h = cc
same_class (Some c) (Some d) h = ap Some (nat_eq_is c d h)

-- what holds of a class that is there holds of the one that is noted down
pub noted : (P : ℕ → Type 0) (o : Option ℕ) → IsSomeAnd o P → P (or_zero o)
noted P None h = absurd h
noted P (Some c) h = h

-- ---- operands

variable_fits : (p : Tables) (ls : Locals) (name : List ℕ) (o : Option Variable) (wanted : Option ℕ) → LocalsFit ls → found ls.names name ≡ o →
    is_class (variable_class o) wanted ≡ true → IsSomeAnd wanted (λ c. slice_get ls.classes (variable_number o) ≡ Some c)
variable_fits p ls name None wanted fits e h = cc
variable_fits p ls name (Some v) None fits e h = cc
variable_fits p ls name (Some v) (Some c) fits e h = fits.each name v e ∙ ap Some (nat_eq_is v.class c h)

global_fits : (p : Tables) (ks : List ℕ) (o : Option Sort) (wanted : Option ℕ) →
    is_class (global_class p o) wanted ≡ true → IsSomeAnd wanted (λ c. SourceFits p ks (global_source o) c)
global_fits p ks None wanted h = cc
global_fits p ks (Some (sorts.Written n)) wanted h = cc
global_fits p ks (Some (sorts.Signature n)) wanted h = cc
global_fits p ks (Some (sorts.Constant n)) wanted h = same_class (slice_get p.constants n) wanted h
global_fits p ks (Some (sorts.GlobalCell n)) wanted h = same_class (slice_get p.global_cells n) wanted h
global_fits p ks (Some (sorts.Function n)) wanted h = same_class (funcref_of (signature_in p (slice_get p.functions n))) wanted h

-- an operand has the class that is wanted, which is there
pub operand_fits : (p : Tables) (ls : Locals) (kind : CheckKind) (o : Operand) (wanted : Option ℕ) → LocalsFit ls →
    AllMet (operand_demands p ls kind o wanted) → IsSomeAnd wanted (λ c. SourceFits p ls.classes (source_of p ls o) c)
operand_fits p ls kind (Local n) wanted fits m = variable_fits p ls n.text (found ls.names n.text) wanted fits refl m.1
operand_fits p ls kind (Global n) wanted fits m = global_fits p ls.classes (found p.globals.names n.text) wanted m.1

-- of type int<64>, whose class is there
int64_class : (p : Tables) (o : Option ℕ) → is_int64 (definition_in p.types o) ≡ true → (c : ℕ) × (o ≡ Some c) × (is_int64 (definition_at p.types c) ≡ true)
int64_class p None h = cc
int64_class p (Some c) h = (c, refl, h)

is_its_class : (o : Option ℕ) (c : ℕ) → o ≡ Some c → is_class o (Some c) ≡ true
is_its_class o c e = let h : nat_eq c c ≡ true = grind arith in subst (λ (x : Option ℕ). is_class x (Some c) ≡ true) (sym e) h

pub int64_fits : (p : Tables) (ls : Locals) (o : Operand) → LocalsFit ls → AllMet (int64_demands p ls o) → Int64Fits p ls.classes (source_of p ls o)
int64_fits p ls o fits m =
    let (c, is, passes) = int64_class p (operand_class p ls o) m.1 in
    (c, operand_fits p ls OperandType o (Some c) fits (m.0, is_its_class (operand_class p ls o) c is), passes)

-- of the type with this name
pub of_type_fits : (p : Tables) (ls : Locals) (o : Operand) (n : Name) → LocalsFit ls → AllMet (of_type p ls o n) → SourceFits p ls.classes (source_of p ls o) (noted_class p n)
of_type_fits p ls o n fits m = noted (λ c. SourceFits p ls.classes (source_of p ls o) c) (class_named p n) (operand_fits p ls OperandType o (class_named p n) fits m)

-- ---- lists of arguments

members_fit : (p : Tables) (ls : Locals) (os : List Operand) (cs : List ℕ) → LocalsFit ls → length os ≡ length cs →
    AllMet (member_demands p ls os cs) → SourcesFit p ls.classes (sources_of p ls os) cs
members_fit p ls [] [] fits e m = tt
members_fit p ls [] (c ∷ cs) fits e m = absurd (omega (arith, e))
members_fit p ls (o ∷ os) [] fits e m = absurd (omega (arith, e))
members_fit p ls (o ∷ os) (c ∷ cs) fits e m = (operand_fits p ls ArgumentType o (Some c) fits m.0, members_fit p ls os cs fits (omega (arith, e)) m.1)

-- as many as are wanted, and each of its class; what is wanted is there
pub arguments_fit : (p : Tables) (ls : Locals) (a : Arguments) (wanted : Option (List ℕ)) → LocalsFit ls →
    AllMet (argument_demands p ls a wanted) → IsSomeAnd wanted (λ cs. SourcesFit p ls.classes (sources_of p ls a.values) cs)
unfolding argument_demands
arguments_fit p ls a None fits m = let h = m.0 in cc
arguments_fit p ls a (Some cs) fits m = members_fit p ls a.values cs fits (nat_eq_is (length a.values) (length cs) m.0) m.1

-- ---- types

-- the type of a name that passes a test, with its number
pub record TypeIn (p : Tables) (o : Option ℕ) (test : Option TypeDef → Bool) : Type 0 where
  pub type : HasType p test (or_zero (class_in p.types o))
  pub is : o ≡ Some type.number

pub type_in : (p : Tables) (o : Option ℕ) (test : Option TypeDef → Bool) → test None ≡ false → test (definition_in p.types o) ≡ true → TypeIn p o test
type_in p None test absent met = let h : false ≡ true = sym absent ∙ met in cc
type_in p (Some t) test absent met = by (nat_lt t p.types.written) refl
  where
    by : (b : Bool) → nat_lt t p.types.written ≡ b → TypeIn p (Some t) test
    by true e = record { type = record { number = t; class = rw e refl; passes = met }; is = refl }
    by false e = let h : test None ≡ true = rw e at met in let k : false ≡ true = sym absent ∙ h in cc

-- a test that is false where nothing is there: the type with this name is there, and passes
pub type_of : (p : Tables) (n : Name) (test : Option TypeDef → Bool) → test None ≡ false → test (definition_in p.types (type_named p n)) ≡ true →
    TypeIn p (type_named p n) test
type_of p n test absent met = type_in p (type_named p n) test absent met

-- the same for a type that variables may have
pub record ValueTypeIn (p : Tables) (o : Option ℕ) : Type 0 where
  pub type : HasValueType p (or_zero (class_in p.types o))
  pub is : o ≡ Some type.number

pub value_type_in : (p : Tables) (o : Option ℕ) → is_value_type (definition_in p.types o) (leaves_in p.types o) ≡ true → ValueTypeIn p o
value_type_in p None met = cc
value_type_in p (Some t) met = by (nat_lt t p.types.written) refl
  where
    by : (b : Bool) → nat_lt t p.types.written ≡ b → ValueTypeIn p (Some t)
    by true e = record { type = record { number = t; class = rw e refl; passes = met }; is = refl }
    by false e = let h : is_value_type None (leaves_in p.types (Some t)) ≡ true = rw e at met in cc

pub value_types_fit : (p : Tables) (ns : List Name) → AllMet (value_type_demands p ns) → HaveValueTypes p (noted_list p ns)
value_types_fit p [] m = tt
value_types_fit p (n ∷ ns) m = ((value_type_in p (type_named p n) m.0).type, value_types_fit p ns m.1)

-- ---- fields

not_negative : (b : Bool) (o : Option ℕ) → is_some (if b then None else o) ≡ true → (if b then None else o) ≡ o
not_negative true o h = cc
not_negative false o h = refl

-- a field that is there has the number as it is written
pub field_is : (fields : Option (List ℕ)) (n : Number) → is_some (field_at fields n) ≡ true → field_at fields n ≡ nth_of fields n.magnitude
field_is None n h = cc
field_is (Some fields) n h = not_negative n.negative (slice_get fields n.magnitude) h

-- ---- places

-- a place of a type whose number is known
pub place_fits : (p : Tables) (ls : Locals) (l : Operand) (o : Option ℕ) (t : ℕ) → LocalsFit ls → o ≡ Some t →
    AllMet (operand_demands p ls OperandType l (iref_in p.types o)) → PlaceFits p ls.classes (source_of p ls l) t
place_fits p ls l o t fits is m =
    subst (λ (x : Option ℕ). IsSomeAnd (iref_in p.types x) (λ c. SourceFits p ls.classes (source_of p ls l) c)) is
    (operand_fits p ls OperandType l (iref_in p.types o) fits m)

-- ---- signatures

-- a signature whose references are known, or what it takes, is there
pub record SignatureIn (p : Tables) (o : Option Signature) : Type 0 where
  pub signature : HasSignature p (noted_signature o)
  pub is : o ≡ Some signature.entry

signature_by : (p : Tables) (n : Option ℕ) (o : Option Signature) (P : ℕ → Type 0) → signature_in p n ≡ o → IsSomeAnd (funcref_of o) P → SignatureIn p o
signature_by p n None P e h = absurd h
signature_by p None (Some s) P e h = cc
signature_by p (Some n) (Some s) P e h = record { signature = record { number = n; entry = s; there = e; class = refl }; is = refl }

-- the signature of a name, where something is a reference to a function of it
pub signature_of : (p : Tables) (n : Name) (P : ℕ → Type 0) → IsSomeAnd (funcref_of (signature_named p n)) P → SignatureIn p (signature_named p n)
signature_of p n P h = signature_by p (signature_number (found p.globals.names n.text)) (signature_named p n) P refl h

-- ---- destinations

target_fits : (p : Tables) (blocks : Blocks) (f : Body) (ks : List ℕ) (name : List ℕ) (o : Option BlockEntry) (vs : List Source) → BodyFits blocks f → found f.blocks name ≡ o →
    IsSomeAnd (entry_takes o) (λ cs. SourcesFit p ks vs cs) → TargetFits p blocks ks (record { block = block_number o; arguments = vs })
target_fits p blocks f ks name None vs body e h = absurd h
target_fits p blocks f ks name (Some b) vs body e h = record { entry = b; there = body.each name b e; arguments = h }

normal_fits_by : (p : Tables) (blocks : Blocks) (f : Body) (ks : List ℕ) (name : List ℕ) (o : Option BlockEntry) (vs : List Source) → BodyFits blocks f → found f.blocks name ≡ o →
    takes_no_exception o ≡ true → IsSomeAnd (entry_takes o) (λ cs. SourcesFit p ks vs cs) → NormalFits p blocks ks (record { block = block_number o; arguments = vs })
normal_fits_by p blocks f ks name None vs body e k h = absurd h
normal_fits_by p blocks f ks name (Some b) vs body e k h =
    record { target = record { entry = b; there = body.each name b e; arguments = h }; no_handler = not_is b.has_handler k }

-- where an exception may go
pub exceptional_fits : (p : Tables) (blocks : Blocks) (f : Body) (ls : Locals) (d : Destination) → BodyFits blocks f → LocalsFit ls →
    AllMet (exceptional_demands p f ls d) → TargetFits p blocks ls.classes (target_of p f ls d)
exceptional_fits p blocks f ls d body fits m =
    target_fits p blocks f ls.classes d.block.text (block_named f d.block) (sources_of p ls d.arguments.values) body refl
    (arguments_fit p ls d.arguments (entry_takes (block_named f d.block)) fits m)

-- every other destination
pub normal_fits : (p : Tables) (blocks : Blocks) (f : Body) (ls : Locals) (d : Destination) → BodyFits blocks f → LocalsFit ls →
    AllMet (normal_demands p f ls d) → NormalFits p blocks ls.classes (target_of p f ls d)
normal_fits p blocks f ls d body fits m =
    normal_fits_by p blocks f ls.classes d.block.text (block_named f d.block) (sources_of p ls d.arguments.values) body refl m.0
    (arguments_fit p ls d.arguments (entry_takes (block_named f d.block)) fits m.1)

pub optional_normal_fits : (p : Tables) (blocks : Blocks) (f : Body) (ls : Locals) (d : Option Destination) → BodyFits blocks f → LocalsFit ls →
    AllMet (option_map_or (normal_demands p f ls) d none) → OptionalNormalFits p blocks ls.classes (optional_target p f ls d)
optional_normal_fits p blocks f ls None body fits m = tt
optional_normal_fits p blocks f ls (Some d) body fits m = normal_fits p blocks f ls d body fits m

pub optional_exceptional_fits : (p : Tables) (blocks : Blocks) (f : Body) (ls : Locals) (d : Option Destination) → BodyFits blocks f → LocalsFit ls →
    AllMet (option_map_or (exceptional_demands p f ls) d none) → OptionalTargetFits p blocks ls.classes (optional_target p f ls d)
optional_exceptional_fits p blocks f ls None body fits m = tt
optional_exceptional_fits p blocks f ls (Some d) body fits m = exceptional_fits p blocks f ls d body fits m

-- ---- KEEPALIVE

is_variable : (ls : Locals) (name : List ℕ) (o : Option Variable) → LocalsFit ls → found ls.names name ≡ o → is_some o ≡ true →
    is_some (slice_get ls.classes (variable_number o)) ≡ true
is_variable ls name None fits e h = cc
is_variable ls name (Some v) fits e h = ap is_some (fits.each name v e)

pub are_variables : (ls : Locals) (ns : List Name) → LocalsFit ls → AllMet (variable_demands ls ns) → AreVariables ls.classes (numbers_in ls ns)
are_variables ls [] fits m = tt
are_variables ls (n ∷ ns) fits m = (is_variable ls n.text (found ls.names n.text) fits refl m.0, are_variables ls ns fits m.1)

pub keepalive_fits : (ls : Locals) (ns : Option (List Name)) → LocalsFit ls → AllMet (option_map_or (variable_demands ls) ns none) → AreVariables ls.classes (keepalive_numbers ls ns)
keepalive_fits ls None fits m = tt
keepalive_fits ls (Some ns) fits m = are_variables ls ns fits m
