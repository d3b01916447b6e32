-- Well typed code, as a machine needs it, in terms of numbers and classes alone. p are the tables of a bundle, of which only
-- what is known by number is used; blocks says which numbers are those of blocks of the function, and what each of these takes; returns
-- are the classes of what the function gives; ks are the classes of a block's variables so far, by number; gs are the classes of what an
-- instruction gives.
use Rattle.std.specs.Prelude.{◌≡◌, ℕ, ◌^◌, Bool, true, false, List, [], ◌∷◌, ◌++◌, Option, Some, None, IsSomeAnd, is_some, slice_get, take, nat_lt, not, ◌&&◌, ◌||◌}
use Rattle.name_scopes.specs.Names.{found}
use Rattle.type_definitions.specs.declared.definition.TypeDef.{TypeDef}
use Rattle.type_definitions.specs.Same.{IsGraph}
use Rattle.type_definitions.specs.Parts.{parts_at}
use Rattle.check_tables.specs.declared.tables.Signature.{Signature}
use Rattle.check_tables.specs.declared.tables.Tables.{Tables}
use Rattle.check_tables.specs.Types.{definition_at, class_at, leaves_at, is_type_there, ref_at, iref_at, funcref_at, int1, int32, stackref, threadref, ref_void}
use Rattle.check_tables.specs.Lookups.{signature_in, funcref_of}
use Rattle.check_tables.specs.TypeTests.{is_int, is_int64, is_index_type, is_scalar, is_sized, is_no_hybrid, is_value_type, is_castable, are_cast, is_hybrid, fields_of, fixed_fields_of, element_of, repeated_of}
use Rattle.checked_code.specs.declared.code.Source.{Source}
use Rattle.checked_code.specs.declared.code.Source.TheVariants as sources
use Rattle.checked_code.specs.declared.code.Target.{Target}
use Rattle.checked_code.specs.declared.code.Entered.{Entered}
use Rattle.checked_code.specs.declared.code.Entered.TheVariants as entered
use Rattle.checked_code.specs.declared.code.CaseForm.{CaseForm}
use Rattle.checked_code.specs.declared.code.ComputationForm.{ComputationForm}
use Rattle.checked_code.specs.declared.code.ComputationForm.TheVariants as computing
use Rattle.checked_code.specs.declared.code.ControlForm.{ControlForm}
use Rattle.checked_code.specs.declared.code.ControlForm.TheVariants as going
use Rattle.checked_code.specs.declared.code.AllocationForm.{AllocationForm}
use Rattle.checked_code.specs.declared.code.AllocationForm.TheVariants as making
use Rattle.checked_code.specs.declared.code.AddressingForm.{AddressingForm}
use Rattle.checked_code.specs.declared.code.AddressingForm.TheVariants as finding
use Rattle.checked_code.specs.declared.code.AccessForm.{AccessForm}
use Rattle.checked_code.specs.declared.code.AccessForm.TheVariants as accessing
use Rattle.checked_code.specs.declared.code.TrappingForm.{TrappingForm}
use Rattle.checked_code.specs.declared.code.TrappingForm.TheVariants as asking
use Rattle.checked_code.specs.declared.code.SwitchForm.{SwitchForm}
use Rattle.checked_code.specs.declared.code.SwitchForm.TheVariants as switching
use Rattle.checked_code.specs.declared.code.CommonForm.{CommonForm}
use Rattle.checked_code.specs.declared.code.CommonForm.TheVariants as named
use Rattle.checked_code.specs.declared.code.Form.{Form}
use Rattle.checked_code.specs.declared.code.Form.TheVariants as forms
use Rattle.checked_code.specs.declared.code.Code.{Code}
use Rattle.checked_code.specs.declared.scopes.BlockEntry.{BlockEntry}
use Rattle.checked_code.specs.declared.scopes.Locals.{Locals}
use Rattle.checked_code.specs.declared.scopes.Variable.{Variable}
use Rattle.checked_code.specs.declared.scopes.Body.{Body}
use Rattle.checked_code.specs.Computations.{compares, converts}
use Rattle.checked_code.specs.Accesses.{may_load, may_store, may_update, may_fail, may_fence, updates_type}

-- ---- where values come from

-- what the source stands for is there, and has this class
abbrev pub SourceFits : Tables → List ℕ → Source → ℕ → Type 0
SourceFits p ks (sources.Variable n) c = slice_get ks n ≡ Some c
SourceFits p ks (sources.Constant n) c = slice_get p.constants n ≡ Some c
SourceFits p ks (sources.GlobalCell n) c = slice_get p.global_cells n ≡ Some c
SourceFits p ks (sources.Function n) c = funcref_of (signature_in p (slice_get p.functions n)) ≡ Some c

-- equally many, and each source has the class at its place
abbrev pub SourcesFit : Tables → List ℕ → List Source → List ℕ → Type 0
SourcesFit p ks [] [] = Unit {0}
SourcesFit p ks [] (c ∷ cs) = ⊥
SourcesFit p ks (s ∷ ss) [] = ⊥
SourcesFit p ks (s ∷ ss) (c ∷ cs) = SourceFits p ks s c × SourcesFit p ks ss cs

-- a source that may be left out
abbrev pub OptionalFits : Tables → List ℕ → Option Source → ℕ → Type 0
OptionalFits p ks None c = Unit {0}
OptionalFits p ks (Some s) c = SourceFits p ks s c

-- the number is that of a variable
abbrev pub IsVariable : List ℕ → ℕ → Type 0
IsVariable ks n = is_some (slice_get ks n) ≡ true

abbrev pub AreVariables : List ℕ → List ℕ → Type 0
AreVariables ks [] = Unit {0}
AreVariables ks (n ∷ ns) = IsVariable ks n × AreVariables ks ns

-- ---- types

-- a type that is written has this class, and its definition passes the test
pub record HasType (p : Tables) (test : Option TypeDef → Bool) (c : ℕ) : Type 0 where
  -- the number of the type
  pub number : ℕ
  pub class : class_at p.types number ≡ Some c
  pub passes : test (definition_at p.types number) ≡ true

-- the class of a type that variables may have
pub record HasValueType (p : Tables) (c : ℕ) : Type 0 where
  pub number : ℕ
  pub class : class_at p.types number ≡ Some c
  pub passes : is_value_type (definition_at p.types number) (leaves_at p.types number) ≡ true

-- each is the class of such a type
abbrev pub HaveValueTypes : Tables → List ℕ → Type 0
HaveValueTypes p [] = Unit {0}
HaveValueTypes p (c ∷ cs) = HasValueType p c × HaveValueTypes p cs

-- a reference to a place, and one to an object, of the type with a number
abbrev pub PlaceFits : Tables → List ℕ → Source → ℕ → Type 0
PlaceFits p ks s t = IsSomeAnd (iref_at p.types t) (λ c. SourceFits p ks s c)

abbrev pub ObjectFits : Tables → List ℕ → Source → ℕ → Type 0
ObjectFits p ks s t = IsSomeAnd (ref_at p.types t) (λ c. SourceFits p ks s c)

-- a value of the type with a number
abbrev pub TypeFits : Tables → List ℕ → Source → ℕ → Type 0
TypeFits p ks s t = IsSomeAnd (class_at p.types t) (λ c. SourceFits p ks s c)

-- a value of type int<64>: its class is defined as that
abbrev pub Int64Fits : Tables → List ℕ → Source → Type 0
Int64Fits p ks s = (c : ℕ) × SourceFits p ks s c × (is_int64 (definition_at p.types c) ≡ true)

-- all that is given is a value, a reference to a place or one to an object of the type with a number
abbrev pub GivesType : Tables → ℕ → List ℕ → Type 0
GivesType p t gs = IsSomeAnd (class_at p.types t) (λ c. gs ≡ c ∷ [])

abbrev pub GivesPlace : Tables → ℕ → List ℕ → Type 0
GivesPlace p t gs = IsSomeAnd (iref_at p.types t) (λ c. gs ≡ c ∷ [])

abbrev pub GivesObject : Tables → ℕ → List ℕ → Type 0
GivesObject p t gs = IsSomeAnd (ref_at p.types t) (λ c. gs ≡ c ∷ [])

-- one of some fields, counted from 0
abbrev pub nth_of : Option (List ℕ) → ℕ → Option ℕ
nth_of None n = None
nth_of (Some fields) n = slice_get fields n

-- the type of a field of a struct, and of a fixed field of a struct or hybrid
abbrev pub nth_field : ℕ → Option TypeDef → Option ℕ
nth_field n d = nth_of (fields_of d) n

abbrev pub nth_fixed_field : ℕ → Option TypeDef → Option ℕ
nth_fixed_field n d = nth_of (fixed_fields_of d) n

abbrev pub has_fixed_field : ℕ → Option TypeDef → Bool
has_fixed_field n d = is_some (nth_fixed_field n d)

abbrev pub has_element : Option TypeDef → Bool
has_element d = is_some (element_of d)

-- a signature that is written has this class
pub record HasSignature (p : Tables) (c : ℕ) : Type 0 where
  pub number : ℕ
  pub entry : Signature
  pub there : slice_get p.signatures number ≡ Some entry
  pub class : entry.class ≡ c

-- ---- destinations

-- what the block with a number takes; nothing where the function has no such block
abbrev pub Blocks : Type 0
Blocks = ℕ → Option BlockEntry

-- where an exception may go: the block is there, and the arguments are of its parameters
pub record TargetFits (p : Tables) (blocks : Blocks) (ks : List ℕ) (t : Target) : Type 0 where
  pub entry : BlockEntry
  pub there : blocks t.block ≡ Some entry
  pub arguments : SourcesFit p ks t.arguments entry.takes

-- every other destination: the block has no handler
pub record NormalFits (p : Tables) (blocks : Blocks) (ks : List ℕ) (t : Target) : Type 0 where
  pub target : TargetFits p blocks ks t
  pub no_handler : target.entry.has_handler ≡ false

-- destinations that may be left out
abbrev pub OptionalTargetFits : Tables → Blocks → List ℕ → Option Target → Type 0
OptionalTargetFits p blocks ks None = Unit {0}
OptionalTargetFits p blocks ks (Some t) = TargetFits p blocks ks t

abbrev pub OptionalNormalFits : Tables → Blocks → List ℕ → Option Target → Type 0
OptionalNormalFits p blocks ks None = Unit {0}
OptionalNormalFits p blocks ks (Some t) = NormalFits p blocks ks t

-- ---- the forms: each fits the variables before it, and gives values of the classes gs

abbrev pub ComputationFits : Tables → List ℕ → ComputationForm → List ℕ → Type 0
-- an int type; both operands have it, and so has the result
ComputationFits p ks (computing.Binary op c a b) gs = HasType p is_int c × SourceFits p ks a c × SourceFits p ks b c × (gs ≡ c ∷ [])
-- a type that the operator compares; both operands have it; the result is of type int<1>
ComputationFits p ks (computing.Compare op c a b) gs =
    HasType p (compares op) c × SourceFits p ks a c × SourceFits p ks b c × (gs ≡ int1 p.types ∷ [])
-- an int type, and one to which the operator leads from there; the operand has the first, the result the second
ComputationFits p ks (computing.Convert op c d a) gs =
    (s : HasType p is_int c) × HasType p (converts op (definition_at p.types s.number)) d × SourceFits p ks a c × (gs ≡ d ∷ [])
-- both are references to objects, both to places, or both to functions; the operand has the first, the result the second
ComputationFits p ks (computing.Refcast c d a) gs =
    (s : HasType p is_castable c) × HasType p (are_cast (definition_at p.types s.number)) d × SourceFits p ks a c × (gs ≡ d ∷ [])
-- a type that variables may have; the condition is of type int<1>; both operands and the result have the type
ComputationFits p ks (computing.Select c s a b) gs =
    HasValueType p c × SourceFits p ks s (int1 p.types) × SourceFits p ks a c × SourceFits p ks b c × (gs ≡ c ∷ [])
-- a type that variables may have, with a field of this number; the operand has it; the result has the field's type
ComputationFits p ks (computing.Extractvalue c n a) gs =
    (t : HasValueType p c) × SourceFits p ks a c × IsSomeAnd (nth_field n (definition_at p.types t.number)) (λ k. GivesType p k gs)
-- the same; the second operand has the field's type, and the result that of the first
ComputationFits p ks (computing.Insertvalue c n a b) gs =
    (t : HasValueType p c) × SourceFits p ks a c × IsSomeAnd (nth_field n (definition_at p.types t.number)) (λ k. TypeFits p ks b k) × (gs ≡ c ∷ [])

-- each constant is there and of the class that is switched on, and its destination fits
abbrev pub CasesFit : Tables → Blocks → List ℕ → ℕ → List CaseForm → Type 0
CasesFit p blocks ks c [] = Unit {0}
CasesFit p blocks ks c (x ∷ xs) = ((slice_get p.constants x.constant ≡ Some c) × NormalFits p blocks ks x.target) × CasesFit p blocks ks c xs

abbrev pub ControlFits : Tables → Blocks → List ℕ → List ℕ → ControlForm → List ℕ → Type 0
ControlFits p blocks returns ks (going.Branch t) gs = NormalFits p blocks ks t × (gs ≡ [])
-- the condition is of type int<1>
ControlFits p blocks returns ks (going.Branch2 s t u) gs = SourceFits p ks s (int1 p.types) × NormalFits p blocks ks t × NormalFits p blocks ks u × (gs ≡ [])
-- an int type; the operand and the constants have it
ControlFits p blocks returns ks (going.Switch c a t cases) gs =
    HasType p is_int c × SourceFits p ks a c × NormalFits p blocks ks t × CasesFit p blocks ks c cases × (gs ≡ [])
-- a signature; the callee is a reference to a function of it, the arguments are of its parameters, and the results are its results
ControlFits p blocks returns ks (going.Call s f vs) gs =
    (z : HasSignature p s) × SourceFits p ks f z.entry.funcref × SourcesFit p ks vs z.entry.takes × (gs ≡ z.entry.gives)
-- the same, and the results of the signature are those of the function that is left
ControlFits p blocks returns ks (going.Tailcall s f vs) gs =
    (z : HasSignature p s) × (z.entry.gives ≡ returns) × SourceFits p ks f z.entry.funcref × SourcesFit p ks vs z.entry.takes × (gs ≡ [])
-- the values are what the function gives
ControlFits p blocks returns ks (going.Ret vs) gs = SourcesFit p ks vs returns × (gs ≡ [])
-- the exception is of type ref<void>
ControlFits p blocks returns ks (going.Throw s) gs = SourceFits p ks s (ref_void p.types) × (gs ≡ [])

abbrev pub AllocationFits : Tables → List ℕ → AllocationForm → List ℕ → Type 0
-- no hybrid; the result is a reference to an object of the type
AllocationFits p ks (making.New c) gs = (t : HasType p is_no_hybrid c) × GivesObject p t.number gs
-- a hybrid, and an int type, which the length has; the result is a reference to an object of the hybrid
AllocationFits p ks (making.Newhybrid c d n) gs = (t : HasType p is_hybrid c) × HasType p is_index_type d × SourceFits p ks n d × GivesObject p t.number gs
-- no hybrid; the result is a reference to a place of the type
AllocationFits p ks (making.Alloca c) gs = (t : HasType p is_no_hybrid c) × GivesPlace p t.number gs

abbrev pub AddressingFits : Tables → List ℕ → AddressingForm → List ℕ → Type 0
-- a reference to an object of a type that is there; the result is one to a place of the type
AddressingFits p ks (finding.Getiref c r) gs = (t : HasType p is_type_there c) × ObjectFits p ks r t.number × GivesPlace p t.number gs
-- a struct or hybrid with a fixed field of this number; a reference to a place of it; the result is one to a place of the field's type
AddressingFits p ks (finding.Getfieldiref c n l) gs =
    (t : HasType p (has_fixed_field n) c) × PlaceFits p ks l t.number × IsSomeAnd (nth_fixed_field n (definition_at p.types t.number)) (λ k. GivesPlace p k gs)
-- an array, and an int type, which the index has; a reference to a place of the array; the result is one to a place of its elements' type
AddressingFits p ks (finding.Getelemiref c d l x) gs =
    (t : HasType p has_element c) × HasType p is_index_type d × PlaceFits p ks l t.number × SourceFits p ks x d
    × IsSomeAnd (element_of (definition_at p.types t.number)) (λ k. GivesPlace p k gs)
-- neither void nor a hybrid, and an int type, which the offset has; a reference to a place of the first, and so is the result
AddressingFits p ks (finding.Shiftiref c d l x) gs =
    (t : HasType p is_sized c) × HasType p is_index_type d × PlaceFits p ks l t.number × SourceFits p ks x d × GivesPlace p t.number gs
-- a hybrid; a reference to a place of it; the result is one to a place of the type of which it has any number
AddressingFits p ks (finding.Getvarpartiref c l) gs =
    (t : HasType p is_hybrid c) × PlaceFits p ks l t.number × IsSomeAnd (repeated_of (definition_at p.types t.number)) (λ k. GivesPlace p k gs)

abbrev pub AccessFits : Tables → List ℕ → AccessForm → List ℕ → Type 0
-- an order of loads; a scalar type; a reference to a place of it; the result has the type
AccessFits p ks (accessing.Load o c l) gs = (may_load o ≡ true) × (t : HasType p is_scalar c) × PlaceFits p ks l t.number × (gs ≡ c ∷ [])
-- an order of stores; a scalar type; a reference to a place of it, and a value of it
AccessFits p ks (accessing.Store o c l v) gs =
    (may_store o ≡ true) × (t : HasType p is_scalar c) × PlaceFits p ks l t.number × SourceFits p ks v c × (gs ≡ [])
-- orders of updates and of failing ones; a scalar type; a reference to a place of it, and two values of it; the results are one more
-- and whether they were exchanged
AccessFits p ks (accessing.Cmpxchg w s f c l v u) gs =
    (may_update s ≡ true) × (may_fail f ≡ true) × (t : HasType p is_scalar c) × PlaceFits p ks l t.number × SourceFits p ks v c × SourceFits p ks u c
    × (gs ≡ c ∷ int1 p.types ∷ [])
-- an order of updates; a type that the operator updates; a reference to a place of it, and a value of it; the result is one more
AccessFits p ks (accessing.Atomicrmw o op c l v) gs =
    (may_update o ≡ true) × (t : HasType p (updates_type op) c) × PlaceFits p ks l t.number × SourceFits p ks v c × (gs ≡ c ∷ [])
-- an order of fences
AccessFits p ks (accessing.Fence o) gs = (may_fence o ≡ true) × (gs ≡ [])

abbrev pub TrappingFits : Tables → Blocks → List ℕ → TrappingForm → List ℕ → Type 0
-- types that variables may have, which the results have
TrappingFits p blocks ks (asking.Trap cs) gs = HaveValueTypes p cs × (gs ≡ cs)
-- a number below 2^32; the same; where it goes on when it is disabled
TrappingFits p blocks ks (asking.Watchpoint n cs t) gs = (nat_lt n (2 ^ 32) ≡ true) × HaveValueTypes p cs × NormalFits p blocks ks t × (gs ≡ cs)
-- a number below 2^32, and two destinations
TrappingFits p blocks ks (asking.Wpbranch n t u) gs = (nat_lt n (2 ^ 32) ≡ true) × NormalFits p blocks ks t × NormalFits p blocks ks u × (gs ≡ [])

-- what a stack is entered with: values of types that variables may have, or an exception of type ref<void>
abbrev pub EnteredFits : Tables → List ℕ → Entered → Type 0
EnteredFits p ks (entered.Values cs vs) = HaveValueTypes p cs × SourcesFit p ks vs cs
EnteredFits p ks (entered.Exception s) = SourceFits p ks s (ref_void p.types)

abbrev pub SwitchFits : Tables → List ℕ → SwitchForm → List ℕ → Type 0
-- a stackref; types that variables may have, which the results have; what the stack is entered with
SwitchFits p ks (switching.SwapReturning s cs e) gs = SourceFits p ks s (stackref p.types) × HaveValueTypes p cs × EnteredFits p ks e × (gs ≡ cs)
SwitchFits p ks (switching.SwapKilling s e) gs = SourceFits p ks s (stackref p.types) × EnteredFits p ks e × (gs ≡ [])
-- a stackref; the thread's own object, where it is given, is of type ref<void>; the result is a threadref
SwitchFits p ks (switching.Newthread s tl e) gs =
    SourceFits p ks s (stackref p.types) × OptionalFits p ks tl (ref_void p.types) × EnteredFits p ks e × (gs ≡ threadref p.types ∷ [])

abbrev pub CommonFits : Tables → List ℕ → CommonForm → List ℕ → Type 0
-- a signature, and a reference to a function of it; the result is a stackref
CommonFits p ks (named.NewStack s f) gs = (z : HasSignature p s) × SourceFits p ks f z.entry.funcref × (gs ≡ stackref p.types ∷ [])
CommonFits p ks (named.KillStack s) gs = SourceFits p ks s (stackref p.types) × (gs ≡ [])
CommonFits p ks named.ThreadExit gs = gs ≡ []
CommonFits p ks named.CurrentStack gs = gs ≡ stackref p.types ∷ []
CommonFits p ks (named.SetThreadlocal r) gs = SourceFits p ks r (ref_void p.types) × (gs ≡ [])
CommonFits p ks named.GetThreadlocal gs = gs ≡ ref_void p.types ∷ []
-- an int type; a reference to a place of it, and a value of it; the result is of type int<32>
CommonFits p ks (named.FutexWait c l v) gs =
    (t : HasType p is_int c) × PlaceFits p ks l t.number × SourceFits p ks v c × (gs ≡ int32 p.types ∷ [])
-- an int type; a reference to a place of it; the count and the result are of type int<32>
CommonFits p ks (named.FutexWake c l n) gs =
    (t : HasType p is_int c) × PlaceFits p ks l t.number × SourceFits p ks n (int32 p.types) × (gs ≡ int32 p.types ∷ [])
-- an int type; a reference to a place of it, a value of it, and a limit of type int<64>; the result is of type int<32>
CommonFits p ks (named.FutexWaitTimeout c l v n) gs =
    (t : HasType p is_int c) × PlaceFits p ks l t.number × SourceFits p ks v c × Int64Fits p ks n × (gs ≡ int32 p.types ∷ [])

abbrev pub FormFits : Tables → Blocks → List ℕ → List ℕ → Form → List ℕ → Type 0
FormFits p blocks returns ks (forms.Computation f) gs = ComputationFits p ks f gs
FormFits p blocks returns ks (forms.Control f) gs = ControlFits p blocks returns ks f gs
FormFits p blocks returns ks (forms.Allocation f) gs = AllocationFits p ks f gs
FormFits p blocks returns ks (forms.Addressing f) gs = AddressingFits p ks f gs
FormFits p blocks returns ks (forms.Access f) gs = AccessFits p ks f gs
FormFits p blocks returns ks (forms.Trapping f) gs = TrappingFits p blocks ks f gs
FormFits p blocks returns ks (forms.Switch f) gs = SwitchFits p ks f gs
FormFits p blocks returns ks (forms.Common f) gs = CommonFits p ks f gs

-- ---- where it goes on

-- whether an instruction of this form may be told so: each of the tests gets whether it is told where it goes on with its results, and
-- whether it is told where it goes on with an exception; EXC tells both
abbrev pub both_or_none : Bool → Bool → Bool
both_or_none true exceptional = exceptional
both_or_none false exceptional = not exceptional

abbrev pub neither : Bool → Bool → Bool
neither normal exceptional = not normal && not exceptional

abbrev pub computation_exits : ComputationForm → Bool → Bool → Bool
computation_exits (computing.Binary op c a b) = both_or_none
computation_exits _ = neither

abbrev pub control_exits : ControlForm → Bool → Bool → Bool
control_exits (going.Call s f vs) = both_or_none
control_exits _ = neither

abbrev pub access_exits : AccessForm → Bool → Bool → Bool
access_exits (accessing.Fence o) = neither
access_exits _ = both_or_none

-- a WATCHPOINT is always told where it goes on with its results, and may be told the other
abbrev pub trapping_exits : TrappingForm → Bool → Bool → Bool
trapping_exits (asking.Trap cs) normal exceptional = both_or_none normal exceptional
trapping_exits (asking.Watchpoint n cs t) normal exceptional = normal
trapping_exits (asking.Wpbranch n t u) normal exceptional = neither normal exceptional

abbrev pub switch_exits : SwitchForm → Bool → Bool → Bool
switch_exits (switching.SwapReturning s cs e) = both_or_none
switch_exits (switching.SwapKilling s e) = neither
switch_exits (switching.Newthread s tl e) = both_or_none

abbrev pub exits : Form → Bool → Bool → Bool
exits (forms.Computation f) = computation_exits f
exits (forms.Control f) = control_exits f
exits (forms.Allocation f) = both_or_none
exits (forms.Addressing f) = neither
exits (forms.Access f) = access_exits f
exits (forms.Trapping f) = trapping_exits f
exits (forms.Switch f) = switch_exits f
exits (forms.Common f) = neither

-- ---- an instruction

-- its form fits the variables before it, and may be told where it goes on as it is; where it goes on with its results fits the variables
-- behind it, which are those before it and its results; where it goes on with an exception fits those before it, and so do the variables
-- of KEEPALIVE
pub record CodeFits (p : Tables) (blocks : Blocks) (returns : List ℕ) (ks : List ℕ) (code : Code) (gs : List ℕ) : Type 0 where
  pub form : FormFits p blocks returns ks code.form gs
  pub told : exits code.form (is_some code.normal) (is_some code.exceptional) ≡ true
  pub normal : OptionalNormalFits p blocks (ks ++ gs) code.normal
  pub exceptional : OptionalTargetFits p blocks ks code.exceptional
  pub keepalive : AreVariables ks code.keepalive

-- the code of a block from variables of the classes ks on, and what each instruction gives: each fits the variables before it
abbrev pub CodesFit : Tables → Blocks → List ℕ → List ℕ → List Code → List (List ℕ) → Type 0
CodesFit p blocks returns ks [] [] = Unit {0}
CodesFit p blocks returns ks [] (gs ∷ gss) = ⊥
CodesFit p blocks returns ks (i ∷ is) [] = ⊥
CodesFit p blocks returns ks (i ∷ is) (gs ∷ gss) = CodeFits p blocks returns ks i gs × CodesFit p blocks returns (ks ++ gs) is gss

-- the classes of all that instructions give
abbrev pub joined : List (List ℕ) → List ℕ
joined [] = []
joined (gs ∷ gss) = gs ++ joined gss

-- what the instruction at a place of such code gives; it fits the variables before it, which are ks and all that was given before
pub record CodeAt (p : Tables) (blocks : Blocks) (returns : List ℕ) (ks : List ℕ) (gss : List (List ℕ)) (at : ℕ) (code : Code) : Type 0 where
  pub given : List ℕ
  pub there : slice_get gss at ≡ Some given
  pub fits : CodeFits p blocks returns (ks ++ joined (take at gss)) code given

-- ---- endings

-- BRANCH, BRANCH2, SWITCH, TAILCALL, RET and THROW end their block, so do WATCHPOINT and WPBRANCH, SWAPSTACK with KILL_OLD, and
-- @uvm.thread_exit
abbrev pub control_form_ends : ControlForm → Bool
control_form_ends (going.Call s f vs) = false
control_form_ends _ = true

abbrev pub trapping_form_ends : TrappingForm → Bool
trapping_form_ends (asking.Trap cs) = false
trapping_form_ends (asking.Watchpoint n cs t) = true
trapping_form_ends (asking.Wpbranch n t u) = true

abbrev pub switch_form_ends : SwitchForm → Bool
switch_form_ends (switching.SwapReturning s cs e) = false
switch_form_ends (switching.SwapKilling s e) = true
switch_form_ends (switching.Newthread s tl e) = false

abbrev pub common_form_ends : CommonForm → Bool
common_form_ends named.ThreadExit = true
common_form_ends _ = false

abbrev pub form_ends : Form → Bool
form_ends (forms.Control f) = control_form_ends f
form_ends (forms.Trapping f) = trapping_form_ends f
form_ends (forms.Switch f) = switch_form_ends f
form_ends (forms.Common f) = common_form_ends f
form_ends _ = false

-- and every instruction that is told where it goes on
abbrev pub code_ends : Code → Bool
code_ends code = form_ends code.form || is_some code.normal

-- there is a last instruction, it ends the block, and no other does
abbrev pub EndsAtLast : List Code → Type 0
EndsAtLast [] = ⊥
EndsAtLast (i ∷ []) = code_ends i ≡ true
EndsAtLast (i ∷ j ∷ is) = (code_ends i ≡ false) × EndsAtLast (j ∷ is)

-- ---- a block

-- the code of a block whose parameters and handler have the classes ks
pub record BlockFits (p : Tables) (blocks : Blocks) (returns : List ℕ) (ks : List ℕ) (is : List Code) : Type 0 where
  -- what each instruction gives
  pub given : List (List ℕ)
  pub codes : CodesFit p blocks returns ks is given
  pub ending : EndsAtLast is

-- ---- what is known of names

-- the number of each variable finds its class
pub record LocalsFit (ls : Locals) : Type 0 where
  pub each : (name : List ℕ) (v : Variable) → found ls.names name ≡ Some v → slice_get ls.classes v.number ≡ Some v.class

-- the number of each block of the function finds what the block takes
pub record BodyFits (blocks : Blocks) (f : Body) : Type 0 where
  pub each : (name : List ℕ) (b : BlockEntry) → found f.blocks name ≡ Some b → blocks b.number ≡ Some b

-- ---- what is known of tables

-- they are the tables of a bundle: the types are a graph in which what a written type is made of is written and is a type; a global is a
-- reference to a place of a type, and what is a reference to functions of a signature has the class of such references
pub record TablesFit (p : Tables) : Type 0 where
  pub graph : IsGraph p.types.definitions
  pub parts : (t n k : ℕ) → slice_get (parts_at (definition_at p.types t)) n ≡ Some k → is_type_there (definition_at p.types k) ≡ true
  pub cells : (n c : ℕ) → slice_get p.global_cells n ≡ Some c → (t : ℕ) × (iref_at p.types t ≡ Some c)
  pub signatures : (n : ℕ) (s : Signature) → slice_get p.signatures n ≡ Some s → (k : ℕ) × (funcref_at p.types k ≡ Some s.funcref)
