-- The operands of an instruction, from left to right, each with the type that the typing rules ask of it. Types stand by class.
use Rattle.std.specs.Prelude.{ℕ, List, [], ◌∷◌, ◌++◌, Option, Some, None}
use Rattle.std.specs.Option.{option_map_or}
use Rattle.ir_lex.specs.declared.name.Name.{Name}
use Rattle.ir_tree.specs.declared.operands.Operand.{Operand}
use Rattle.ir_tree.specs.declared.operands.Operand.TheVariants.{Global}
use Rattle.ir_tree.specs.declared.operands.Destination.{Destination}
use Rattle.ir_tree.specs.declared.operands.NewStackClause.{NewStackClause}
use Rattle.ir_tree.specs.declared.operands.NewStackClause.TheVariants as clauses
use Rattle.ir_tree.specs.declared.computing.Computation.{Computation}
use Rattle.ir_tree.specs.declared.computing.Computation.TheVariants as computations
use Rattle.ir_tree.specs.declared.flow.Case.{Case}
use Rattle.ir_tree.specs.declared.flow.ControlFlow.{ControlFlow}
use Rattle.ir_tree.specs.declared.flow.ControlFlow.TheVariants as flows
use Rattle.ir_tree.specs.declared.allocating.Allocation.{Allocation}
use Rattle.ir_tree.specs.declared.allocating.Allocation.TheVariants as allocations
use Rattle.ir_tree.specs.declared.addressing.Addressing.{Addressing}
use Rattle.ir_tree.specs.declared.addressing.Addressing.TheVariants as addressings
use Rattle.ir_tree.specs.declared.accessing.Access.{Access}
use Rattle.ir_tree.specs.declared.accessing.Access.TheVariants as accesses
use Rattle.ir_tree.specs.declared.trapping.Trapping.{Trapping}
use Rattle.ir_tree.specs.declared.trapping.Trapping.TheVariants as trappings
use Rattle.ir_tree.specs.declared.switching.StackSwitch.{StackSwitch}
use Rattle.ir_tree.specs.declared.switching.StackSwitch.TheVariants as switches
use Rattle.ir_tree.specs.declared.common.CommonInst.{CommonInst}
use Rattle.ir_tree.specs.declared.common.CommonInst.TheVariants as commons
use Rattle.ir_tree.specs.declared.code.Op.{Op}
use Rattle.ir_tree.specs.declared.code.Op.TheVariants as ops
use Rattle.check_tables.specs.declared.tables.Tables.{Tables}
use Rattle.check_tables.specs.Types.{class_in, int1, int32, stackref, ref_void}
use Rattle.check_tables.specs.Lookups.{class_named, ref_named, iref_named, signature_named, funcref_of, takes_of, noted_classes}
use Rattle.checked_code.specs.declared.scopes.Body.{Body}
use Rattle.checked_code.specs.Operands.{noted_list}
use Rattle.checked_code.specs.Destinations.{block_named, entry_takes}
use Rattle.checked_code.specs.Computations.{field_named}
use Rattle.checked_code.specs.Instructions.{normal_of, exceptional_of}

-- ---- what is asked

-- A type of this class, where there is one; or int<64>, which a bundle has only where it is written.
pub data Wanted : Type 0 where
  OfClass : Option ℕ → Wanted
  Int64 : Wanted

pub record Asked : Type 0 where
  pub operand : Operand
  pub wanted : Wanted

abbrev pub of_class : Operand → Option ℕ → Asked
of_class o c = record { operand = o; wanted = OfClass c }

-- of the type with this name; a reference to a place of that type; one to an object of it
abbrev pub of_type : Tables → Operand → Name → Asked
of_type p o t = of_class o (class_named p t)

abbrev pub place_of : Tables → Operand → Name → Asked
place_of p o t = of_class o (iref_named p t)

abbrev pub object_of : Tables → Operand → Name → Asked
object_of p o t = of_class o (ref_named p t)

-- a function of the signature with this name
abbrev pub function_of : Tables → Operand → Name → Asked
function_of p o s = of_class o (funcref_of (signature_named p s))

-- Arguments, one of each class in their order. One for which no class is left has no type, so no value fits it.
abbrev pub arguments : List Operand → List ℕ → List Asked
arguments [] cs = []
arguments (o ∷ os) [] = of_class o None ∷ arguments os []
arguments (o ∷ os) (c ∷ cs) = of_class o (Some c) ∷ arguments os cs

-- the arguments of a destination are of its block's parameters
abbrev pub destination_operands : Body → Destination → List Asked
destination_operands f d = arguments d.arguments.values (noted_classes (entry_takes (block_named f d.block)))

-- the arguments of a call are of the signature's parameters
abbrev pub call_operands : Tables → Name → List Operand → List Asked
call_operands p s os = arguments os (noted_classes (takes_of (signature_named p s)))

-- ---- the forms

abbrev pub computation_operands : Tables → Computation → List Asked
computation_operands p (computations.Binary op t a b e) = of_type p a t ∷ of_type p b t ∷ []
computation_operands p (computations.Compare op t a b) = of_type p a t ∷ of_type p b t ∷ []
computation_operands p (computations.Convert op s t a) = of_type p a s ∷ []
computation_operands p (computations.Refcast s t a) = of_type p a s ∷ []
computation_operands p (computations.Select s t c a b) = of_type p c s ∷ of_type p a t ∷ of_type p b t ∷ []
computation_operands p (computations.Extractvalue t n a) = of_type p a t ∷ []
computation_operands p (computations.Insertvalue t n a b) = of_type p a t ∷ of_class b (class_in p.types (field_named p t n)) ∷ []

-- the constants of a SWITCH, and the arguments of its destinations
abbrev pub case_operands : Tables → Body → Name → List Case → List Asked
case_operands p f t [] = []
case_operands p f t (c ∷ cs) = (of_type p (Global c.constant) t ∷ destination_operands f c.destination) ++ case_operands p f t cs

abbrev pub control_operands : Tables → Body → ControlFlow → List Asked
control_operands p f (flows.Branch d) = destination_operands f d
control_operands p f (flows.Branch2 c d e) = of_class c (Some (int1 p.types)) ∷ (destination_operands f d ++ destination_operands f e)
control_operands p f (flows.Switch t a d cs) = of_type p a t ∷ (destination_operands f d ++ case_operands p f t cs)
control_operands p f (flows.Call s c a e k) = function_of p c s ∷ call_operands p s a.values
control_operands p f (flows.Tailcall s c a) = function_of p c s ∷ call_operands p s a.values
control_operands p f (flows.Ret a) = arguments a.values f.gives
control_operands p f (flows.Throw e) = of_class e (Some (ref_void p.types)) ∷ []

abbrev pub allocation_operands : Tables → Allocation → List Asked
allocation_operands p (allocations.New t e) = []
allocation_operands p (allocations.Newhybrid h i n e) = of_type p n i ∷ []
allocation_operands p (allocations.Alloca t e) = []

abbrev pub addressing_operands : Tables → Addressing → List Asked
addressing_operands p (addressings.Getiref t r) = object_of p r t ∷ []
addressing_operands p (addressings.Getfieldiref t n l) = place_of p l t ∷ []
addressing_operands p (addressings.Getelemiref t i l x) = place_of p l t ∷ of_type p x i ∷ []
addressing_operands p (addressings.Shiftiref t i l x) = place_of p l t ∷ of_type p x i ∷ []
addressing_operands p (addressings.Getvarpartiref h l) = place_of p l h ∷ []

abbrev pub access_operands : Tables → Access → List Asked
access_operands p (accesses.Load o t l e) = place_of p l t ∷ []
access_operands p (accesses.Store o t l a e) = place_of p l t ∷ of_type p a t ∷ []
access_operands p (accesses.Cmpxchg w s o t l a b e) = place_of p l t ∷ of_type p a t ∷ of_type p b t ∷ []
access_operands p (accesses.Atomicrmw o op t l a e) = place_of p l t ∷ of_type p a t ∷ []
access_operands p (accesses.Fence o) = []

-- a WATCHPOINT's first destination is where it goes on when it is disabled
abbrev pub trapping_operands : Body → Trapping → List Asked
trapping_operands f (trappings.Trap ts e k) = []
trapping_operands f (trappings.Watchpoint n ts d e x k) = destination_operands f d
trapping_operands f (trappings.Wpbranch n d e) = destination_operands f d ++ destination_operands f e

-- what a stack is entered with
abbrev pub entered_operands : Tables → NewStackClause → List Asked
entered_operands p (clauses.PassValues ts a) = arguments a.values (noted_list p ts)
entered_operands p (clauses.ThrowExc e) = of_class e (Some (ref_void p.types)) ∷ []

abbrev pub threadlocal_operands : Tables → Option Operand → List Asked
threadlocal_operands p o = option_map_or (λ v. of_class v (Some (ref_void p.types)) ∷ []) o []

abbrev pub switch_operands : Tables → StackSwitch → List Asked
switch_operands p (switches.SwapReturning s ts n e k) = of_class s (Some (stackref p.types)) ∷ entered_operands p n
switch_operands p (switches.SwapKilling s n) = of_class s (Some (stackref p.types)) ∷ entered_operands p n
switch_operands p (switches.Newthread s tl n e) = of_class s (Some (stackref p.types)) ∷ (threadlocal_operands p tl ++ entered_operands p n)

abbrev pub common_operands : Tables → CommonInst → List Asked
common_operands p (commons.NewStack s f) = function_of p f s ∷ []
common_operands p (commons.KillStack s) = of_class s (Some (stackref p.types)) ∷ []
common_operands p commons.ThreadExit = []
common_operands p commons.CurrentStack = []
common_operands p (commons.SetThreadlocal r) = of_class r (Some (ref_void p.types)) ∷ []
common_operands p commons.GetThreadlocal = []
common_operands p (commons.FutexWait t l v) = place_of p l t ∷ of_type p v t ∷ []
common_operands p (commons.FutexWake t l n) = place_of p l t ∷ of_class n (Some (int32 p.types)) ∷ []
common_operands p (commons.FutexWaitTimeout t l v n) = place_of p l t ∷ of_type p v t ∷ record { operand = n; wanted = Int64 } ∷ []

abbrev pub form_operands : Tables → Body → Op → List Asked
form_operands p f (ops.Computation c) = computation_operands p c
form_operands p f (ops.ControlFlow c) = control_operands p f c
form_operands p f (ops.Allocation a) = allocation_operands p a
form_operands p f (ops.Addressing a) = addressing_operands p a
form_operands p f (ops.Access a) = access_operands p a
form_operands p f (ops.Trapping t) = trapping_operands f t
form_operands p f (ops.StackSwitch s) = switch_operands p s
form_operands p f (ops.Common c) = common_operands p c

-- ---- an instruction

abbrev pub optional_operands : Body → Option Destination → List Asked
optional_operands f d = option_map_or (destination_operands f) d []

-- what it reads before it has results: the operands of its form, then the arguments of where an exception goes
abbrev pub operands_before : Tables → Body → Op → List Asked
operands_before p f i = form_operands p f i ++ optional_operands f (exceptional_of i)

-- what it reads with its results: the arguments of where it goes on with them
abbrev pub operands_after : Body → Op → List Asked
operands_after f i = optional_operands f (normal_of i)
