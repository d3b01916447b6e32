-- What is demanded of instructions and blocks does not depend on places.
use Rattle.std.proofs.Common.{◌≡◌, ℕ, suc, Bool, not, List, [], ◌∷◌, length, map, nat_eq, is_some, Option, Some, None, option_map, refl, ◌∙◌, ap, ap₂}
use Rattle.std.specs.Option.{option_map_or}
use Rattle.ir_lex.specs.declared.name.Name.{Name}
use Rattle.ir_tree.specs.declared.operands.Operand.{Operand}
use Rattle.ir_tree.specs.declared.operands.Operand.TheVariants as operands
use Rattle.ir_tree.specs.declared.operands.Arguments.{Arguments}
use Rattle.ir_tree.specs.declared.operands.Destination.{Destination}
use Rattle.ir_tree.specs.declared.operands.ExceptionClause.{ExceptionClause}
use Rattle.ir_tree.specs.declared.operands.NewStackClause.{NewStackClause}
use Rattle.ir_tree.specs.declared.operands.NewStackClause.TheVariants as clauses
use Rattle.ir_tree.specs.declared.computing.Computation.{Computation}
use Rattle.ir_tree.specs.declared.computing.Computation.TheVariants as computations
use Rattle.ir_tree.specs.declared.flow.Case.{Case}
use Rattle.ir_tree.specs.declared.flow.ControlFlow.{ControlFlow}
use Rattle.ir_tree.specs.declared.flow.ControlFlow.TheVariants as flows
use Rattle.ir_tree.specs.declared.allocating.Allocation.{Allocation}
use Rattle.ir_tree.specs.declared.allocating.Allocation.TheVariants as allocations
use Rattle.ir_tree.specs.declared.addressing.Addressing.{Addressing}
use Rattle.ir_tree.specs.declared.addressing.Addressing.TheVariants as addressings
use Rattle.ir_tree.specs.declared.accessing.Access.{Access}
use Rattle.ir_tree.specs.declared.accessing.Access.TheVariants as accesses
use Rattle.ir_tree.specs.declared.trapping.Trapping.{Trapping}
use Rattle.ir_tree.specs.declared.trapping.Trapping.TheVariants as trappings
use Rattle.ir_tree.specs.declared.switching.StackSwitch.{StackSwitch}
use Rattle.ir_tree.specs.declared.switching.StackSwitch.TheVariants as switches
use Rattle.ir_tree.specs.declared.common.CommonInst.{CommonInst}
use Rattle.ir_tree.specs.declared.common.CommonInst.TheVariants as commons
use Rattle.ir_tree.specs.declared.code.Op.{Op}
use Rattle.ir_tree.specs.declared.code.Op.TheVariants as ops
use Rattle.ir_tree.specs.declared.code.Inst.{Inst}
use Rattle.ir_print.specs.Placeless.{bare_name, bare_value, bare_values, bare_dest, bare_exc, bare_new_stack_clause, bare_computation, bare_case, bare_control, bare_allocation, bare_addressing, bare_access, bare_trapping, bare_stack_switch, bare_common_inst, bare_op, bare_inst}
use Rattle.check_tables.specs.declared.fault.CheckKind.{CheckKind}
use Rattle.check_tables.specs.declared.fault.CheckKind.TheVariants.{OperandType, ArgumentType, AfterEnding, ResultCount}
use Rattle.check_tables.specs.declared.tables.Tables.{Tables}
use Rattle.checked_code.specs.declared.scopes.Locals.{Locals}
use Rattle.checked_code.specs.declared.scopes.Body.{Body}
use Rattle.demands.specs.Demands.{Demands, none, demand, ◌⨾◌}
use Rattle.check_tables.specs.Lookups.{class_named, ref_named, iref_named, noted_class, signature_named, funcref_of, takes_of, noted_classes}
use Rattle.check_tables.specs.Types.{class_in, int1, int32, stackref, ref_void}
use Rattle.checked_code.specs.Operands.{operand_demands, int64_demands, member_demands, argument_demands, value_type_demands, noted_list, variable_demands}
use Rattle.checked_code.specs.Destinations.{block_named, entry_takes, exceptional_demands, normal_demands, entered_demands}
use Rattle.checked_code.specs.Computations.{field_named, computation_demands}
use Rattle.checked_code.specs.Control.{case_demands, control_demands}
use Rattle.checked_code.specs.Objects.{allocation_demands, addressing_demands}
use Rattle.checked_code.specs.Accesses.{access_demands}
use Rattle.checked_code.specs.Stacks.{trapping_demands, threadlocal_demands, switch_demands}
use Rattle.checked_code.specs.Commons.{common_demands}
use Rattle.checked_code.specs.Instructions.{op_demands, gives, exc_of, normal_of, exceptional_of, keepalive_of, is_ending, bound, bound_results, after, inst_demands, insts_demands, ends}
use Rattle.join_laws.proofs.Nowhere.{nowhere}

-- ---- operands and lists

operand_bare : (p : Tables) (ls : Locals) (kind : CheckKind) (o : Operand) (wanted : Option ℕ) → operand_demands p ls kind (bare_value o) wanted ≡ nowhere (operand_demands p ls kind o wanted)
operand_bare p ls kind (operands.Local n) wanted = refl
operand_bare p ls kind (operands.Global n) wanted = refl

int64_bare : (p : Tables) (ls : Locals) (o : Operand) → int64_demands p ls (bare_value o) ≡ nowhere (int64_demands p ls o)
int64_bare p ls (operands.Local n) = refl
int64_bare p ls (operands.Global n) = refl

members_bare : (p : Tables) (ls : Locals) (os : List Operand) (cs : List ℕ) → member_demands p ls (map bare_value os) cs ≡ nowhere (member_demands p ls os cs)
members_bare p ls [] cs = refl
members_bare p ls (o ∷ os) [] = refl
members_bare p ls (o ∷ os) (c ∷ cs) = ap₂ (λ (x y : Demands CheckKind). x ⨾ y) (operand_bare p ls ArgumentType o (Some c)) (members_bare p ls os cs)

pub as_many : {A : Type 0} (bare : A → A) (xs : List A) → length (map bare xs) ≡ length xs
as_many bare [] = refl
as_many bare (x ∷ xs) = ap (λ (n : ℕ). suc n) (as_many bare xs)

arguments_bare : (p : Tables) (ls : Locals) (a : Arguments) (wanted : Option (List ℕ)) → argument_demands p ls (bare_values a) wanted ≡ nowhere (argument_demands p ls a wanted)
unfolding argument_demands
arguments_bare p ls a wanted = rw (as_many bare_value a.values, members_bare p ls a.values (noted_classes wanted)) refl

value_types_bare : (p : Tables) (ns : List Name) → value_type_demands p (map bare_name ns) ≡ nowhere (value_type_demands p ns)
value_types_bare p [] = refl
value_types_bare p (n ∷ ns) = rw (value_types_bare p ns) refl

noted_same : (p : Tables) (ns : List Name) → noted_list p (map bare_name ns) ≡ noted_list p ns
noted_same p [] = refl
noted_same p (n ∷ ns) = ap (λ (cs : List ℕ). noted_class p n ∷ cs) (noted_same p ns)

variables_bare : (ls : Locals) (ns : List Name) → variable_demands ls (map bare_name ns) ≡ nowhere (variable_demands ls ns)
variables_bare ls [] = refl
variables_bare ls (n ∷ ns) = rw (variables_bare ls ns) refl

exceptional_bare : (p : Tables) (f : Body) (ls : Locals) (d : Destination) → exceptional_demands p f ls (bare_dest d) ≡ nowhere (exceptional_demands p f ls d)
exceptional_bare p f ls d = arguments_bare p ls d.arguments (entry_takes (block_named f d.block))

normal_bare : (p : Tables) (f : Body) (ls : Locals) (d : Destination) → normal_demands p f ls (bare_dest d) ≡ nowhere (normal_demands p f ls d)
normal_bare p f ls d = rw (exceptional_bare p f ls d) refl

entered_bare : (p : Tables) (ls : Locals) (c : NewStackClause) → entered_demands p ls (bare_new_stack_clause c) ≡ nowhere (entered_demands p ls c)
entered_bare p ls (clauses.PassValues ts a) =
    ap₂ (λ (x y : Demands CheckKind). x ⨾ y) (value_types_bare p ts) (ap (λ (cs : List ℕ). argument_demands p ls (bare_values a) (Some cs)) (noted_same p ts) ∙ arguments_bare p ls a (Some (noted_list p ts)))
entered_bare p ls (clauses.ThrowExc e) = operand_bare p ls OperandType e (Some (ref_void p.types))

-- ---- by form

computation_bare : (p : Tables) (ls : Locals) (c : Computation) → computation_demands p ls (bare_computation c) ≡ nowhere (computation_demands p ls c)
computation_bare p ls (computations.Binary op t a b e) = rw (operand_bare p ls OperandType a (class_named p t), operand_bare p ls OperandType b (class_named p t)) refl
computation_bare p ls (computations.Compare op t a b) = rw (operand_bare p ls OperandType a (class_named p t), operand_bare p ls OperandType b (class_named p t)) refl
computation_bare p ls (computations.Convert op s t a) = rw (operand_bare p ls OperandType a (class_named p s)) refl
computation_bare p ls (computations.Refcast s t a) = rw (operand_bare p ls OperandType a (class_named p s)) refl
computation_bare p ls (computations.Select s t c a b) =
    rw (operand_bare p ls OperandType c (class_named p s), operand_bare p ls OperandType a (class_named p t), operand_bare p ls OperandType b (class_named p t)) refl
computation_bare p ls (computations.Extractvalue t n a) = rw (operand_bare p ls OperandType a (class_named p t)) refl
computation_bare p ls (computations.Insertvalue t n a b) =
    rw (operand_bare p ls OperandType a (class_named p t), operand_bare p ls OperandType b (class_in p.types (field_named p t n))) refl

cases_bare : (p : Tables) (f : Body) (ls : Locals) (t : Name) (cs : List Case) → case_demands p f ls (bare_name t) (map bare_case cs) ≡ nowhere (case_demands p f ls t cs)
cases_bare p f ls t [] = refl
cases_bare p f ls t (c ∷ cs) = rw (normal_bare p f ls c.destination, cases_bare p f ls t cs) refl

control_bare : (p : Tables) (f : Body) (ls : Locals) (c : ControlFlow) → control_demands p f ls (bare_control c) ≡ nowhere (control_demands p f ls c)
control_bare p f ls (flows.Branch d) = normal_bare p f ls d
control_bare p f ls (flows.Branch2 c d e) = rw (operand_bare p ls OperandType c (Some (int1 p.types)), normal_bare p f ls d, normal_bare p f ls e) refl
control_bare p f ls (flows.Switch t a d cs) = rw (operand_bare p ls OperandType a (class_named p t), normal_bare p f ls d, cases_bare p f ls t cs) refl
control_bare p f ls (flows.Call s c a e k) = rw (operand_bare p ls OperandType c (funcref_of (signature_named p s)), arguments_bare p ls a (takes_of (signature_named p s))) refl
control_bare p f ls (flows.Tailcall s c a) = rw (operand_bare p ls OperandType c (funcref_of (signature_named p s)), arguments_bare p ls a (takes_of (signature_named p s))) refl
control_bare p f ls (flows.Ret a) = arguments_bare p ls a (Some f.gives)
control_bare p f ls (flows.Throw e) = operand_bare p ls OperandType e (Some (ref_void p.types))

allocation_bare : (p : Tables) (ls : Locals) (a : Allocation) → allocation_demands p ls (bare_allocation a) ≡ nowhere (allocation_demands p ls a)
allocation_bare p ls (allocations.New t e) = refl
allocation_bare p ls (allocations.Newhybrid h i n e) = rw (operand_bare p ls OperandType n (class_named p i)) refl
allocation_bare p ls (allocations.Alloca t e) = refl

addressing_bare : (p : Tables) (ls : Locals) (a : Addressing) → addressing_demands p ls (bare_addressing a) ≡ nowhere (addressing_demands p ls a)
addressing_bare p ls (addressings.Getiref t r) = operand_bare p ls OperandType r (ref_named p t)
addressing_bare p ls (addressings.Getfieldiref t n l) = rw (operand_bare p ls OperandType l (iref_named p t)) refl
addressing_bare p ls (addressings.Getelemiref t i l x) = rw (operand_bare p ls OperandType l (iref_named p t), operand_bare p ls OperandType x (class_named p i)) refl
addressing_bare p ls (addressings.Shiftiref t i l x) = rw (operand_bare p ls OperandType l (iref_named p t), operand_bare p ls OperandType x (class_named p i)) refl
addressing_bare p ls (addressings.Getvarpartiref h l) = rw (operand_bare p ls OperandType l (iref_named p h)) refl

access_bare : (p : Tables) (ls : Locals) (a : Access) → access_demands p ls (bare_access a) ≡ nowhere (access_demands p ls a)
access_bare p ls (accesses.Load o t l e) = rw (operand_bare p ls OperandType l (iref_named p t)) refl
access_bare p ls (accesses.Store o t l a e) = rw (operand_bare p ls OperandType l (iref_named p t), operand_bare p ls OperandType a (class_named p t)) refl
access_bare p ls (accesses.Cmpxchg w s o t l a b e) =
    rw (operand_bare p ls OperandType l (iref_named p t), operand_bare p ls OperandType a (class_named p t), operand_bare p ls OperandType b (class_named p t)) refl
access_bare p ls (accesses.Atomicrmw o op t l a e) = rw (operand_bare p ls OperandType l (iref_named p t), operand_bare p ls OperandType a (class_named p t)) refl
access_bare p ls (accesses.Fence o) = refl

trapping_bare : (p : Tables) (f : Body) (ls : Locals) (t : Trapping) → trapping_demands p f ls (bare_trapping t) ≡ nowhere (trapping_demands p f ls t)
trapping_bare p f ls (trappings.Trap ts e k) = value_types_bare p ts
trapping_bare p f ls (trappings.Watchpoint n ts d e x k) = rw (value_types_bare p ts, normal_bare p f ls d) refl
trapping_bare p f ls (trappings.Wpbranch n d e) = rw (normal_bare p f ls d, normal_bare p f ls e) refl

threadlocal_bare : (p : Tables) (ls : Locals) (o : Option Operand) → threadlocal_demands p ls (option_map bare_value o) ≡ nowhere (threadlocal_demands p ls o)
threadlocal_bare p ls None = refl
threadlocal_bare p ls (Some o) = operand_bare p ls OperandType o (Some (ref_void p.types))

switch_bare : (p : Tables) (ls : Locals) (s : StackSwitch) → switch_demands p ls (bare_stack_switch s) ≡ nowhere (switch_demands p ls s)
switch_bare p ls (switches.SwapReturning s ts n e k) = rw (operand_bare p ls OperandType s (Some (stackref p.types)), value_types_bare p ts, entered_bare p ls n) refl
switch_bare p ls (switches.SwapKilling s n) = rw (operand_bare p ls OperandType s (Some (stackref p.types)), entered_bare p ls n) refl
switch_bare p ls (switches.Newthread s tl n e) = rw (operand_bare p ls OperandType s (Some (stackref p.types)), threadlocal_bare p ls tl, entered_bare p ls n) refl

common_bare : (p : Tables) (ls : Locals) (c : CommonInst) → common_demands p ls (bare_common_inst c) ≡ nowhere (common_demands p ls c)
common_bare p ls (commons.NewStack s f) = operand_bare p ls OperandType f (funcref_of (signature_named p s))
common_bare p ls (commons.KillStack s) = operand_bare p ls OperandType s (Some (stackref p.types))
common_bare p ls commons.ThreadExit = refl
common_bare p ls commons.CurrentStack = refl
common_bare p ls (commons.SetThreadlocal r) = operand_bare p ls OperandType r (Some (ref_void p.types))
common_bare p ls commons.GetThreadlocal = refl
common_bare p ls (commons.FutexWait t l v) = rw (operand_bare p ls OperandType l (iref_named p t), operand_bare p ls OperandType v (class_named p t)) refl
common_bare p ls (commons.FutexWake t l n) = rw (operand_bare p ls OperandType l (iref_named p t), operand_bare p ls OperandType n (Some (int32 p.types))) refl
common_bare p ls (commons.FutexWaitTimeout t l v n) = rw (operand_bare p ls OperandType l (iref_named p t), operand_bare p ls OperandType v (class_named p t), int64_bare p ls n) refl

op_bare : (p : Tables) (f : Body) (ls : Locals) (o : Op) → op_demands p f ls (bare_op o) ≡ nowhere (op_demands p f ls o)
op_bare p f ls (ops.Computation c) = computation_bare p ls c
op_bare p f ls (ops.ControlFlow c) = control_bare p f ls c
op_bare p f ls (ops.Allocation a) = allocation_bare p ls a
op_bare p f ls (ops.Addressing a) = addressing_bare p ls a
op_bare p f ls (ops.Access a) = access_bare p ls a
op_bare p f ls (ops.Trapping t) = trapping_bare p f ls t
op_bare p f ls (ops.StackSwitch s) = switch_bare p ls s
op_bare p f ls (ops.Common c) = common_bare p ls c

-- ---- what an instruction gives, and where it goes

gives_same : (p : Tables) (o : Op) → gives p (bare_op o) ≡ gives p o
gives_same p (ops.Computation (computations.Binary op t a b e)) = refl
gives_same p (ops.Computation c) = refl
gives_same p (ops.ControlFlow (flows.Branch d)) = refl
gives_same p (ops.ControlFlow c) = refl
gives_same p (ops.Allocation (allocations.New t e)) = refl
gives_same p (ops.Allocation a) = refl
gives_same p (ops.Addressing (addressings.Getiref t r)) = refl
gives_same p (ops.Addressing a) = refl
gives_same p (ops.Access (accesses.Fence o)) = refl
gives_same p (ops.Access a) = refl
gives_same p (ops.Trapping (trappings.Trap ts e k)) = noted_same p ts
gives_same p (ops.Trapping (trappings.Watchpoint n ts d e x k)) = noted_same p ts
gives_same p (ops.Trapping (trappings.Wpbranch n d e)) = refl
gives_same p (ops.StackSwitch (switches.SwapReturning s ts n e k)) = noted_same p ts
gives_same p (ops.StackSwitch (switches.SwapKilling s n)) = refl
gives_same p (ops.StackSwitch (switches.Newthread s tl n e)) = refl
gives_same p (ops.Common commons.ThreadExit) = refl
gives_same p (ops.Common c) = refl

exc_same : (o : Op) → exc_of (bare_op o) ≡ option_map bare_exc (exc_of o)
exc_same (ops.Computation (computations.Binary op t a b e)) = refl
exc_same (ops.Computation c) = refl
exc_same (ops.ControlFlow (flows.Call s c a e k)) = refl
exc_same (ops.ControlFlow c) = refl
exc_same (ops.Allocation (allocations.New t e)) = refl
exc_same (ops.Allocation a) = refl
exc_same (ops.Addressing a) = refl
exc_same (ops.Access (accesses.Fence o)) = refl
exc_same (ops.Access a) = refl
exc_same (ops.Trapping (trappings.Trap ts e k)) = refl
exc_same (ops.Trapping t) = refl
exc_same (ops.StackSwitch (switches.SwapKilling s n)) = refl
exc_same (ops.StackSwitch s) = refl
exc_same (ops.Common c) = refl

normal_part : (e : Option ExceptionClause) → option_map (λ (x : ExceptionClause). x.normal) (option_map bare_exc e) ≡ option_map bare_dest (option_map (λ (x : ExceptionClause). x.normal) e)
normal_part None = refl
normal_part (Some e) = refl

exceptional_part : (e : Option ExceptionClause) → option_map (λ (x : ExceptionClause). x.exceptional) (option_map bare_exc e) ≡ option_map bare_dest (option_map (λ (x : ExceptionClause). x.exceptional) e)
exceptional_part None = refl
exceptional_part (Some e) = refl

normal_same : (o : Op) → normal_of (bare_op o) ≡ option_map bare_dest (normal_of o)
normal_same (ops.Trapping (trappings.Watchpoint n ts d e x k)) = refl
normal_same (ops.Trapping (trappings.Trap ts e k)) = normal_part e
normal_same (ops.Trapping (trappings.Wpbranch n d e)) = refl
normal_same (ops.Computation c) = ap (option_map (λ (x : ExceptionClause). x.normal)) (exc_same (ops.Computation c)) ∙ normal_part (exc_of (ops.Computation c))
normal_same (ops.ControlFlow c) = ap (option_map (λ (x : ExceptionClause). x.normal)) (exc_same (ops.ControlFlow c)) ∙ normal_part (exc_of (ops.ControlFlow c))
normal_same (ops.Allocation a) = ap (option_map (λ (x : ExceptionClause). x.normal)) (exc_same (ops.Allocation a)) ∙ normal_part (exc_of (ops.Allocation a))
normal_same (ops.Addressing a) = refl
normal_same (ops.Access a) = ap (option_map (λ (x : ExceptionClause). x.normal)) (exc_same (ops.Access a)) ∙ normal_part (exc_of (ops.Access a))
normal_same (ops.StackSwitch s) = ap (option_map (λ (x : ExceptionClause). x.normal)) (exc_same (ops.StackSwitch s)) ∙ normal_part (exc_of (ops.StackSwitch s))
normal_same (ops.Common c) = refl

exceptional_same : (o : Op) → exceptional_of (bare_op o) ≡ option_map bare_dest (exceptional_of o)
exceptional_same (ops.Trapping (trappings.Watchpoint n ts d e x k)) = refl
exceptional_same (ops.Trapping (trappings.Trap ts e k)) = exceptional_part e
exceptional_same (ops.Trapping (trappings.Wpbranch n d e)) = refl
exceptional_same (ops.Computation c) = ap (option_map (λ (x : ExceptionClause). x.exceptional)) (exc_same (ops.Computation c)) ∙ exceptional_part (exc_of (ops.Computation c))
exceptional_same (ops.ControlFlow c) = ap (option_map (λ (x : ExceptionClause). x.exceptional)) (exc_same (ops.ControlFlow c)) ∙ exceptional_part (exc_of (ops.ControlFlow c))
exceptional_same (ops.Allocation a) = ap (option_map (λ (x : ExceptionClause). x.exceptional)) (exc_same (ops.Allocation a)) ∙ exceptional_part (exc_of (ops.Allocation a))
exceptional_same (ops.Addressing a) = refl
exceptional_same (ops.Access a) = ap (option_map (λ (x : ExceptionClause). x.exceptional)) (exc_same (ops.Access a)) ∙ exceptional_part (exc_of (ops.Access a))
exceptional_same (ops.StackSwitch s) = ap (option_map (λ (x : ExceptionClause). x.exceptional)) (exc_same (ops.StackSwitch s)) ∙ exceptional_part (exc_of (ops.StackSwitch s))
exceptional_same (ops.Common c) = refl

keepalive_same : (o : Op) → keepalive_of (bare_op o) ≡ option_map (map bare_name) (keepalive_of o)
keepalive_same (ops.Computation c) = refl
keepalive_same (ops.ControlFlow (flows.Call s c a e k)) = refl
keepalive_same (ops.ControlFlow c) = refl
keepalive_same (ops.Allocation a) = refl
keepalive_same (ops.Addressing a) = refl
keepalive_same (ops.Access a) = refl
keepalive_same (ops.Trapping (trappings.Wpbranch n d e)) = refl
keepalive_same (ops.Trapping t) = refl
keepalive_same (ops.StackSwitch (switches.SwapReturning s ts n e k)) = refl
keepalive_same (ops.StackSwitch s) = refl
keepalive_same (ops.Common c) = refl

some_same : {A : Type 0} (bare : A → A) (o : Option A) → is_some (option_map bare o) ≡ is_some o
some_same bare None = refl
some_same bare (Some x) = refl

ending_same : (o : Op) → is_ending (bare_op o) ≡ is_ending o
ending_same (ops.Computation (computations.Binary op t a b e)) = some_same bare_exc e
ending_same (ops.Computation c) = refl
ending_same (ops.ControlFlow (flows.Call s c a e k)) = some_same bare_exc e
ending_same (ops.ControlFlow c) = refl
ending_same (ops.Allocation (allocations.New t e)) = some_same bare_exc e
ending_same (ops.Allocation (allocations.Newhybrid h i n e)) = some_same bare_exc e
ending_same (ops.Allocation (allocations.Alloca t e)) = some_same bare_exc e
ending_same (ops.Addressing a) = refl
ending_same (ops.Access (accesses.Load o t l e)) = some_same bare_exc e
ending_same (ops.Access (accesses.Store o t l a e)) = some_same bare_exc e
ending_same (ops.Access (accesses.Cmpxchg w s o t l a b e)) = some_same bare_exc e
ending_same (ops.Access (accesses.Atomicrmw o op t l a e)) = some_same bare_exc e
ending_same (ops.Access (accesses.Fence o)) = refl
ending_same (ops.Trapping (trappings.Trap ts e k)) = some_same bare_exc e
ending_same (ops.Trapping t) = refl
ending_same (ops.StackSwitch (switches.SwapReturning s ts n e k)) = some_same bare_exc e
ending_same (ops.StackSwitch (switches.SwapKilling s n)) = refl
ending_same (ops.StackSwitch (switches.Newthread s tl n e)) = some_same bare_exc e
ending_same (ops.Common commons.ThreadExit) = refl
ending_same (ops.Common c) = refl

-- ---- instructions in their block

results_same : (ls : Locals) (ns : List Name) (cs : List ℕ) → bound_results ls (map bare_name ns) cs ≡ bound_results ls ns cs
results_same ls [] cs = refl
results_same ls (n ∷ ns) [] = refl
results_same ls (n ∷ ns) (c ∷ cs) = results_same (bound ls n c) ns cs

after_same : (p : Tables) (ls : Locals) (i : Inst) → after p ls (bare_inst i) ≡ after p ls i
after_same p ls i = ap (λ (cs : List ℕ). bound_results ls (map bare_name i.results) cs) (gives_same p i.op) ∙ results_same ls i.results (gives p i.op)

optional_bare : {A : Type 0} (asks : A → Demands CheckKind) (bare : A → A) → ((x : A) → asks (bare x) ≡ nowhere (asks x)) → (o : Option A) → option_map_or asks (option_map bare o) none ≡ nowhere (option_map_or asks o none)
optional_bare asks bare one None = refl
optional_bare asks bare one (Some x) = one x

inst_bare : (p : Tables) (f : Body) (ls : Locals) (ended : Bool) (i : Inst) → inst_demands p f ls ended (bare_inst i) ≡ nowhere (inst_demands p f ls ended i)
unfolding inst_demands
inst_bare p f ls ended i =
    ap₂ (λ (c : Bool) (x : Demands CheckKind). demand 0 AfterEnding (not ended) ⨾ demand 0 ResultCount c ⨾ x)
    (ap₂ (λ (m : ℕ) (cs : List ℕ). nat_eq m (length cs)) (as_many bare_name i.results) (gives_same p i.op))
    (ap₂ (λ (x y : Demands CheckKind). x ⨾ y) (op_bare p f ls i.op)
    (ap₂ (λ (x y : Demands CheckKind). x ⨾ y)
    (ap₂ (λ (ms : Locals) (o : Option Destination). option_map_or (normal_demands p f ms) o none) (after_same p ls i) (normal_same i.op)
    ∙ optional_bare (normal_demands p f (after p ls i)) bare_dest (normal_bare p f (after p ls i)) (normal_of i.op))
    (ap₂ (λ (x y : Demands CheckKind). x ⨾ y)
    (ap (λ (o : Option Destination). option_map_or (exceptional_demands p f ls) o none) (exceptional_same i.op) ∙ optional_bare (exceptional_demands p f ls) bare_dest (exceptional_bare p f ls) (exceptional_of i.op))
    (ap (λ (o : Option (List Name)). option_map_or (variable_demands ls) o none) (keepalive_same i.op) ∙ optional_bare (variable_demands ls) (map bare_name) (variables_bare ls) (keepalive_of i.op)))))

pub insts_bare : (p : Tables) (f : Body) (ls : Locals) (ended : Bool) (is : List Inst) → insts_demands p f ls ended (map bare_inst is) ≡ nowhere (insts_demands p f ls ended is)
insts_bare p f ls ended [] = refl
insts_bare p f ls ended (i ∷ is) =
    ap₂ (λ (x y : Demands CheckKind). x ⨾ y) (inst_bare p f ls ended i)
    (ap₂ (λ (ms : Locals) (b : Bool). insts_demands p f ms b (map bare_inst is)) (after_same p ls i) (ending_same i.op) ∙ insts_bare p f (after p ls i) (is_ending i.op) is)

pub ends_same : (ended : Bool) (is : List Inst) → ends ended (map bare_inst is) ≡ ends ended is
ends_same ended [] = refl
ends_same ended (i ∷ is) = ap (λ (b : Bool). ends b (map bare_inst is)) (ending_same i.op) ∙ ends_same (is_ending i.op) is
