-- Each form does the same by name and by number, one clause a form.
use Rattle.std.proofs.Common.{◌≡◌, Bool, false, List, Some, refl, ap, ap₂}
use Rattle.demands.specs.Demands.{AllMet}
use Rattle.ir_tree.specs.declared.operands.Arguments.{Arguments}
use Rattle.ir_tree.specs.declared.computing.Computation.{Computation}
use Rattle.ir_tree.specs.declared.computing.Computation.TheVariants as computations
use Rattle.ir_tree.specs.declared.flow.ControlFlow.{ControlFlow}
use Rattle.ir_tree.specs.declared.flow.ControlFlow.TheVariants as flows
use Rattle.ir_tree.specs.declared.allocating.Allocation.{Allocation}
use Rattle.ir_tree.specs.declared.allocating.Allocation.TheVariants as allocations
use Rattle.ir_tree.specs.declared.addressing.Addressing.{Addressing}
use Rattle.ir_tree.specs.declared.addressing.Addressing.TheVariants as addressings
use Rattle.ir_tree.specs.declared.trapping.Trapping.{Trapping}
use Rattle.ir_tree.specs.declared.trapping.Trapping.TheVariants as trappings
use Rattle.ir_tree.specs.declared.accessing.Access.{Access}
use Rattle.ir_tree.specs.declared.accessing.Access.TheVariants as accesses
use Rattle.ir_tree.specs.declared.switching.StackSwitch.{StackSwitch}
use Rattle.ir_tree.specs.declared.switching.StackSwitch.TheVariants as switches
use Rattle.ir_tree.specs.declared.common.CommonInst.{CommonInst}
use Rattle.ir_tree.specs.declared.common.CommonInst.TheVariants as commons
use Rattle.ir_tree.specs.declared.code.Op.{Op}
use Rattle.ir_tree.specs.declared.code.Op.TheVariants as ops
use Rattle.ir_tree.specs.declared.code.Inst.{Inst}
use Rattle.check_tables.specs.Types.{int1, int32, stackref, ref_void, class_in}
use Rattle.check_tables.specs.Lookups.{ref_named, iref_named, signature_named, funcref_of, takes_of}
use Rattle.checked_code.specs.declared.scopes.Locals.{Locals}
use Rattle.checked_code.specs.Computations.{field_named, computation_demands, computation_code}
use Rattle.checked_code.specs.Accesses.{access_demands, access_code}
use Rattle.checked_code.specs.Control.{control_demands, control_code}
use Rattle.checked_code.specs.Objects.{allocation_demands, allocation_code, addressing_demands, addressing_code}
use Rattle.checked_code.specs.Stacks.{trapping_demands, trapping_code, switch_demands, switch_code}
use Rattle.checked_code.specs.Commons.{common_demands, common_code}
use Rattle.checked_code.specs.Operands.{noted_list, argument_demands, sources_of}
use Rattle.checked_code.specs.Functions.{body_of}
use Rattle.checked_code.specs.Instructions.{op_demands, form_of, normal_of, exceptional_of, keepalive_of, after, inst_demands, inst_code}
use Rattle.check_tables.specs.TypeTests.{is_int}
use Rattle.bundle_laws.specs.Typed.{TablesFit}
use Rattle.bundle_laws.specs.Lemmas.TypedOperands.{type_of}
use Rattle.typed_heap.specs.Places.{with_some, Field, Element, Shift, VarPart}
use Rattle.frames.specs.Activations.{Value}
use Rattle.mu_model.specs.Acts.{Calls, Replaces, Throws, Casts, Finds, KillsStack, SetsOwn}
use Rattle.mu_model.specs.Operands.{Scope, tables_in, class, values_named}
use Rattle.mu_model.specs.ComputationForms.{binary_act, compare_act, convert_act, scalar_act, extractvalue_act, insertvalue_act, computation_act}
use Rattle.mu_model.specs.ControlForms.{branch_act, callee_act, ret_act, function_gives, control_act}
use Rattle.mu_model.specs.ObjectForms.{newhybrid_act, getiref_act, find_by_act, allocation_act, addressing_act}
use Rattle.mu_model.specs.AccessForms.{load_act, store_act, atomicrmw_act, memory_act}
use Rattle.mu_model.specs.TrappingForms.{watchpoint_act, wpbranch_act, trapping_act}
use Rattle.mu_model.specs.StackForms.{swap_returning_act, swap_killing_act, new_stack_act, futex_wait_act, futex_wake_act, switch_stack_act, common_act}
use Rattle.mu_model.specs.Programs.{act_named, optional_goal, does_named}
use Rattle.model_numbers.specs.Sources.{values_at, classes_at}
use Rattle.model_numbers.specs.Forms.{computation_at, control_at, allocation_at, addressing_at, access_at, trapping_at, switch_at, common_at, act_at}
use Rattle.model_numbers.specs.Numbered.{optional_goal_at, does_at}
use Rattle.model_numbers.specs.Lemmas.Operands.{body, variable_classes, ScopeFits, value_same, int64_same, typed_same, option_same, values_same, classes_same, cases_same, normal_same, optional_goal_same, optional_normal_same, kept_same, entering_same}

computation_same : (s : Scope) (ls : Locals) (vars : List Value) → ScopeFits s ls → (c : Computation) → AllMet (computation_demands (tables_in s) ls c) →
    computation_act s vars c ≡ computation_at s.bundle vars (computation_code (tables_in s) ls c)
computation_same s ls vars fits (computations.Binary op t a b e) m =
    ap₂ (binary_act (tables_in s) op (class s t)) (typed_same s ls vars fits a t m.1.0) (typed_same s ls vars fits b t m.1.1)
computation_same s ls vars fits (computations.Compare op t a b) m =
    ap₂ (compare_act op) (typed_same s ls vars fits a t m.1.0) (typed_same s ls vars fits b t m.1.1)
computation_same s ls vars fits (computations.Extractvalue t n a) m = ap (extractvalue_act (tables_in s) (class s t) n.number.magnitude) (typed_same s ls vars fits a t m.1)
computation_same s ls vars fits (computations.Convert op t u a) m =
    ap (convert_act (tables_in s) op (class s t) (class s u)) (typed_same s ls vars fits a t m.1.1)
computation_same s ls vars fits (computations.Refcast t q a) m = ap (scalar_act (Casts (class s q))) (typed_same s ls vars fits a t m.1.1)
computation_same s ls vars fits (computations.Select t u c a b) m =
    rw (typed_same s ls vars fits c t m.1.1.0, typed_same s ls vars fits a u m.1.1.1.0, typed_same s ls vars fits b u m.1.1.1.1) refl
computation_same s ls vars fits (computations.Insertvalue t n a b) m =
    ap₂ (insertvalue_act (tables_in s) (class s t) n.number.magnitude) (typed_same s ls vars fits a t m.1.0)
    (value_same s ls vars fits b (class_in (tables_in s).types (field_named (tables_in s) t n)) m.1.1)

-- the operands of a RET have the classes of what the function gives
ret_same : (s : Scope) (ls : Locals) (vars : List Value) → ScopeFits s ls → (a : Arguments) → AllMet (argument_demands (tables_in s) ls a (Some (body s).gives)) →
    ret_act (function_gives s) (values_named s vars a.values)
    ≡ with_some (classes_at (tables_in s) (variable_classes s) (sources_of (tables_in s) ls a.values)) (λ cs. ret_act cs (values_at s.bundle vars (sources_of (tables_in s) ls a.values)))
unfolding body_of
ret_same s ls vars fits a m = rw (values_same s ls vars fits a (Some (body s).gives) m, classes_same s ls fits a (body s).gives m) refl

control_same : (s : Scope) (ls : Locals) (vars : List Value) → TablesFit (tables_in s) → ScopeFits s ls → (c : ControlFlow) → AllMet (control_demands (tables_in s) (body s) ls c) →
    control_act s vars c ≡ control_at s.bundle (variable_classes s) vars (control_code (tables_in s) (body s) ls c)
control_same s ls vars fit fits (flows.Branch d) m = ap branch_act (normal_same s ls vars fits d m)
control_same s ls vars fit fits (flows.Branch2 c d e) m =
    rw (value_same s ls vars fits c (Some (int1 (tables_in s).types)) m.0, normal_same s ls vars fits d m.1.0, normal_same s ls vars fits e m.1.1) refl
control_same s ls vars fit fits (flows.Call g f a e k) m =
    ap₂ (callee_act Calls) (value_same s ls vars fits f (funcref_of (signature_named (tables_in s) g)) m.0)
    (values_same s ls vars fits a (takes_of (signature_named (tables_in s) g)) m.1)
control_same s ls vars fit fits (flows.Ret a) m = ret_same s ls vars fits a m
control_same s ls vars fit fits (flows.Switch t a d cs) m =
    rw (typed_same s ls vars fits a t m.1.0, normal_same s ls vars fits d m.1.1.0, cases_same s ls vars fit fits t cs (type_of (tables_in s) t is_int refl m.0).type m.1.1.1) refl
control_same s ls vars fit fits (flows.Tailcall g f a) m =
    ap₂ (callee_act Replaces) (value_same s ls vars fits f (funcref_of (signature_named (tables_in s) g)) m.1.0)
    (values_same s ls vars fits a (takes_of (signature_named (tables_in s) g)) m.1.1)
control_same s ls vars fit fits (flows.Throw e) m = ap (scalar_act Throws) (value_same s ls vars fits e (Some (ref_void (tables_in s).types)) m)

allocation_same : (s : Scope) (ls : Locals) (vars : List Value) → ScopeFits s ls → (a : Allocation) → AllMet (allocation_demands (tables_in s) ls a) →
    allocation_act s vars a ≡ allocation_at s.bundle vars (allocation_code (tables_in s) ls a)
allocation_same s ls vars fits (allocations.New t e) m = refl
allocation_same s ls vars fits (allocations.Newhybrid h i n e) m = ap (newhybrid_act (tables_in s) (class s h) (class s i)) (typed_same s ls vars fits n i m.1.1)
allocation_same s ls vars fits (allocations.Alloca t e) m = refl

addressing_same : (s : Scope) (ls : Locals) (vars : List Value) → ScopeFits s ls → (a : Addressing) → AllMet (addressing_demands (tables_in s) ls a) →
    addressing_act s vars a ≡ addressing_at s.bundle vars (addressing_code (tables_in s) ls a)
addressing_same s ls vars fits (addressings.Getiref t r) m = ap getiref_act (value_same s ls vars fits r (ref_named (tables_in s) t) m)
addressing_same s ls vars fits (addressings.Getfieldiref t n l) m =
    ap (scalar_act (Finds (Field (class s t) n.number.magnitude))) (value_same s ls vars fits l (iref_named (tables_in s) t) m.1.1)
addressing_same s ls vars fits (addressings.Getelemiref t i l x) m =
    ap₂ (find_by_act (tables_in s) (Element (class s t)) (class s i)) (value_same s ls vars fits l (iref_named (tables_in s) t) m.1.1.0) (typed_same s ls vars fits x i m.1.1.1)
addressing_same s ls vars fits (addressings.Shiftiref t i l x) m =
    ap₂ (find_by_act (tables_in s) (Shift (class s t)) (class s i)) (value_same s ls vars fits l (iref_named (tables_in s) t) m.1.1.0) (typed_same s ls vars fits x i m.1.1.1)
addressing_same s ls vars fits (addressings.Getvarpartiref h l) m = ap (scalar_act (Finds (VarPart (class s h)))) (value_same s ls vars fits l (iref_named (tables_in s) h) m.1)

access_same : (s : Scope) (ls : Locals) (vars : List Value) → ScopeFits s ls → (a : Access) → AllMet (access_demands (tables_in s) ls a) →
    memory_act s vars a ≡ access_at s.bundle vars (access_code (tables_in s) ls a)
access_same s ls vars fits (accesses.Load o t l e) m =
    ap (load_act o.order) (value_same s ls vars fits l (iref_named (tables_in s) t) m.1.1)
access_same s ls vars fits (accesses.Store o t l a e) m =
    ap₂ (store_act o.order) (value_same s ls vars fits l (iref_named (tables_in s) t) m.1.1.0) (typed_same s ls vars fits a t m.1.1.1)
access_same s ls vars fits (accesses.Cmpxchg w o f t l a b e) m =
    rw (value_same s ls vars fits l (iref_named (tables_in s) t) m.1.1.1.0, typed_same s ls vars fits a t m.1.1.1.1.0, typed_same s ls vars fits b t m.1.1.1.1.1) refl
access_same s ls vars fits (accesses.Atomicrmw o op t l a e) m =
    ap₂ (atomicrmw_act o.order op) (value_same s ls vars fits l (iref_named (tables_in s) t) m.1.1.0) (typed_same s ls vars fits a t m.1.1.1)
access_same s ls vars fits (accesses.Fence o) m = refl

trapping_same : (s : Scope) (ls : Locals) (vars : List Value) → ScopeFits s ls → (t : Trapping) → AllMet (trapping_demands (tables_in s) (body s) ls t) →
    trapping_act s vars t ≡ trapping_at s.bundle vars (trapping_code (tables_in s) (body s) ls t)
trapping_same s ls vars fits (trappings.Trap ts e k) m = refl
trapping_same s ls vars fits (trappings.Watchpoint n ts d e x k) m = ap (watchpoint_act n.number.magnitude (noted_list (tables_in s) ts)) (normal_same s ls vars fits d m.1.1)
trapping_same s ls vars fits (trappings.Wpbranch n d e) m = ap₂ (wpbranch_act n.number.magnitude) (normal_same s ls vars fits d m.1.0) (normal_same s ls vars fits e m.1.1)

switch_same : (s : Scope) (ls : Locals) (vars : List Value) → ScopeFits s ls → (g : StackSwitch) → AllMet (switch_demands (tables_in s) ls g) →
    switch_stack_act s vars g ≡ switch_at s.bundle vars (switch_code (tables_in s) ls g)
switch_same s ls vars fits (switches.SwapReturning g ts n e k) m =
    ap₂ (swap_returning_act (noted_list (tables_in s) ts)) (value_same s ls vars fits g (Some (stackref (tables_in s).types)) m.0) (entering_same s ls vars fits n m.1.1)
switch_same s ls vars fits (switches.Newthread g o n e) m =
    rw (value_same s ls vars fits g (Some (stackref (tables_in s).types)) m.0, option_same s ls vars fits o m.1.0, entering_same s ls vars fits n m.1.1) refl
switch_same s ls vars fits (switches.SwapKilling g n) m =
    ap₂ swap_killing_act (value_same s ls vars fits g (Some (stackref (tables_in s).types)) m.0) (entering_same s ls vars fits n m.1)

common_same : (s : Scope) (ls : Locals) (vars : List Value) → ScopeFits s ls → (c : CommonInst) → AllMet (common_demands (tables_in s) ls c) →
    common_act s vars c ≡ common_at s.bundle vars (common_code (tables_in s) ls c)
common_same s ls vars fits commons.CurrentStack m = refl
common_same s ls vars fits (commons.NewStack g f) m = ap new_stack_act (value_same s ls vars fits f (funcref_of (signature_named (tables_in s) g)) m)
common_same s ls vars fits (commons.KillStack g) m = ap (scalar_act KillsStack) (value_same s ls vars fits g (Some (stackref (tables_in s).types)) m)
common_same s ls vars fits commons.ThreadExit m = refl
common_same s ls vars fits (commons.SetThreadlocal r) m = ap (scalar_act SetsOwn) (value_same s ls vars fits r (Some (ref_void (tables_in s).types)) m)
common_same s ls vars fits commons.GetThreadlocal m = refl
common_same s ls vars fits (commons.FutexWait t l v) m =
    ap₂ (futex_wait_act false) (value_same s ls vars fits l (iref_named (tables_in s) t) m.1.0) (typed_same s ls vars fits v t m.1.1)
common_same s ls vars fits (commons.FutexWaitTimeout t l v n) m =
    rw (value_same s ls vars fits l (iref_named (tables_in s) t) m.1.0, typed_same s ls vars fits v t m.1.1.0, int64_same s ls vars fits n m.1.1.1) refl
common_same s ls vars fits (commons.FutexWake t l n) m =
    ap₂ futex_wake_act (value_same s ls vars fits l (iref_named (tables_in s) t) m.1.0) (value_same s ls vars fits n (Some (int32 (tables_in s).types)) m.1.1)

pub act_same : (s : Scope) (ls : Locals) (vars : List Value) → TablesFit (tables_in s) → ScopeFits s ls → (i : Op) → AllMet (op_demands (tables_in s) (body s) ls i) →
    act_named s vars i ≡ act_at s.bundle (variable_classes s) vars (form_of (tables_in s) (body s) ls i)
act_same s ls vars fit fits (ops.Computation c) m = computation_same s ls vars fits c m
act_same s ls vars fit fits (ops.ControlFlow c) m = control_same s ls vars fit fits c m
act_same s ls vars fit fits (ops.Access a) m = access_same s ls vars fits a m
act_same s ls vars fit fits (ops.StackSwitch g) m = switch_same s ls vars fits g m
act_same s ls vars fit fits (ops.Common c) m = common_same s ls vars fits c m
act_same s ls vars fit fits (ops.Allocation a) m = allocation_same s ls vars fits a m
act_same s ls vars fit fits (ops.Addressing a) m = addressing_same s ls vars fits a m
act_same s ls vars fit fits (ops.Trapping t) m = trapping_same s ls vars fits t m

-- with what stands behind it
pub does_same : (s : Scope) (ls : Locals) (ended : Bool) (i : Inst) → TablesFit (tables_in s) → ScopeFits s ls → AllMet (inst_demands (tables_in s) (body s) ls ended i) → (vars : List Value) →
    does_named s vars i ≡ does_at s.bundle (variable_classes s) vars (inst_code (tables_in s) (body s) ls i)
unfolding inst_demands
does_same s ls ended i fit fits m vars =
    rw (act_same s ls vars fit fits i.op m.1.1.0, optional_goal_same s ls vars fits (exceptional_of i.op) m.1.1.1.1.0, kept_same s ls vars fits (keepalive_of i.op) m.1.1.1.1.1) refl

-- where it goes on with its results
pub goes_on_same : (s : Scope) (ls : Locals) (ended : Bool) (i : Inst) → ScopeFits s (after (tables_in s) ls i) → AllMet (inst_demands (tables_in s) (body s) ls ended i) → (vars : List Value) →
    optional_goal s vars (normal_of i.op) ≡ optional_goal_at s.bundle vars (inst_code (tables_in s) (body s) ls i).normal
unfolding inst_demands
goes_on_same s ls ended i fits m vars = optional_normal_same s (after (tables_in s) ls i) vars fits (normal_of i.op) m.1.1.1.0
