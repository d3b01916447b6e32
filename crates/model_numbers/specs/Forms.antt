-- Nothing that a reader believes of a run rests on this. It is what the instructions of checked code do, by number, clause by
-- clause beside what those of the bundle do by name.
use Rattle.std.specs.Prelude.{ℕ, false, List, Option, Some, map, option_map}
use Rattle.ir_tree.specs.declared.items.Item.{Item}
use Rattle.bundle_names.specs.declared.globals.Sort.TheVariants as sorts
use Rattle.checked_code.specs.Checking.{bundle_tables}
use Rattle.checked_code.specs.declared.code.ComputationForm.{ComputationForm}
use Rattle.checked_code.specs.declared.code.ComputationForm.TheVariants as computing
use Rattle.checked_code.specs.declared.code.ControlForm.{ControlForm}
use Rattle.checked_code.specs.declared.code.ControlForm.TheVariants as going
use Rattle.checked_code.specs.declared.code.CaseForm.{CaseForm}
use Rattle.checked_code.specs.declared.code.AllocationForm.{AllocationForm}
use Rattle.checked_code.specs.declared.code.AllocationForm.TheVariants as making
use Rattle.checked_code.specs.declared.code.AddressingForm.{AddressingForm}
use Rattle.checked_code.specs.declared.code.AddressingForm.TheVariants as finding
use Rattle.checked_code.specs.declared.code.AccessForm.{AccessForm}
use Rattle.checked_code.specs.declared.code.AccessForm.TheVariants as accessing
use Rattle.checked_code.specs.declared.code.TrappingForm.{TrappingForm}
use Rattle.checked_code.specs.declared.code.TrappingForm.TheVariants as asking
use Rattle.checked_code.specs.declared.code.SwitchForm.{SwitchForm}
use Rattle.checked_code.specs.declared.code.SwitchForm.TheVariants as switching
use Rattle.checked_code.specs.declared.code.CommonForm.{CommonForm}
use Rattle.checked_code.specs.declared.code.CommonForm.TheVariants as commons
use Rattle.checked_code.specs.declared.code.Form.{Form}
use Rattle.checked_code.specs.declared.code.Form.TheVariants as forms
use Rattle.typed_heap.specs.Places.{with_some}
use Rattle.frames.specs.Activations.{Value}
use Rattle.mu_model.specs.Acts.{Act}
use Rattle.mu_model.specs.Operands.{global_value}
use Rattle.mu_model.specs.ComputationForms.{binary_act, compare_act, convert_act, refcast_act, select_act, extractvalue_act, insertvalue_act}
use Rattle.mu_model.specs.ControlForms.{Arm, branch_act, branch2_act, switch_act, call_act, tailcall_act, ret_act, throw_act}
use Rattle.mu_model.specs.ObjectForms.{new_act, newhybrid_act, alloca_act, getiref_act, getfieldiref_act, getelemiref_act, shiftiref_act, getvarpartiref_act}
use Rattle.mu_model.specs.AccessForms.{load_act, store_act, cmpxchg_act, atomicrmw_act, fence_act}
use Rattle.mu_model.specs.TrappingForms.{trap_act, watchpoint_act, wpbranch_act}
use Rattle.mu_model.specs.StackForms.{swap_returning_act, swap_killing_act, newthread_act, new_stack_act, kill_stack_act, thread_exit_act, current_stack_act, set_threadlocal_act, get_threadlocal_act, futex_wait_act, futex_wake_act, futex_wait_timeout_act}
use Rattle.model_numbers.specs.Sources.{value_at, values_at, classes_at, goal_at, entering_at}

abbrev pub computation_at : List Item → List Value → ComputationForm → Option Act
computation_at bundle vars (computing.Binary op c a b) = binary_act (bundle_tables bundle) op c (value_at bundle vars a) (value_at bundle vars b)
computation_at bundle vars (computing.Compare op c a b) = compare_act op (value_at bundle vars a) (value_at bundle vars b)
computation_at bundle vars (computing.Convert op c d a) = convert_act (bundle_tables bundle) op c d (value_at bundle vars a)
computation_at bundle vars (computing.Refcast c d a) = refcast_act d (value_at bundle vars a)
computation_at bundle vars (computing.Select c s a b) = select_act (value_at bundle vars s) (value_at bundle vars a) (value_at bundle vars b)
computation_at bundle vars (computing.Extractvalue c n a) = extractvalue_act (bundle_tables bundle) c n (value_at bundle vars a)
computation_at bundle vars (computing.Insertvalue c n a b) = insertvalue_act (bundle_tables bundle) c n (value_at bundle vars a) (value_at bundle vars b)

abbrev pub arm_at : List Item → List Value → CaseForm → Arm
arm_at bundle vars c = record { constant = global_value bundle (Some (sorts.Constant c.constant)); goal = goal_at bundle vars c.target }

-- the classes of what RET gives are those of its operands
abbrev pub control_at : List Item → List ℕ → List Value → ControlForm → Option Act
control_at bundle types vars (going.Branch t) = branch_act (goal_at bundle vars t)
control_at bundle types vars (going.Branch2 c t u) = branch2_act (value_at bundle vars c) (goal_at bundle vars t) (goal_at bundle vars u)
control_at bundle types vars (going.Switch c a t cs) = switch_act (value_at bundle vars a) (goal_at bundle vars t) (map (arm_at bundle vars) cs)
control_at bundle types vars (going.Call c f ss) = call_act (value_at bundle vars f) (values_at bundle vars ss)
control_at bundle types vars (going.Tailcall c f ss) = tailcall_act (value_at bundle vars f) (values_at bundle vars ss)
control_at bundle types vars (going.Ret ss) = with_some (classes_at (bundle_tables bundle) types ss) (λ cs. ret_act cs (values_at bundle vars ss))
control_at bundle types vars (going.Throw s) = throw_act (value_at bundle vars s)

abbrev pub allocation_at : List Item → List Value → AllocationForm → Option Act
allocation_at bundle vars (making.New c) = new_act c
allocation_at bundle vars (making.Newhybrid c d n) = newhybrid_act (bundle_tables bundle) c d (value_at bundle vars n)
allocation_at bundle vars (making.Alloca c) = alloca_act c

abbrev pub addressing_at : List Item → List Value → AddressingForm → Option Act
addressing_at bundle vars (finding.Getiref c r) = getiref_act (value_at bundle vars r)
addressing_at bundle vars (finding.Getfieldiref c n l) = getfieldiref_act c n (value_at bundle vars l)
addressing_at bundle vars (finding.Getelemiref c d l x) = getelemiref_act (bundle_tables bundle) c d (value_at bundle vars l) (value_at bundle vars x)
addressing_at bundle vars (finding.Shiftiref c d l x) = shiftiref_act (bundle_tables bundle) c d (value_at bundle vars l) (value_at bundle vars x)
addressing_at bundle vars (finding.Getvarpartiref c l) = getvarpartiref_act c (value_at bundle vars l)

abbrev pub access_at : List Item → List Value → AccessForm → Option Act
access_at bundle vars (accessing.Load o c l) = load_act o (value_at bundle vars l)
access_at bundle vars (accessing.Store o c l a) = store_act o (value_at bundle vars l) (value_at bundle vars a)
access_at bundle vars (accessing.Cmpxchg w o f c l a b) = cmpxchg_act w o f (value_at bundle vars l) (value_at bundle vars a) (value_at bundle vars b)
access_at bundle vars (accessing.Atomicrmw o op c l a) = atomicrmw_act o op (value_at bundle vars l) (value_at bundle vars a)
access_at bundle vars (accessing.Fence o) = fence_act o

abbrev pub trapping_at : List Item → List Value → TrappingForm → Option Act
trapping_at bundle vars (asking.Trap cs) = trap_act cs
trapping_at bundle vars (asking.Watchpoint n cs t) = watchpoint_act n cs (goal_at bundle vars t)
trapping_at bundle vars (asking.Wpbranch n t u) = wpbranch_act n (goal_at bundle vars t) (goal_at bundle vars u)

abbrev pub switch_at : List Item → List Value → SwitchForm → Option Act
switch_at bundle vars (switching.SwapReturning s cs e) = swap_returning_act cs (value_at bundle vars s) (entering_at bundle vars e)
switch_at bundle vars (switching.SwapKilling s e) = swap_killing_act (value_at bundle vars s) (entering_at bundle vars e)
switch_at bundle vars (switching.Newthread s o e) = newthread_act (value_at bundle vars s) (option_map (value_at bundle vars) o) (entering_at bundle vars e)

abbrev pub common_at : List Item → List Value → CommonForm → Option Act
common_at bundle vars (commons.NewStack c f) = new_stack_act (value_at bundle vars f)
common_at bundle vars (commons.KillStack s) = kill_stack_act (value_at bundle vars s)
common_at bundle vars commons.ThreadExit = thread_exit_act
common_at bundle vars commons.CurrentStack = current_stack_act
common_at bundle vars (commons.SetThreadlocal r) = set_threadlocal_act (value_at bundle vars r)
common_at bundle vars commons.GetThreadlocal = get_threadlocal_act
common_at bundle vars (commons.FutexWait c l v) = futex_wait_act false (value_at bundle vars l) (value_at bundle vars v)
common_at bundle vars (commons.FutexWake c l n) = futex_wake_act (value_at bundle vars l) (value_at bundle vars n)
common_at bundle vars (commons.FutexWaitTimeout c l v n) = futex_wait_timeout_act (value_at bundle vars l) (value_at bundle vars v) (value_at bundle vars n)

abbrev pub act_at : List Item → List ℕ → List Value → Form → Option Act
act_at bundle types vars (forms.Computation f) = computation_at bundle vars f
act_at bundle types vars (forms.Control f) = control_at bundle types vars f
act_at bundle types vars (forms.Allocation f) = allocation_at bundle vars f
act_at bundle types vars (forms.Addressing f) = addressing_at bundle vars f
act_at bundle types vars (forms.Access f) = access_at bundle vars f
act_at bundle types vars (forms.Trapping f) = trapping_at bundle vars f
act_at bundle types vars (forms.Switch f) = switch_at bundle vars f
act_at bundle types vars (forms.Common f) = common_at bundle vars f
