-- Instructions that enter stacks, and instructions under names.
use Rattle.std.specs.Prelude.{ℕ, Bool, true, false, List, Option, Some, None, option_map}
use Rattle.ir_tree.specs.declared.operands.NewStackClause.{NewStackClause}
use Rattle.ir_tree.specs.declared.operands.NewStackClause.TheVariants as clauses
use Rattle.ir_tree.specs.declared.switching.StackSwitch.{StackSwitch}
use Rattle.ir_tree.specs.declared.switching.StackSwitch.TheVariants as switches
use Rattle.ir_tree.specs.declared.common.CommonInst.{CommonInst}
use Rattle.ir_tree.specs.declared.common.CommonInst.TheVariants as commons
use Rattle.mu_values.specs.declared.scalars.Scalar.{Scalar}
use Rattle.mu_values.specs.declared.scalars.Scalar.TheVariants.{Null}
use Rattle.typed_heap.specs.Places.{with_some}
use Rattle.frames.specs.Activations.{Value}
use Rattle.mu_model.specs.Acts.{Entering, Passes, ThrowsInto, Act, Swaps, Leaves, Starts, MakesStack, KillsStack, Tells, Exits, SetsOwn, TellsOwn, Waits, Wakes}
use Rattle.mu_model.specs.Operands.{Scope, classes, value_named, values_named, scalar_in, bits_in}
use Rattle.mu_model.specs.ComputationForms.{scalar_act}
use Rattle.mu_model.specs.ControlForms.{function_act}
use Rattle.mu_model.specs.AccessForms.{cell_act}

-- ---- what a stack is entered with: PASS_VALUES and THROW_EXC

abbrev pub pass_values : List ℕ → Option (List Value) → Option Entering
pass_values cs vs = with_some vs (λ values. Some (Passes cs values))

abbrev pub throw_exc : Option Value → Option Entering
throw_exc e = with_some (scalar_in e) (λ s. Some (ThrowsInto s))

abbrev pub entering_named : Scope → List Value → NewStackClause → Option Entering
entering_named s vars (clauses.PassValues ts a) = pass_values (classes s ts) (values_named s vars a.values)
entering_named s vars (clauses.ThrowExc e) = throw_exc (value_named s vars e)

-- ---- SWAPSTACK

abbrev pub enter_act : (Scalar → Entering → Act) → Option Value → Option Entering → Option Act
enter_act act s e = with_some (scalar_in s) (λ stack. with_some e (λ entering. Some (act stack entering)))

abbrev pub swap_returning_act : List ℕ → Option Value → Option Entering → Option Act
swap_returning_act cs s e = enter_act (λ stack. Swaps stack cs) s e

abbrev pub swap_killing_act : Option Value → Option Entering → Option Act
swap_killing_act s e = enter_act Leaves s e

-- ---- NEWTHREAD: a thread whose own object is not given has NULL

abbrev pub own_object : Option (Option Value) → Option Scalar
own_object None = Some Null
own_object (Some o) = scalar_in o

abbrev pub newthread_act : Option Value → Option (Option Value) → Option Entering → Option Act
newthread_act s o e = with_some (own_object o) (λ object. enter_act (λ stack. Starts stack object) s e)

abbrev pub switch_stack_act : Scope → List Value → StackSwitch → Option Act
switch_stack_act s vars (switches.SwapReturning g ts n e k) = swap_returning_act (classes s ts) (value_named s vars g) (entering_named s vars n)
switch_stack_act s vars (switches.SwapKilling g n) = swap_killing_act (value_named s vars g) (entering_named s vars n)
switch_stack_act s vars (switches.Newthread g o n e) = newthread_act (value_named s vars g) (option_map (value_named s vars) o) (entering_named s vars n)

-- ---- COMMINST

abbrev pub new_stack_act : Option Value → Option Act
new_stack_act f = with_some (scalar_in f) (function_act MakesStack)

abbrev pub kill_stack_act : Option Value → Option Act
kill_stack_act s = scalar_act KillsStack s

abbrev pub thread_exit_act : Option Act
thread_exit_act = Some Exits

abbrev pub current_stack_act : Option Act
current_stack_act = Some Tells

abbrev pub set_threadlocal_act : Option Value → Option Act
set_threadlocal_act r = scalar_act SetsOwn r

abbrev pub get_threadlocal_act : Option Act
get_threadlocal_act = Some TellsOwn

-- with a limit or without
abbrev pub futex_wait_act : Bool → Option Value → Option Value → Option Act
futex_wait_act timed l v = with_some (scalar_in l) (λ s. with_some (scalar_in v) (λ x. cell_act (Waits timed x) s))

-- so many, unsigned
abbrev pub futex_wake_act : Option Value → Option Value → Option Act
futex_wake_act l n = with_some (scalar_in l) (λ s. with_some (bits_in (Some 32) n) (λ many. cell_act (Wakes many) s))

-- what the limit counts has no meaning here
abbrev pub futex_wait_timeout_act : Option Value → Option Value → Option Value → Option Act
futex_wait_timeout_act l v n = with_some (bits_in (Some 64) n) (λ limit. futex_wait_act true l v)

abbrev pub common_act : Scope → List Value → CommonInst → Option Act
common_act s vars (commons.NewStack g f) = new_stack_act (value_named s vars f)
common_act s vars (commons.KillStack g) = kill_stack_act (value_named s vars g)
common_act s vars commons.ThreadExit = thread_exit_act
common_act s vars commons.CurrentStack = current_stack_act
common_act s vars (commons.SetThreadlocal r) = set_threadlocal_act (value_named s vars r)
common_act s vars commons.GetThreadlocal = get_threadlocal_act
common_act s vars (commons.FutexWait t l v) = futex_wait_act false (value_named s vars l) (value_named s vars v)
common_act s vars (commons.FutexWake t l n) = futex_wake_act (value_named s vars l) (value_named s vars n)
common_act s vars (commons.FutexWaitTimeout t l v n) = futex_wait_timeout_act (value_named s vars l) (value_named s vars v) (value_named s vars n)
