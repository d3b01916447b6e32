-- Instructions that say where the function goes on.
use Rattle.std.specs.Prelude.{ℕ, List, [], ◌∷◌, Option, Some, None, map, nat_eq, if◌then◌else◌}
use Rattle.ir_tree.specs.declared.flow.ControlFlow.{ControlFlow}
use Rattle.ir_tree.specs.declared.flow.ControlFlow.TheVariants as flows
use Rattle.ir_tree.specs.declared.flow.Case.{Case as SwitchCase}
use Rattle.mu_values.specs.declared.scalars.Scalar.{Scalar}
use Rattle.mu_values.specs.declared.scalars.Scalar.TheVariants.{Null, Func}
use Rattle.mu_values.specs.SameScalar.{same_scalar}
use Rattle.check_tables.specs.Lookups.{signature_named, noted_classes, gives_of}
use Rattle.typed_heap.specs.Places.{with_some}
use Rattle.frames.specs.Activations.{Value, Goal}
use Rattle.mu_model.specs.declared.endings.Case.TheVariants as cases
use Rattle.mu_model.specs.Acts.{Act, Faults, Goes, Calls, Replaces, Returns, Throws}
use Rattle.mu_model.specs.Operands.{Scope, tables_in, global_operand, value_named, values_named, goal_named, scalar_in, bits_in}
use Rattle.mu_model.specs.ComputationForms.{scalar_act}

-- ---- BRANCH

abbrev pub branch_act : Option Goal → Option Act
branch_act g = with_some g (λ goal. Some (Goes goal))

-- ---- BRANCH2: the first where the condition is 1

abbrev pub branch2_act : Option Value → Option Goal → Option Goal → Option Act
branch2_act c d e = with_some (bits_in (Some 1) c) (λ n. if nat_eq n 1 then branch_act d else branch_act e)

-- ---- SWITCH: the first case whose constant is equal, else the default

pub record Arm : Type 0 where
  pub constant : Option Value
  pub goal : Option Goal

abbrev pub first_equal : Scalar → Option Goal → List Arm → Option Act
first_equal s d [] = branch_act d
first_equal s d (w ∷ ws) = with_some (scalar_in w.constant) (λ c. if same_scalar s c then branch_act w.goal else first_equal s d ws)

abbrev pub switch_act : Option Value → Option Goal → List Arm → Option Act
switch_act a d ws = with_some (scalar_in a) (λ s. first_equal s d ws)

-- ---- CALL and TAILCALL

-- an act of a function; NULL is none
abbrev pub function_act : (ℕ → Act) → Scalar → Option Act
function_act act (Func f) = Some (act f)
function_act act Null = Some (Faults cases.NullCall)
function_act act _ = None

abbrev pub callee_act : (ℕ → List Value → Act) → Option Value → Option (List Value) → Option Act
callee_act act f vs = with_some (scalar_in f) (λ callee. with_some vs (λ values. function_act (λ n. act n values) callee))

abbrev pub call_act : Option Value → Option (List Value) → Option Act
call_act f vs = callee_act Calls f vs

abbrev pub tailcall_act : Option Value → Option (List Value) → Option Act
tailcall_act f vs = callee_act Replaces f vs

-- ---- RET: the values, of the classes of what the function gives

abbrev pub ret_act : List ℕ → Option (List Value) → Option Act
ret_act cs vs = with_some vs (λ values. Some (Returns (record { types = cs; values = values })))

-- ---- THROW

abbrev pub throw_act : Option Value → Option Act
throw_act e = scalar_act Throws e

-- ---- by name

-- the classes of the results of its function
abbrev pub function_gives : Scope → List ℕ
function_gives s = noted_classes (gives_of (signature_named (tables_in s) s.function.signature))

abbrev pub arm_named : Scope → List Value → SwitchCase → Arm
arm_named s vars c = record { constant = global_operand s.bundle c.constant; goal = goal_named s vars c.destination }

abbrev pub control_act : Scope → List Value → ControlFlow → Option Act
control_act s vars (flows.Branch d) = branch_act (goal_named s vars d)
control_act s vars (flows.Branch2 c d e) = branch2_act (value_named s vars c) (goal_named s vars d) (goal_named s vars e)
control_act s vars (flows.Switch t a d cs) = switch_act (value_named s vars a) (goal_named s vars d) (map (arm_named s vars) cs)
control_act s vars (flows.Call g f a e k) = call_act (value_named s vars f) (values_named s vars a.values)
control_act s vars (flows.Tailcall g f a) = tailcall_act (value_named s vars f) (values_named s vars a.values)
control_act s vars (flows.Ret a) = ret_act (function_gives s) (values_named s vars a.values)
control_act s vars (flows.Throw e) = throw_act (value_named s vars e)
