-- The names in each instruction that says where the function goes on, from left to right.
use Rattle.demands.specs.Demands.{Demands, ◌⨾◌}
use Rattle.name_scopes.specs.Names.{Names}
use Rattle.ir_tree.specs.declared.flow.Case.{Case}
use Rattle.ir_tree.specs.declared.flow.ControlFlow.{ControlFlow}
use Rattle.ir_tree.specs.declared.flow.ControlFlow.TheVariants as flows
use Rattle.bundle_names.specs.declared.fault.NameKind.{NameKind}
use Rattle.bundle_names.specs.declared.globals.Sort.{Sort}
use Rattle.bundle_names.specs.declared.function_names.FunctionNames.{FunctionNames}
use Rattle.bundle_names.specs.Uses.{each, type_use, signature_use, constant_use, operand_use, operand_uses, destination_use, exception_use, keepalive_use}

-- case = G dest
abbrev pub case_use : Names Sort → FunctionNames → Case → Demands NameKind
case_use g f c = constant_use g c.constant ⨾ destination_use g f c.destination

abbrev pub control_use : Names Sort → FunctionNames → ControlFlow → Demands NameKind
-- BRANCH dest
control_use g f (flows.Branch d) = destination_use g f d
-- BRANCH2 c dest dest
control_use g f (flows.Branch2 c d e) = operand_use g f c ⨾ destination_use g f d ⨾ destination_use g f e
-- SWITCH < T > a dest { case* }
control_use g f (flows.Switch t a d cs) = type_use g t ⨾ operand_use g f a ⨾ destination_use g f d ⨾ each (case_use g f) cs
-- CALL < S > f ( value* ) exc? keep?
control_use g f (flows.Call s callee a e k) = signature_use g s ⨾ operand_use g f callee ⨾ operand_uses g f a.values ⨾ exception_use g f e ⨾ keepalive_use f k
-- TAILCALL < S > f ( value* )
control_use g f (flows.Tailcall s callee a) = signature_use g s ⨾ operand_use g f callee ⨾ operand_uses g f a.values
-- RET value, RET ( value* )
control_use g f (flows.Ret a) = operand_uses g f a.values
-- THROW e
control_use g f (flows.Throw e) = operand_use g f e
