-- The names in the body of a function. A local name may be used in every block of the function here: that it is a variable of its
-- own block, and of an earlier instruction, is asked later.
use Rattle.std.specs.Prelude.{List, [], ◌∷◌}
use Rattle.demands.specs.Demands.{Demands, none, ◌⨾◌}
use Rattle.name_scopes.specs.Names.{Names}
use Rattle.ir_tree.specs.declared.code.Parameter.{Parameter}
use Rattle.ir_tree.specs.declared.code.Op.{Op}
use Rattle.ir_tree.specs.declared.code.Op.TheVariants as ops
use Rattle.ir_tree.specs.declared.code.Inst.{Inst}
use Rattle.ir_tree.specs.declared.code.Block.{Block}
use Rattle.bundle_names.specs.declared.fault.NameKind.{NameKind}
use Rattle.bundle_names.specs.declared.globals.Sort.{Sort}
use Rattle.bundle_names.specs.declared.function_names.FunctionNames.{FunctionNames}
use Rattle.bundle_names.specs.Definitions.{Plain, with_name, with_list, with_head}
use Rattle.bundle_names.specs.Uses.{type_use}
use Rattle.bundle_names.specs.ComputationUses.{computation_use}
use Rattle.bundle_names.specs.ControlUses.{control_use}
use Rattle.bundle_names.specs.ObjectUses.{allocation_use, addressing_use}
use Rattle.bundle_names.specs.AccessUses.{access_use}
use Rattle.bundle_names.specs.StackUses.{trapping_use, switch_use}
use Rattle.bundle_names.specs.CommonUses.{common_use}

-- the names of a function's blocks
abbrev pub with_blocks : Plain → List Block → Plain
with_blocks es [] = es
with_blocks es (b ∷ bs) = with_blocks (with_name es b.head.name) bs

-- the names of the parameters, handlers and results of its blocks; a label is no variable
abbrev pub with_results : Plain → List Inst → Plain
with_results es [] = es
with_results es (i ∷ is) = with_results (with_list es i.results) is

abbrev pub with_variables : Plain → List Block → Plain
with_variables es [] = es
with_variables es (b ∷ bs) = with_variables (with_results (with_head es b.head) b.insts) bs

abbrev pub names_of : List Block → FunctionNames
names_of bs = record { blocks = with_blocks [] bs; variables = with_variables [] bs }

abbrev pub op_use : Names Sort → FunctionNames → Op → Demands NameKind
op_use g f (ops.Computation c) = computation_use g f c
op_use g f (ops.ControlFlow c) = control_use g f c
op_use g f (ops.Allocation a) = allocation_use g f a
op_use g f (ops.Addressing a) = addressing_use g f a
op_use g f (ops.Access a) = access_use g f a
op_use g f (ops.Trapping t) = trapping_use g f t
op_use g f (ops.StackSwitch s) = switch_use g f s
op_use g f (ops.Common c) = common_use g f c

abbrev pub inst_uses : Names Sort → FunctionNames → List Inst → Demands NameKind
inst_uses g f [] = none
inst_uses g f (i ∷ is) = op_use g f i.op ⨾ inst_uses g f is

-- pair* with pair = < G > L
abbrev pub parameter_uses : Names Sort → List Parameter → Demands NameKind
parameter_uses g [] = none
parameter_uses g (p ∷ ps) = type_use g p.of_type ⨾ parameter_uses g ps

abbrev pub block_uses : Names Sort → FunctionNames → List Block → Demands NameKind
block_uses g f [] = none
block_uses g f (b ∷ bs) = (parameter_uses g b.head.parameters ⨾ inst_uses g f b.insts) ⨾ block_uses g f bs
