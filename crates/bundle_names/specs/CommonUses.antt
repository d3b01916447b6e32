-- The names in each instruction behind COMMINST, from left to right; the instruction's own name is no use.
use Rattle.demands.specs.Demands.{Demands, none, ◌⨾◌}
use Rattle.name_scopes.specs.Names.{Names}
use Rattle.ir_tree.specs.declared.common.CommonInst.{CommonInst}
use Rattle.ir_tree.specs.declared.common.CommonInst.TheVariants as commons
use Rattle.bundle_names.specs.declared.fault.NameKind.{NameKind}
use Rattle.bundle_names.specs.declared.globals.Sort.{Sort}
use Rattle.bundle_names.specs.declared.function_names.FunctionNames.{FunctionNames}
use Rattle.bundle_names.specs.Uses.{type_use, signature_use, operand_use}

abbrev pub common_use : Names Sort → FunctionNames → CommonInst → Demands NameKind
-- @uvm.new_stack < [ S ] > ( f )
common_use g f (commons.NewStack s a) = signature_use g s ⨾ operand_use g f a
-- @uvm.kill_stack ( s )
common_use g f (commons.KillStack s) = operand_use g f s
-- @uvm.thread_exit ( )
common_use g f commons.ThreadExit = none
-- @uvm.current_stack ( )
common_use g f commons.CurrentStack = none
-- @uvm.set_threadlocal ( r )
common_use g f (commons.SetThreadlocal r) = operand_use g f r
-- @uvm.get_threadlocal ( )
common_use g f commons.GetThreadlocal = none
-- @uvm.futex.wait < T > ( p v )
common_use g f (commons.FutexWait t p v) = type_use g t ⨾ operand_use g f p ⨾ operand_use g f v
-- @uvm.futex.wake < T > ( p n )
common_use g f (commons.FutexWake t p n) = type_use g t ⨾ operand_use g f p ⨾ operand_use g f n
-- @uvm.futex.wait_timeout < T > ( p v n )
common_use g f (commons.FutexWaitTimeout t p v n) = type_use g t ⨾ operand_use g f p ⨾ operand_use g f v ⨾ operand_use g f n
