-- Instructions under names: for each form its demands from left to right, what it gives, and its code.
use Rattle.std.specs.Prelude.{ℕ, List, [], ◌∷◌, Some}
use Rattle.demands.specs.Demands.{Demands, none, ◌⨾◌}
use Rattle.ir_tree.specs.declared.common.CommonInst.{CommonInst}
use Rattle.ir_tree.specs.declared.common.CommonInst.TheVariants as commons
use Rattle.check_tables.specs.declared.fault.CheckKind.{CheckKind}
use Rattle.check_tables.specs.declared.fault.CheckKind.TheVariants.{OperandType}
use Rattle.check_tables.specs.declared.tables.Tables.{Tables}
use Rattle.check_tables.specs.Types.{int32, stackref, ref_void}
use Rattle.check_tables.specs.Lookups.{noted_class, definition_named, signature_named, funcref_of, noted_signature}
use Rattle.check_tables.specs.TypeTests.{is_int}
use Rattle.checked_code.specs.declared.code.CommonForm.{CommonForm}
use Rattle.checked_code.specs.declared.code.CommonForm.TheVariants as forms
use Rattle.checked_code.specs.declared.scopes.Locals.{Locals}
use Rattle.checked_code.specs.Operands.{operand_demands, int64_demands, of_type, type_demand, source_of}
use Rattle.checked_code.specs.Objects.{place_of_type}
use Rattle.checked_code.specs.Stacks.{stack_demands}

abbrev pub common_demands : Tables → Locals → CommonInst → Demands CheckKind
-- @uvm.new_stack < [ S ] > ( f ): f: funcref<S>
common_demands p ls (commons.NewStack s f) = operand_demands p ls OperandType f (funcref_of (signature_named p s))
-- @uvm.kill_stack ( s ): s: stackref
common_demands p ls (commons.KillStack s) = stack_demands p ls s
-- @uvm.thread_exit ( )
common_demands p ls commons.ThreadExit = none
-- @uvm.current_stack ( )
common_demands p ls commons.CurrentStack = none
-- @uvm.set_threadlocal ( r ): r: ref<void>
common_demands p ls (commons.SetThreadlocal r) = operand_demands p ls OperandType r (Some (ref_void p.types))
-- @uvm.get_threadlocal ( )
common_demands p ls commons.GetThreadlocal = none
-- @uvm.futex.wait < T > ( p v ): T int; p: iref<T>; v: T
common_demands p ls (commons.FutexWait t l v) = type_demand t (is_int (definition_named p t)) ⨾ place_of_type p ls l t ⨾ of_type p ls v t
-- @uvm.futex.wake < T > ( p n ): T int; p: iref<T>; n: int<32>
common_demands p ls (commons.FutexWake t l n) =
    type_demand t (is_int (definition_named p t)) ⨾ place_of_type p ls l t ⨾ operand_demands p ls OperandType n (Some (int32 p.types))
-- @uvm.futex.wait_timeout < T > ( p v n ): T int; p: iref<T>; v: T; n: int<64>
common_demands p ls (commons.FutexWaitTimeout t l v n) =
    type_demand t (is_int (definition_named p t)) ⨾ place_of_type p ls l t ⨾ of_type p ls v t ⨾ int64_demands p ls n

-- the classes of the results
abbrev pub common_gives : Tables → CommonInst → List ℕ
common_gives p (commons.NewStack s f) = stackref p.types ∷ []
common_gives p (commons.KillStack s) = []
common_gives p commons.ThreadExit = []
common_gives p commons.CurrentStack = stackref p.types ∷ []
common_gives p (commons.SetThreadlocal r) = []
common_gives p commons.GetThreadlocal = ref_void p.types ∷ []
common_gives p (commons.FutexWait t l v) = int32 p.types ∷ []
common_gives p (commons.FutexWake t l n) = int32 p.types ∷ []
common_gives p (commons.FutexWaitTimeout t l v n) = int32 p.types ∷ []

abbrev pub common_code : Tables → Locals → CommonInst → CommonForm
common_code p ls (commons.NewStack s f) = forms.NewStack (noted_signature (signature_named p s)) (source_of p ls f)
common_code p ls (commons.KillStack s) = forms.KillStack (source_of p ls s)
common_code p ls commons.ThreadExit = forms.ThreadExit
common_code p ls commons.CurrentStack = forms.CurrentStack
common_code p ls (commons.SetThreadlocal r) = forms.SetThreadlocal (source_of p ls r)
common_code p ls commons.GetThreadlocal = forms.GetThreadlocal
common_code p ls (commons.FutexWait t l v) = forms.FutexWait (noted_class p t) (source_of p ls l) (source_of p ls v)
common_code p ls (commons.FutexWake t l n) = forms.FutexWake (noted_class p t) (source_of p ls l) (source_of p ls n)
common_code p ls (commons.FutexWaitTimeout t l v n) = forms.FutexWaitTimeout (noted_class p t) (source_of p ls l) (source_of p ls v) (source_of p ls n)
