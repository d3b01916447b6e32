-- An instruction in its block: its demands in their order, what it gives, its code, and the variables behind it.
use Rattle.std.specs.Prelude.{ℕ, Bool, true, List, [], ◌∷◌, ◌++◌, Option, Some, None, option_map, is_some, not, nat_eq, length}
use Rattle.std.specs.Option.{option_map_or}
use Rattle.demands.specs.Demands.{Demands, none, demand, ◌⨾◌}
use Rattle.name_scopes.specs.Names.{added}
use Rattle.ir_lex.specs.declared.name.Name.{Name}
use Rattle.ir_tree.specs.declared.operands.Destination.{Destination}
use Rattle.ir_tree.specs.declared.operands.ExceptionClause.{ExceptionClause}
use Rattle.ir_tree.specs.declared.computing.Computation.TheVariants as computations
use Rattle.ir_tree.specs.declared.flow.ControlFlow.TheVariants as flows
use Rattle.ir_tree.specs.declared.allocating.Allocation.TheVariants as allocations
use Rattle.ir_tree.specs.declared.accessing.Access.TheVariants as accesses
use Rattle.ir_tree.specs.declared.trapping.Trapping.TheVariants as trappings
use Rattle.ir_tree.specs.declared.switching.StackSwitch.TheVariants as switches
use Rattle.ir_tree.specs.declared.common.CommonInst.TheVariants as commons
use Rattle.ir_tree.specs.declared.code.Op.{Op}
use Rattle.ir_tree.specs.declared.code.Op.TheVariants as ops
use Rattle.ir_tree.specs.declared.code.Inst.{Inst}
use Rattle.check_tables.specs.declared.fault.CheckKind.{CheckKind}
use Rattle.check_tables.specs.declared.fault.CheckKind.TheVariants.{AfterEnding, ResultCount}
use Rattle.check_tables.specs.declared.tables.Tables.{Tables}
use Rattle.checked_code.specs.declared.code.Form.{Form}
use Rattle.checked_code.specs.declared.code.Form.TheVariants as forms
use Rattle.checked_code.specs.declared.code.Code.{Code}
use Rattle.checked_code.specs.declared.scopes.Locals.{Locals}
use Rattle.checked_code.specs.declared.scopes.Body.{Body}
use Rattle.checked_code.specs.Operands.{variable_demands}
use Rattle.checked_code.specs.Destinations.{normal_demands, exceptional_demands, optional_target, keepalive_numbers}
use Rattle.checked_code.specs.Computations.{computation_demands, computation_gives, computation_code}
use Rattle.checked_code.specs.Control.{control_demands, control_gives, control_code}
use Rattle.checked_code.specs.Objects.{allocation_demands, allocation_gives, allocation_code, addressing_demands, addressing_gives, addressing_code}
use Rattle.checked_code.specs.Accesses.{access_demands, access_gives, access_code}
use Rattle.checked_code.specs.Stacks.{trapping_demands, trapping_gives, trapping_code, switch_demands, switch_gives, switch_code}
use Rattle.checked_code.specs.Commons.{common_demands, common_gives, common_code}

-- ---- by kind

-- what stands before EXC, WPEXC, KEEPALIVE and the second destination of a WATCHPOINT
abbrev pub op_demands : Tables → Body → Locals → Op → Demands CheckKind
op_demands p f ls (ops.Computation c) = computation_demands p ls c
op_demands p f ls (ops.ControlFlow c) = control_demands p f ls c
op_demands p f ls (ops.Allocation a) = allocation_demands p ls a
op_demands p f ls (ops.Addressing a) = addressing_demands p ls a
op_demands p f ls (ops.Access a) = access_demands p ls a
op_demands p f ls (ops.Trapping t) = trapping_demands p f ls t
op_demands p f ls (ops.StackSwitch s) = switch_demands p ls s
op_demands p f ls (ops.Common c) = common_demands p ls c

-- the classes of the results
abbrev pub gives : Tables → Op → List ℕ
gives p (ops.Computation c) = computation_gives p c
gives p (ops.ControlFlow c) = control_gives p c
gives p (ops.Allocation a) = allocation_gives p a
gives p (ops.Addressing a) = addressing_gives p a
gives p (ops.Access a) = access_gives p a
gives p (ops.Trapping t) = trapping_gives p t
gives p (ops.StackSwitch s) = switch_gives p s
gives p (ops.Common c) = common_gives p c

abbrev pub form_of : Tables → Body → Locals → Op → Form
form_of p f ls (ops.Computation c) = forms.Computation (computation_code p ls c)
form_of p f ls (ops.ControlFlow c) = forms.Control (control_code p f ls c)
form_of p f ls (ops.Allocation a) = forms.Allocation (allocation_code p ls a)
form_of p f ls (ops.Addressing a) = forms.Addressing (addressing_code p ls a)
form_of p f ls (ops.Access a) = forms.Access (access_code p ls a)
form_of p f ls (ops.Trapping t) = forms.Trapping (trapping_code p f ls t)
form_of p f ls (ops.StackSwitch s) = forms.Switch (switch_code p ls s)
form_of p f ls (ops.Common c) = forms.Common (common_code p ls c)

-- ---- what stands behind it

-- EXC ( dest dest )
abbrev pub exc_of : Op → Option ExceptionClause
exc_of (ops.Computation (computations.Binary op t a b e)) = e
exc_of (ops.ControlFlow (flows.Call s c a e k)) = e
exc_of (ops.Allocation (allocations.New t e)) = e
exc_of (ops.Allocation (allocations.Newhybrid h i n e)) = e
exc_of (ops.Allocation (allocations.Alloca t e)) = e
exc_of (ops.Access (accesses.Load o t l e)) = e
exc_of (ops.Access (accesses.Store o t l a e)) = e
exc_of (ops.Access (accesses.Cmpxchg w s o t l a b e)) = e
exc_of (ops.Access (accesses.Atomicrmw o op t l a e)) = e
exc_of (ops.Trapping (trappings.Trap ts e k)) = e
exc_of (ops.StackSwitch (switches.SwapReturning s ts n e k)) = e
exc_of (ops.StackSwitch (switches.Newthread s tl n e)) = e
exc_of _ = None

-- the destination that may use the instruction's own results: the first of EXC, the second of a WATCHPOINT
abbrev pub normal_of : Op → Option Destination
normal_of (ops.Trapping (trappings.Watchpoint n ts d e x k)) = Some e
normal_of op = option_map (λ e. e.normal) (exc_of op)

-- the destination of an exception: the second of EXC, that of WPEXC
abbrev pub exceptional_of : Op → Option Destination
exceptional_of (ops.Trapping (trappings.Watchpoint n ts d e x k)) = x
exceptional_of op = option_map (λ e. e.exceptional) (exc_of op)

-- KEEPALIVE ( L* ): variables of any type
abbrev pub keepalive_of : Op → Option (List Name)
keepalive_of (ops.ControlFlow (flows.Call s c a e k)) = k
keepalive_of (ops.Trapping (trappings.Trap ts e k)) = k
keepalive_of (ops.Trapping (trappings.Watchpoint n ts d e x k)) = k
keepalive_of (ops.StackSwitch (switches.SwapReturning s ts n e k)) = k
keepalive_of _ = None

-- ---- endings

-- these end their block, SWAPSTACK with KILL_OLD and @uvm.thread_exit among them, and so does every instruction with EXC
abbrev pub is_ending : Op → Bool
is_ending (ops.ControlFlow (flows.Branch d)) = true
is_ending (ops.ControlFlow (flows.Branch2 c d e)) = true
is_ending (ops.ControlFlow (flows.Switch t a d cs)) = true
is_ending (ops.ControlFlow (flows.Tailcall s c a)) = true
is_ending (ops.ControlFlow (flows.Ret a)) = true
is_ending (ops.ControlFlow (flows.Throw e)) = true
is_ending (ops.Trapping (trappings.Watchpoint n ts d e x k)) = true
is_ending (ops.Trapping (trappings.Wpbranch n d e)) = true
is_ending (ops.StackSwitch (switches.SwapKilling s n)) = true
is_ending (ops.Common commons.ThreadExit) = true
is_ending op = is_some (exc_of op)

-- ---- variables

abbrev pub no_locals : Locals
no_locals = record { names = []; classes = [] }

-- with one more variable: its number is how many there were
abbrev pub bound : Locals → Name → ℕ → Locals
bound ls n c = record { names = added ls.names n.text (record { number = length ls.classes; class = c }); classes = ls.classes ++ c ∷ [] }

abbrev pub bound_results : Locals → List Name → List ℕ → Locals
bound_results ls [] cs = ls
bound_results ls (n ∷ ns) [] = ls
bound_results ls (n ∷ ns) (c ∷ cs) = bound_results (bound ls n c) ns cs

-- the variables behind an instruction
abbrev pub after : Tables → Locals → Inst → Locals
after p ls i = bound_results ls i.results (gives p i.op)

-- ---- an instruction

-- it stands behind no ending one; it has as many results as it gives; then its tokens from left to right
unfoldable pub inst_demands : Tables → Body → Locals → Bool → Inst → Demands CheckKind
inst_demands p f ls ended i =
    demand i.place AfterEnding (not ended)
    ⨾ demand i.place ResultCount (nat_eq (length i.results) (length (gives p i.op)))
    ⨾ op_demands p f ls i.op
    ⨾ option_map_or (normal_demands p f (after p ls i)) (normal_of i.op) none
    ⨾ option_map_or (exceptional_demands p f ls) (exceptional_of i.op) none
    ⨾ option_map_or (variable_demands ls) (keepalive_of i.op) none

abbrev pub inst_code : Tables → Body → Locals → Inst → Code
inst_code p f ls i =
    record {
      form = form_of p f ls i.op;
      normal = optional_target p f (after p ls i) (normal_of i.op);
      exceptional = optional_target p f ls (exceptional_of i.op);
      keepalive = keepalive_numbers ls (keepalive_of i.op);
    }

-- instructions behind an ending one or not
abbrev pub insts_demands : Tables → Body → Locals → Bool → List Inst → Demands CheckKind
insts_demands p f ls ended [] = none
insts_demands p f ls ended (i ∷ is) = inst_demands p f ls ended i ⨾ insts_demands p f (after p ls i) (is_ending i.op) is

abbrev pub insts_code : Tables → Body → Locals → List Inst → List Code
insts_code p f ls [] = []
insts_code p f ls (i ∷ is) = inst_code p f ls i ∷ insts_code p f (after p ls i) is

-- the variables behind all of them
abbrev pub after_all : Tables → Locals → List Inst → Locals
after_all p ls [] = ls
after_all p ls (i ∷ is) = after_all p (after p ls i) is

-- whether the last of them ends the block
abbrev pub ends : Bool → List Inst → Bool
ends ended [] = ended
ends ended (i ∷ is) = ends (is_ending i.op) is
