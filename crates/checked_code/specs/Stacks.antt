-- Instructions that ask the client, enter another stack or start a thread: for each form its demands from left to right,
-- what it gives, and its code. What EXC, WPEXC and KEEPALIVE ask, and the second destination of a WATCHPOINT, stand with the instruction.
use Rattle.std.specs.Prelude.{ℕ, ◌^◌, List, [], ◌∷◌, Option, Some, option_map, not, nat_lt, ◌&&◌}
use Rattle.std.specs.Option.{option_map_or}
use Rattle.demands.specs.Demands.{Demands, none, demand, ◌⨾◌}
use Rattle.ir_lex.specs.declared.name.Numeral.{Numeral}
use Rattle.ir_tree.specs.declared.operands.Operand.{Operand}
use Rattle.ir_tree.specs.declared.trapping.Trapping.{Trapping}
use Rattle.ir_tree.specs.declared.trapping.Trapping.TheVariants as trappings
use Rattle.ir_tree.specs.declared.switching.StackSwitch.{StackSwitch}
use Rattle.ir_tree.specs.declared.switching.StackSwitch.TheVariants as switches
use Rattle.check_tables.specs.declared.fault.CheckKind.{CheckKind}
use Rattle.check_tables.specs.declared.fault.CheckKind.TheVariants.{OperandType, BadIndex}
use Rattle.check_tables.specs.declared.tables.Tables.{Tables}
use Rattle.check_tables.specs.Types.{stackref, threadref, ref_void}
use Rattle.checked_code.specs.declared.code.Source.{Source}
use Rattle.checked_code.specs.declared.code.TrappingForm.{TrappingForm}
use Rattle.checked_code.specs.declared.code.TrappingForm.TheVariants as asking
use Rattle.checked_code.specs.declared.code.SwitchForm.{SwitchForm}
use Rattle.checked_code.specs.declared.code.SwitchForm.TheVariants as switching
use Rattle.checked_code.specs.declared.scopes.Locals.{Locals}
use Rattle.checked_code.specs.declared.scopes.Body.{Body}
use Rattle.checked_code.specs.Operands.{operand_demands, value_type_demands, noted_list, source_of}
use Rattle.checked_code.specs.Destinations.{normal_demands, target_of, entered_demands, entered_code}

-- ---- asking

-- the number of a watchpoint is less than 2^32
abbrev pub watchpoint_demand : Numeral → Demands CheckKind
watchpoint_demand n = demand n.place BadIndex (not n.number.negative && nat_lt n.number.magnitude (2 ^ 32))

abbrev pub trapping_demands : Tables → Body → Locals → Trapping → Demands CheckKind
-- TRAP < T* > exc? keep?: value types
trapping_demands p f ls (trappings.Trap ts e k) = value_type_demands p ts
-- WATCHPOINT n < T* > dest dest wpexc? keep?: n below 2^32; value types
trapping_demands p f ls (trappings.Watchpoint n ts d e x k) = watchpoint_demand n ⨾ value_type_demands p ts ⨾ normal_demands p f ls d
-- WPBRANCH n dest dest: n below 2^32
trapping_demands p f ls (trappings.Wpbranch n d e) = watchpoint_demand n ⨾ normal_demands p f ls d ⨾ normal_demands p f ls e

-- the classes of the results
abbrev pub trapping_gives : Tables → Trapping → List ℕ
trapping_gives p (trappings.Trap ts e k) = noted_list p ts
trapping_gives p (trappings.Watchpoint n ts d e x k) = noted_list p ts
trapping_gives p (trappings.Wpbranch n d e) = []

abbrev pub trapping_code : Tables → Body → Locals → Trapping → TrappingForm
trapping_code p f ls (trappings.Trap ts e k) = asking.Trap (noted_list p ts)
trapping_code p f ls (trappings.Watchpoint n ts d e x k) = asking.Watchpoint n.number.magnitude (noted_list p ts) (target_of p f ls d)
trapping_code p f ls (trappings.Wpbranch n d e) = asking.Wpbranch n.number.magnitude (target_of p f ls d) (target_of p f ls e)

-- ---- entering

abbrev pub stack_demands : Tables → Locals → Operand → Demands CheckKind
stack_demands p ls s = operand_demands p ls OperandType s (Some (stackref p.types))

-- THREADLOCAL ( value ), which may be left out: a ref<void>
abbrev pub threadlocal_demands : Tables → Locals → Option Operand → Demands CheckKind
threadlocal_demands p ls o = option_map_or (λ v. operand_demands p ls OperandType v (Some (ref_void p.types))) o none

abbrev pub switch_demands : Tables → Locals → StackSwitch → Demands CheckKind
-- SWAPSTACK s RET_WITH < T* > new exc? keep?: s: stackref; value types
switch_demands p ls (switches.SwapReturning s ts n e k) = stack_demands p ls s ⨾ value_type_demands p ts ⨾ entered_demands p ls n
-- SWAPSTACK s KILL_OLD new: s: stackref
switch_demands p ls (switches.SwapKilling s n) = stack_demands p ls s ⨾ entered_demands p ls n
-- NEWTHREAD s tl? new exc?: s: stackref; the value: ref<void>
switch_demands p ls (switches.Newthread s tl n e) = stack_demands p ls s ⨾ threadlocal_demands p ls tl ⨾ entered_demands p ls n

-- the classes of the results
abbrev pub switch_gives : Tables → StackSwitch → List ℕ
switch_gives p (switches.SwapReturning s ts n e k) = noted_list p ts
switch_gives p (switches.SwapKilling s n) = []
switch_gives p (switches.Newthread s tl n e) = threadref p.types ∷ []

abbrev pub optional_source : Tables → Locals → Option Operand → Option Source
optional_source p ls o = option_map (source_of p ls) o

abbrev pub switch_code : Tables → Locals → StackSwitch → SwitchForm
switch_code p ls (switches.SwapReturning s ts n e k) = switching.SwapReturning (source_of p ls s) (noted_list p ts) (entered_code p ls n)
switch_code p ls (switches.SwapKilling s n) = switching.SwapKilling (source_of p ls s) (entered_code p ls n)
switch_code p ls (switches.Newthread s tl n e) = switching.Newthread (source_of p ls s) (optional_source p ls tl) (entered_code p ls n)
