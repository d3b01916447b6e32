-- The names in each instruction that asks the client, enters another stack or starts a thread, from left to right.
use Rattle.std.specs.Option.{option_map_or}
use Rattle.demands.specs.Demands.{Demands, none, ◌⨾◌}
use Rattle.name_scopes.specs.Names.{Names}
use Rattle.ir_tree.specs.declared.trapping.Trapping.{Trapping}
use Rattle.ir_tree.specs.declared.trapping.Trapping.TheVariants as trappings
use Rattle.ir_tree.specs.declared.switching.StackSwitch.{StackSwitch}
use Rattle.ir_tree.specs.declared.switching.StackSwitch.TheVariants as switches
use Rattle.bundle_names.specs.declared.fault.NameKind.{NameKind}
use Rattle.bundle_names.specs.declared.globals.Sort.{Sort}
use Rattle.bundle_names.specs.declared.function_names.FunctionNames.{FunctionNames}
use Rattle.bundle_names.specs.Uses.{type_uses, operand_use, destination_use, exception_use, keepalive_use, entered_use}

abbrev pub trapping_use : Names Sort → FunctionNames → Trapping → Demands NameKind
-- TRAP < T* > exc? keep?
trapping_use g f (trappings.Trap ts e k) = type_uses g ts ⨾ exception_use g f e ⨾ keepalive_use f k
-- WATCHPOINT n < T* > dest dest wpexc? keep?, with wpexc = WPEXC ( dest )
trapping_use g f (trappings.Watchpoint n ts d e x k) =
    type_uses g ts ⨾ destination_use g f d ⨾ destination_use g f e ⨾ option_map_or (destination_use g f) x none ⨾ keepalive_use f k
-- WPBRANCH n dest dest
trapping_use g f (trappings.Wpbranch n d e) = destination_use g f d ⨾ destination_use g f e

abbrev pub switch_use : Names Sort → FunctionNames → StackSwitch → Demands NameKind
-- SWAPSTACK s RET_WITH < T* > new exc? keep?
switch_use g f (switches.SwapReturning s ts n e k) = operand_use g f s ⨾ type_uses g ts ⨾ entered_use g f n ⨾ exception_use g f e ⨾ keepalive_use f k
-- SWAPSTACK s KILL_OLD new
switch_use g f (switches.SwapKilling s n) = operand_use g f s ⨾ entered_use g f n
-- NEWTHREAD s tl? new exc?, with tl = THREADLOCAL ( value )
switch_use g f (switches.Newthread s tl n e) =
    operand_use g f s ⨾ option_map_or (operand_use g f) tl none ⨾ entered_use g f n ⨾ exception_use g f e
