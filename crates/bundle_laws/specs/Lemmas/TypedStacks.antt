-- Instructions that ask the client or enter another stack, and that meet their demands, fit, one clause a form.
use Rattle.std.proofs.Common.{◌≡◌, ◌^◌, true, Option, Some, None, not, nat_lt, refl}
use Rattle.demands.specs.Demands.{AllMet}
use Rattle.ir_lex.specs.declared.name.Numeral.{Numeral}
use Rattle.ir_tree.specs.declared.operands.Operand.{Operand}
use Rattle.ir_tree.specs.declared.operands.NewStackClause.{NewStackClause}
use Rattle.ir_tree.specs.declared.operands.NewStackClause.TheVariants as clauses
use Rattle.ir_tree.specs.declared.trapping.Trapping.{Trapping}
use Rattle.ir_tree.specs.declared.trapping.Trapping.TheVariants as trappings
use Rattle.ir_tree.specs.declared.switching.StackSwitch.{StackSwitch}
use Rattle.ir_tree.specs.declared.switching.StackSwitch.TheVariants as switches
use Rattle.check_tables.specs.declared.fault.CheckKind.TheVariants.{OperandType}
use Rattle.check_tables.specs.declared.tables.Tables.{Tables}
use Rattle.check_tables.specs.Types.{stackref, ref_void}
use Rattle.checked_code.specs.declared.scopes.Locals.{Locals}
use Rattle.checked_code.specs.declared.scopes.Body.{Body}
use Rattle.checked_code.specs.Operands.{source_of, noted_list}
use Rattle.checked_code.specs.Destinations.{entered_demands, entered_code}
use Rattle.checked_code.specs.Stacks.{watchpoint_demand, stack_demands, trapping_demands, trapping_gives, trapping_code, threadlocal_demands, optional_source, switch_demands, switch_gives, switch_code}
use Rattle.bundle_laws.specs.Typed.{SourceFits, OptionalFits, Blocks, EnteredFits, TrappingFits, SwitchFits, LocalsFit, BodyFits}
use Rattle.bundle_laws.specs.Lemmas.TypedOperands.{both_are, operand_fits, arguments_fit, value_types_fit, normal_fits}

-- ---- asking

watchpoint_fits : (n : Numeral) → AllMet (watchpoint_demand n) → nat_lt n.number.magnitude (2 ^ 32) ≡ true
watchpoint_fits n m = (both_are (not n.number.negative) (nat_lt n.number.magnitude (2 ^ 32)) m).1

pub trapping_fits : (p : Tables) (blocks : Blocks) (f : Body) (ls : Locals) (t : Trapping) → BodyFits blocks f → LocalsFit ls →
    AllMet (trapping_demands p f ls t) → TrappingFits p blocks ls.classes (trapping_code p f ls t) (trapping_gives p t)
trapping_fits p blocks f ls (trappings.Trap ts e k) body fits m = (value_types_fit p ts m, refl)
trapping_fits p blocks f ls (trappings.Watchpoint n ts d e x k) body fits m =
    (watchpoint_fits n m.0, value_types_fit p ts m.1.0, normal_fits p blocks f ls d body fits m.1.1, refl)
trapping_fits p blocks f ls (trappings.Wpbranch n d e) body fits m =
    (watchpoint_fits n m.0, normal_fits p blocks f ls d body fits m.1.0, normal_fits p blocks f ls e body fits m.1.1, refl)

-- ---- entering

entered_fits : (p : Tables) (ls : Locals) (n : NewStackClause) → LocalsFit ls → AllMet (entered_demands p ls n) → EnteredFits p ls.classes (entered_code p ls n)
entered_fits p ls (clauses.PassValues ts a) fits m = (value_types_fit p ts m.0, arguments_fit p ls a (Some (noted_list p ts)) fits m.1)
entered_fits p ls (clauses.ThrowExc e) fits m = operand_fits p ls OperandType e (Some (ref_void p.types)) fits m

threadlocal_fits : (p : Tables) (ls : Locals) (o : Option Operand) → LocalsFit ls → AllMet (threadlocal_demands p ls o) →
    OptionalFits p ls.classes (optional_source p ls o) (ref_void p.types)
threadlocal_fits p ls None fits m = tt
threadlocal_fits p ls (Some o) fits m = operand_fits p ls OperandType o (Some (ref_void p.types)) fits m

stack_fits : (p : Tables) (ls : Locals) (s : Operand) → LocalsFit ls → AllMet (stack_demands p ls s) → SourceFits p ls.classes (source_of p ls s) (stackref p.types)
stack_fits p ls s fits m = operand_fits p ls OperandType s (Some (stackref p.types)) fits m

pub switch_fits : (p : Tables) (ls : Locals) (s : StackSwitch) → LocalsFit ls → AllMet (switch_demands p ls s) →
    SwitchFits p ls.classes (switch_code p ls s) (switch_gives p s)
switch_fits p ls (switches.SwapReturning s ts n e k) fits m = (stack_fits p ls s fits m.0, value_types_fit p ts m.1.0, entered_fits p ls n fits m.1.1, refl)
switch_fits p ls (switches.SwapKilling s n) fits m = (stack_fits p ls s fits m.0, entered_fits p ls n fits m.1, refl)
switch_fits p ls (switches.Newthread s tl n e) fits m = (stack_fits p ls s fits m.0, threadlocal_fits p ls tl fits m.1.0, entered_fits p ls n fits m.1.1, refl)
