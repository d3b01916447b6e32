-- How faults are named in refusals.
use Rattle.std.specs.Prelude.{ℕ, List, codes}
use Rattle.text_forms.specs.declared.fault.FaultKind.{FaultKind}
use Rattle.text_forms.specs.declared.fault.FaultKind.TheVariants as kinds
use Rattle.mu_types.specs.declared.faults.TypeKind.{TypeKind}
use Rattle.mu_types.specs.declared.faults.TypeKind.TheVariants as type_kinds
use Rattle.mu_values.specs.declared.literals.ConstKind.{ConstKind}
use Rattle.mu_values.specs.declared.literals.ConstKind.TheVariants as const_kinds
use Rattle.bundle_names.specs.declared.fault.NameKind.{NameKind}
use Rattle.bundle_names.specs.declared.fault.NameKind.TheVariants as name_kinds
use Rattle.check_tables.specs.declared.fault.CheckKind.{CheckKind}
use Rattle.check_tables.specs.declared.fault.CheckKind.TheVariants as check_kinds
use Rattle.checked_code.specs.declared.fault.EntryFault.{EntryFault}
use Rattle.checked_code.specs.declared.fault.EntryFault.TheVariants as entry_faults
use Rattle.hail_load.specs.declared.fault.HailKind.{HailKind}
use Rattle.hail_load.specs.declared.fault.HailKind.TheVariants as hail_kinds
use Rattle.hail_load.specs.declared.fault.LoadKind.{LoadKind}
use Rattle.hail_load.specs.declared.fault.LoadKind.TheVariants as load_kinds
use Rattle.client_script.specs.declared.fault.ScriptKind.{ScriptKind}
use Rattle.client_script.specs.declared.fault.ScriptKind.TheVariants as script_kinds
use Rattle.log_lines.specs.declared.types.LogKind.{LogKind}
use Rattle.log_lines.specs.declared.types.LogKind.TheVariants as log_kinds
use Rattle.bundle_join.specs.declared.fault.JoinKind.{JoinKind}
use Rattle.bundle_join.specs.declared.fault.JoinKind.TheVariants as join_kinds
use Rattle.mu_threads.specs.declared.reading.ScheduleKind.{ScheduleKind}
use Rattle.mu_threads.specs.declared.reading.ScheduleKind.TheVariants as schedule_kinds

abbrev pub text_fault_name : FaultKind → List ℕ
text_fault_name kinds.BadByte = codes "BadByte"
text_fault_name kinds.BadName = codes "BadName"
text_fault_name kinds.NumberTooLarge = codes "NumberTooLarge"
text_fault_name kinds.TooLong = codes "TooLong"
text_fault_name kinds.Unexpected = codes "Unexpected"
text_fault_name kinds.NotInProfile = codes "NotInProfile"
text_fault_name kinds.TooMany = codes "TooMany"

abbrev pub name_fault_name : NameKind → List ℕ
name_fault_name name_kinds.Duplicate = codes "Duplicate"
name_fault_name name_kinds.Unknown = codes "Unknown"
name_fault_name name_kinds.WrongKind = codes "WrongKind"

abbrev pub type_fault_name : TypeKind → List ℕ
type_fault_name type_kinds.EndlessType = codes "EndlessType"
type_fault_name type_kinds.WrongArgument = codes "WrongArgument"
type_fault_name type_kinds.TooManyLeaves = codes "TooManyLeaves"

abbrev pub const_fault_name : ConstKind → List ℕ
const_fault_name const_kinds.OutOfWidth = codes "OutOfWidth"
const_fault_name const_kinds.WrongShape = codes "WrongShape"
const_fault_name const_kinds.NotNullable = codes "NotNullable"

abbrev pub check_fault_name : CheckKind → List ℕ
check_fault_name (check_kinds.Types kind) = type_fault_name kind
check_fault_name (check_kinds.Const kind) = const_fault_name kind
check_fault_name check_kinds.OperandType = codes "OperandType"
check_fault_name check_kinds.ResultCount = codes "ResultCount"
check_fault_name check_kinds.ArgumentCount = codes "ArgumentCount"
check_fault_name check_kinds.ArgumentType = codes "ArgumentType"
check_fault_name check_kinds.NotLocal = codes "NotLocal"
check_fault_name check_kinds.NoEnding = codes "NoEnding"
check_fault_name check_kinds.AfterEnding = codes "AfterEnding"
check_fault_name check_kinds.BadOrder = codes "BadOrder"
check_fault_name check_kinds.BadDestination = codes "BadDestination"
check_fault_name check_kinds.BadIndex = codes "BadIndex"
check_fault_name check_kinds.BadSignature = codes "BadSignature"
check_fault_name check_kinds.EntryParameters = codes "EntryParameters"

abbrev pub entry_fault_name : EntryFault → List ℕ
entry_fault_name entry_faults.Unknown = codes "Unknown"
entry_fault_name entry_faults.BadSignature = codes "BadSignature"
entry_fault_name entry_faults.NoBody = codes "NoBody"

-- what is wrong with the text of a script that fills the heap, and with a command of it
abbrev pub hail_fault_name : HailKind → List ℕ
hail_fault_name (hail_kinds.Text kind) = text_fault_name kind
hail_fault_name hail_kinds.Unknown = codes "Unknown"
hail_fault_name hail_kinds.Duplicate = codes "Duplicate"

abbrev pub load_fault_name : LoadKind → List ℕ
load_fault_name load_kinds.WrongType = codes "WrongType"
load_fault_name load_kinds.OutOfRange = codes "OutOfRange"
load_fault_name load_kinds.HeapFull = codes "HeapFull"

-- what is wrong with the text of a client's script
abbrev pub script_fault_name : ScriptKind → List ℕ
script_fault_name (script_kinds.Text kind) = text_fault_name kind
script_fault_name script_kinds.Unknown = codes "Unknown"

abbrev pub schedule_fault_name : ScheduleKind → List ℕ
schedule_fault_name schedule_kinds.BadToken = codes "BadToken"
schedule_fault_name schedule_kinds.NumberTooLarge = codes "NumberTooLarge"

-- what is wrong with the text of a log
abbrev pub log_fault_name : LogKind → List ℕ
log_fault_name log_kinds.Lex = codes "Lex"
log_fault_name log_kinds.Unexpected = codes "Unexpected"
log_fault_name log_kinds.BadNumber = codes "BadNumber"

-- why an item cannot go into the joined bundle
abbrev pub join_fault_name : JoinKind → List ℕ
join_fault_name join_kinds.Duplicate = codes "Duplicate"
join_fault_name join_kinds.OtherType = codes "OtherType"
join_fault_name join_kinds.OtherSignature = codes "OtherSignature"
join_fault_name join_kinds.TooMany = codes "TooMany"
