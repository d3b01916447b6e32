-- The file of conditions: its slot, its name in texts, and what it comes to.
use Rattle.std.specs.Prelude.{◌≡◌, ◌⊎◌, ℕ, ◌+◌, List, [], ◌∷◌, ◌++◌, Option, None, Some, Ok, Err, codes, decimal}
use Rattle.mu_base.specs.declared.status.Status.TheVariants.{ReadFault, TooLong, Refused}
use Rattle.mu_base.specs.Faults.{Rose}
use Rattle.mu_base.specs.Files.{IsMissing}
use Rattle.mu_base.specs.Outcome.{Outcome, got, failed, too_long, Allows, IsLonger}
use Rattle.demands.specs.declared.fault.Fault.{Fault}
use Rattle.demands.specs.declared.fault.Fault.TheVariants as faults
use Rattle.demands.specs.Demands.{first_unmet}
use Rattle.name_scopes.specs.Names.{Names, added}
use Rattle.ir_tree.specs.declared.items.Item.{Item}
use Rattle.typed_heap.specs.Objects.{HeapObject}
use Rattle.seen_runs.specs.Seen.{global_names, small_names}
use Rattle.conditions.specs.declared.fault.ConditionKind.{ConditionKind}
use Rattle.conditions.specs.declared.fault.ConditionKind.TheVariants as kinds
use Rattle.conditions.specs.declared.tree.Condition.{Condition}
use Rattle.conditions.specs.Texts.{condition_demands, conditions_in}
use Rattle.mu_texts.specs.Refusals.{text_fault_name}
use Rattle.mu_texts.specs.Answer.{Answer, no_answer, Part, ◌>>=◌, line}
use Rattle.mu_command.specs.Job.{word}
use Rattle.mu_command.specs.Allowed.{Seen, file_limit}

-- the slot, by which inputs count its faults
abbrev pub condition_slot : ℕ
condition_slot = 4

-- ---- its fetch

abbrev pub unread_line : Answer
unread_line = line (codes "read fault condition") ReadFault

abbrev pub long_line : Answer
long_line = line (codes "too long condition") TooLong

abbrev pub fetched_condition : Outcome → Part (List ℕ)
fetched_condition (got bytes) = Ok bytes
fetched_condition failed = Err unread_line
fetched_condition too_long = Err long_line

-- the inputs allow this outcome for the file that a word names; where no word names it, it is empty
abbrev pub AllowsCondition : Seen → List (List ℕ) → Option ℕ → Outcome → Type 0
AllowsCondition seen words None o = o ≡ got []
AllowsCondition seen words (Some n) o = Allows seen.told (word words n) file_limit (seen.before condition_slot) (seen.now condition_slot) o

-- ---- its text

abbrev pub condition_fault_name : ConditionKind → List ℕ
condition_fault_name (kinds.Text kind) = text_fault_name kind
condition_fault_name kinds.Unknown = codes "Unknown"

-- what is read, or the first fault
abbrev pub read_conditions : List Condition → Option (Fault ConditionKind) → Part (List Condition)
read_conditions cs None = Ok cs
read_conditions cs (Some (faults.At kind place)) = Err (line (codes "refused condition " ++ decimal place ++ codes " " ++ condition_fault_name kind) Refused)
read_conditions cs (Some faults.Memory) = Err no_answer

abbrev pub condition_part : Names ℕ → List ℕ → Part (List Condition)
condition_part names bytes = read_conditions (conditions_in names bytes) (first_unmet (condition_demands names bytes))

-- names, numbered from n on; the first of a name stands
abbrev pub numbered : ℕ → Names ℕ → List (List ℕ) → Names ℕ
numbered n names [] = names
numbered n names (x ∷ xs) = numbered (n + 1) (added names x n) xs

-- the globals that outcomes show, with their numbers there
abbrev pub shown_globals : List Item → List HeapObject → Names ℕ
shown_globals code objects = numbered 0 [] (small_names (global_names code) objects)

-- the conditions that are asked of the runs of a bundle; none where no word names a file of them
abbrev pub asked_conditions : Names ℕ → Option ℕ → Outcome → Part (List Condition)
asked_conditions names None o = Ok []
asked_conditions names (Some n) o = fetched_condition o >>= condition_part names

-- ---- causes

-- a fetch of the file that a word names may have failed; it is past the limit; any cause
abbrev pub MayBeUnread : Seen → List (List ℕ) → ℕ → Type 0
MayBeUnread seen words n = Rose (seen.before condition_slot) (seen.now condition_slot) ⊎ IsMissing seen.told (word words n)

abbrev pub IsTooLong : Seen → List (List ℕ) → ℕ → Type 0
IsTooLong seen words n = IsLonger seen.told (word words n) file_limit × (seen.now condition_slot ≡ seen.before condition_slot)

abbrev pub AnyCause : Seen → List (List ℕ) → ℕ → Type 0
AnyCause seen words n = Unit {0}
