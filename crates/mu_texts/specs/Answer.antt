-- What the texts of files come to, and what is written then.
use Rattle.std.specs.Prelude.{ℕ, ◌+◌, Bool, true, false, List, [], ◌∷◌, ◌++◌, length, sum_by, Option, None, Some, Result, Ok, Err, codes, decimal, if◌then◌else◌}
use Rattle.std.specs.List.{count_by}
use Rattle.mu_base.specs.declared.status.Status.{Status}
use Rattle.mu_base.specs.declared.status.Status.TheVariants as statuses
use Rattle.mu_base.specs.declared.status.Status.TheVariants.{Done as Finished, Refused, Memory, No}
use Rattle.ir_text.specs.declared.fault.TextFault.{TextFault}
use Rattle.ir_text.specs.declared.fault.TextFault.TheVariants as text_faults
use Rattle.ir_text.specs.TextAnswers.{text_answer}
use Rattle.ir_tree.specs.declared.items.Item.{Item}
use Rattle.ir_print.specs.Items.{bundle_text}
use Rattle.demands.specs.declared.fault.Fault.{Fault}
use Rattle.demands.specs.declared.fault.Fault.TheVariants as faults
use Rattle.demands.specs.Demands.{first_unmet}
use Rattle.bundle_names.specs.Naming.{name_demands}
use Rattle.checked_code.specs.declared.fault.EntryFault.{EntryFault}
use Rattle.checked_code.specs.Checking.{bundle_tables, check_demands}
use Rattle.checked_code.specs.Answers.{entry}
use Rattle.mu_model.specs.Programs.{named as program}
use Rattle.typed_heap.specs.Objects.{HeapObject}
use Rattle.hail_load.specs.declared.tree.Command.{Command}
use Rattle.hail_load.specs.Code.{code_of}
use Rattle.hail_load.specs.Texts.{hail_demands, hail_commands}
use Rattle.loaded_programs.specs.Laws.{carried_out, loaded_objects}
use Rattle.client_script.specs.Texts.{script_demands, script_entries}
use Rattle.mu_threads.specs.ScheduleTexts.{schedule_demands, schedule_numbers}
use Rattle.mem_axioms.specs.declared.types.Rule.{Rule}
use Rattle.bundle_join.specs.declared.fault.JoinFault.{JoinFault}
use Rattle.bundle_join.specs.declared.fault.JoinFault.TheVariants as join_faults
use Rattle.bundle_join.specs.Joined.{joined}
use Rattle.log_lines.specs.declared.types.LogKind.{LogKind}
use Rattle.log_lines.specs.Texts.{ReadLog, text_read}
use Rattle.verdicts.specs.declared.types.Verdict.{Verdict}
use Rattle.verdicts.specs.declared.types.Verdict.TheVariants as verdicts
use Rattle.verdicts.specs.Verdicts.{verdict}
use Rattle.mu_model.specs.declared.lines.Line.{Line}
use Rattle.mu_model.specs.declared.lines.Line.TheVariants as lines
use Rattle.mu_model.specs.Clients as clients
use Rattle.mu_model.specs.Run.{Setting, cells_left, Run, Ends, Breaks, Unfinished, program_run}
use Rattle.run_texts.specs.Texts.{ending_text, ending_status}
use Rattle.run_texts.specs.Pieces.{pieces_of}
use Rattle.mu_texts.specs.declared.what.What.{What}
use Rattle.mu_texts.specs.declared.what.What.TheVariants.{Bundle, Hail, Client, Schedule, Log, Joined}
use Rattle.mu_texts.specs.declared.ready.Ready.{Ready}
use Rattle.mu_texts.specs.declared.ready.Ready.TheVariants as ready
use Rattle.mu_texts.specs.declared.ready.Telling.{Telling}
use Rattle.mu_texts.specs.declared.ready.Telling.TheVariants.{Lines, Counts}
use Rattle.mu_texts.specs.Start.{Started}
use Rattle.mu_texts.specs.What.{name_of}
use Rattle.mu_texts.specs.Refusals.{text_fault_name, name_fault_name, check_fault_name, entry_fault_name, hail_fault_name, load_fault_name, script_fault_name, schedule_fault_name, log_fault_name, join_fault_name}

-- What is to be written, in the pieces that are put one by one, and the status that goes with it.
pub record Answer : Type 0 where
  pub pieces : List (List ℕ)
  pub status : Status

-- one line, in one piece
abbrev pub line : List ℕ → Status → Answer
line words status = record { pieces = (words ++ 10 ∷ []) ∷ []; status = status }

-- An answer that no call can end with: a definition gives it where, by a law, it is never asked.
abbrev pub no_answer : Answer
no_answer = record { pieces = []; status = Memory }

-- What a part of the way comes to: something to go on with, or the answer that ends it.
abbrev pub Part : Type 0 → Type 0
Part A = Result A Answer

infixl 10 ◌>>=◌
abbrev pub ◌>>=◌ : {A B : Type 0} → Part A → (A → Part B) → Part B
(Ok x) >>= more = more x
(Err answer) >>= more = Err answer

-- `refused WHAT PLACE FAULT`
abbrev pub refused : What → ℕ → List ℕ → Answer
refused what place fault = line (codes "refused " ++ name_of what ++ codes " " ++ decimal place ++ codes " " ++ fault) Refused

-- the text of a file is a bundle, or has a first fault
abbrev pub read_part : What → Result (List Item) TextFault → Part (List Item)
read_part what (Ok bundle) = Ok bundle
read_part what (Err (text_faults.At kind place)) = Err (refused what place (text_fault_name kind))
read_part what (Err text_faults.Memory) = Err no_answer

-- what a file stands for, or the first fault that was found in it, of a kind that has a name
abbrev pub met_part : {K A : Type 0} → What → (K → List ℕ) → A → Option (Fault K) → Part A
met_part what name x None = Ok x
met_part what name x (Some (faults.At kind place)) = Err (refused what place (name kind))
met_part what name x (Some faults.Memory) = Err no_answer

-- all its names are defined, each once; and it meets all other demands
abbrev pub named : List Item → Part (List Item)
named bundle = met_part Bundle name_fault_name bundle (first_unmet (name_demands bundle))

abbrev pub checked : List Item → Part (List Item)
checked bundle = met_part Bundle check_fault_name bundle (first_unmet (check_demands bundle))

-- the bundle that the text of a file is, and that of the one bundle of a job
abbrev pub written_in : What → List ℕ → Part (List Item)
written_in what bytes = read_part what (text_answer bytes)

abbrev pub as_written : List ℕ → Part (List Item)
as_written bytes = written_in Bundle bytes

-- the bundle that a text is, where it meets its demands
abbrev pub accepted : List ℕ → Part (List Item)
accepted bytes = as_written bytes >>= named >>= checked

-- the function that the run begins with
abbrev pub entry_part : Result ℕ EntryFault → Part ℕ
entry_part (Ok n) = Ok n
entry_part (Err fault) = Err (line (codes "refused entry " ++ entry_fault_name fault) Refused)

abbrev pub entered : List Item → List ℕ → Part ℕ
entered bundle name = entry_part (entry bundle name)

-- what `mu check` and `mu print` ask of a text: that it is accepted; or the bundle as it is written
abbrev pub for_check : List ℕ → Part Ready
for_check bytes = accepted bytes >>= λ code. Ok ready.Accepted

abbrev pub for_print : List ℕ → Part Ready
for_print bytes = as_written bytes >>= λ bundle. Ok (ready.Canonical bundle)

-- ---- bundles that are joined

-- the joined bundle, or the first item that cannot go into it, in the file of its bundle
abbrev pub joined_part : Result (List Item) JoinFault → Part (List Item)
joined_part (Ok bundle) = Ok bundle
joined_part (Err (join_faults.At kind k place)) = Err (refused (Joined k) place (join_fault_name kind))
joined_part (Err join_faults.Memory) = Err no_answer

-- what `mu join` asks of bundles
abbrev pub for_join : List (List Item) → Part Ready
for_join bundles = joined_part (joined bundles) >>= λ bundle. Ok (ready.Canonical bundle)

-- ---- a log that is judged

-- a text is that of a log, or has a first fault
abbrev pub log_part : Result ReadLog (Fault LogKind) → Part ReadLog
log_part (Ok r) = Ok r
log_part (Err (faults.At kind place)) = Err (refused Log place (log_fault_name kind))
log_part (Err faults.Memory) = Err no_answer

-- what `mu judge` asks of a text: a log, which is judged by the rule of release sequences
abbrev pub for_judge : Rule → List ℕ → Part Ready
for_judge rule bytes = log_part (text_read bytes) >>= λ r. Ok (ready.Judged (verdict rule r.log))

-- ---- what a run is given

-- the commands that a text spells
abbrev pub hail_part : List Item → List ℕ → Part (List Command)
hail_part code bytes = met_part Hail hail_fault_name (hail_commands bytes) (first_unmet (hail_demands (code_of code).names bytes))

-- the objects behind those commands, where so many cells may be made besides those of the globals
abbrev pub filled_part : List Item → ℕ → List Command → Part (List HeapObject)
filled_part code cells commands = met_part Hail load_fault_name (loaded_objects code cells commands) (carried_out code cells commands).fault

-- the objects that are there when the run begins: those of the globals, and those that the commands of a text make
abbrev pub loaded : List Item → ℕ → List ℕ → Part (List HeapObject)
loaded code cells bytes = hail_part code bytes >>= filled_part code cells

-- the client with the entries that a text spells; after the last one it passes zero and NULL, or stops the run
abbrev pub client_part : List Item → Bool → List ℕ → Part clients.Client
client_part code auto bytes = met_part Client script_fault_name (record { entries = script_entries code bytes; auto = auto }) (first_unmet (script_demands code bytes))

-- the numbers of a schedule
abbrev pub scheduled : List ℕ → Part (List ℕ)
scheduled bytes = met_part Schedule schedule_fault_name (schedule_numbers bytes) (first_unmet (schedule_demands bytes))

-- a run with that setting, from the function with that number
abbrev pub started : List Item → ℕ → Setting → Started
started code n s = record { entry = n; setting = s; left = cells_left (bundle_tables code) s.cells s.objects }

-- the run of a function of a bundle
unfoldable pub run_of : List Item → ℕ → Setting → Run
run_of code n s = program_run (program code) s n

-- the text of the run in its pieces; a run without an ending would have no answer
abbrev pub run_answer : List Item → Run → Answer
run_answer bundle (Ends steps lines e) = record { pieces = pieces_of bundle steps lines e; status = ending_status e }
run_answer bundle Breaks = no_answer
run_answer bundle Unfinished = no_answer

-- how many events the lines of the steps tell of, and those of the step that gives the ending
abbrev pub is_event : Line → Bool
is_event (lines.Event n e) = true
is_event (lines.Note n) = false

abbrev pub events_in : List (List Line) → List Line → ℕ
events_in steps ls = sum_by (count_by is_event) steps + count_by is_event ls

-- `trial N steps S events E ENDING`: so many steps were made, and the lines tell of so many events
abbrev pub trial_line : ℕ → ℕ → ℕ → List ℕ → List ℕ
trial_line n steps events ending = codes "trial " ++ decimal n ++ codes " steps " ++ decimal steps ++ codes " events " ++ decimal events ++ codes " " ++ ending

-- the line that tells of the run of the made bundle with n pairs
abbrev pub trial_answer : ℕ → List Item → Run → Answer
trial_answer n bundle (Ends steps ls e) = line (trial_line n (length steps) (events_in steps ls) (ending_text bundle e)) (ending_status e)
trial_answer n bundle Breaks = no_answer
trial_answer n bundle Unfinished = no_answer

-- what is told of the run of a bundle: its text, or the line that counts
abbrev pub told_answer : Telling → List Item → Run → Answer
told_answer Lines bundle r = run_answer bundle r
told_answer (Counts n) bundle r = trial_answer n bundle r

-- a text in one piece; an empty one has none
abbrev pub in_one_piece : List ℕ → List (List ℕ)
in_one_piece [] = []
in_one_piece (b ∷ text) = (b ∷ text) ∷ []

-- ---- the verdict on a log

-- `yes EVENTS`, or what is first wrong, with the numbers of events
abbrev pub verdict_text : Verdict → List ℕ
verdict_text (verdicts.Yes events) = codes "yes " ++ decimal events
verdict_text (verdicts.Form event) = codes "no form " ++ decimal event
verdict_text (verdicts.Axiom1 earlier event) = codes "no axiom 1 " ++ decimal earlier ++ codes " " ++ decimal event
verdict_text (verdicts.Axiom3 a b) = codes "no axiom 3 " ++ decimal a ++ codes " " ++ decimal b
verdict_text (verdicts.Race earlier event) = codes "no race " ++ decimal earlier ++ codes " " ++ decimal event

abbrev pub is_yes : Verdict → Bool
is_yes (verdicts.Yes events) = true
is_yes _ = false

-- the status No goes with each verdict but Yes
abbrev pub verdict_status : Verdict → Status
verdict_status v = if is_yes v then Finished else No

abbrev pub verdict_answer : Verdict → Answer
verdict_answer v = line (verdict_text v) (verdict_status v)

-- ---- what is written

-- the statuses that an answer to what was accepted may have: Done, those of the endings of runs, and No
abbrev pub is_end : Status → Bool
is_end Finished = true
is_end No = true
is_end statuses.Stop = true
is_end statuses.Undefined = true
is_end statuses.HeapFull = true
is_end statuses.ThreadsFull = true
is_end statuses.AllWaiting = true
is_end statuses.Budget = true
is_end _ = false

-- what is written then: `ok`, the canonical text in one piece, the line of a verdict, or what is told of the run
abbrev pub ready_answer : Ready → Answer
ready_answer ready.Accepted = line (codes "ok") Finished
ready_answer (ready.Canonical bundle) = record { pieces = in_one_piece (bundle_text bundle); status = Finished }
ready_answer (ready.Judged v) = verdict_answer v
ready_answer (ready.Entered code start telling) = told_answer telling code (run_of code start.entry start.setting)

abbrev pub ready_part : Part Ready → Answer
ready_part (Ok r) = ready_answer r
ready_part (Err answer) = answer
