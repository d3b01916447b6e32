-- With which answers a part of the way ends.
use Rattle.std.proofs.Common.{◌≡◌, ℕ, List, refl, Option, Some, None}
use Rattle.std.specs.Prelude.{Bool, Result, Ok, Err}
use Rattle.mu_base.specs.declared.status.Status.TheVariants.{Refused}
use Rattle.demands.specs.declared.fault.Fault.{Fault}
use Rattle.demands.specs.declared.fault.Fault.TheVariants as faults
use Rattle.demands.specs.Demands.{first_unmet}
use Rattle.ir_tree.specs.declared.items.Item.{Item}
use Rattle.ir_text.specs.declared.fault.TextFault.{TextFault}
use Rattle.ir_text.specs.declared.fault.TextFault.TheVariants as text_faults
use Rattle.ir_text.specs.TextAnswers.{text_answer}
use Rattle.bundle_names.specs.Naming.{name_demands}
use Rattle.checked_code.specs.declared.fault.EntryFault.{EntryFault}
use Rattle.checked_code.specs.Checking.{check_demands}
use Rattle.checked_code.specs.Answers.{entry}
use Rattle.hail_load.specs.declared.tree.Command.{Command}
use Rattle.hail_load.specs.Code.{code_of}
use Rattle.hail_load.specs.Texts.{hail_demands, hail_commands}
use Rattle.client_script.specs.Texts.{script_demands, script_entries}
use Rattle.loaded_programs.specs.Laws.{carried_out, loaded_objects}
use Rattle.mu_model.specs.Clients as clients
use Rattle.mu_threads.specs.ScheduleTexts.{schedule_demands, schedule_numbers}
use Rattle.mem_axioms.specs.declared.types.Rule.{Rule}
use Rattle.bundle_join.specs.declared.fault.JoinFault.{JoinFault}
use Rattle.bundle_join.specs.declared.fault.JoinFault.TheVariants as join_faults
use Rattle.bundle_join.specs.Joined.{joined}
use Rattle.log_lines.specs.declared.types.LogKind.{LogKind}
use Rattle.log_lines.specs.Texts.{ReadLog, text_read}
use Rattle.verdicts.specs.Verdicts.{verdict}
use Rattle.mu_texts.specs.declared.ready.Ready.TheVariants as ready
use Rattle.mu_texts.specs.declared.what.What.{What}
use Rattle.mu_texts.specs.declared.what.What.TheVariants.{Bundle, Hail, Client, Schedule}
use Rattle.mu_texts.specs.Refusals.{name_fault_name, check_fault_name, hail_fault_name, load_fault_name, script_fault_name, schedule_fault_name}
use Rattle.mu_texts.specs.Answer.{Answer, no_answer, Part, ◌>>=◌, read_part, met_part, named, checked, written_in, as_written, joined_part, for_join, log_part, for_judge, accepted, entry_part, entered, hail_part, filled_part, loaded, client_part, scheduled}

-- an answer that ends the way is so
abbrev pub StopsSo : (Answer → Type 0) → {A : Type 0} → Part A → Type 0
StopsSo P (Ok x) = Unit {0}
StopsSo P (Err answer) = P answer

pub then : (P : Answer → Type 0) → {A B : Type 0} (part : Part A) (more : A → Part B) → StopsSo P part → ((x : A) → StopsSo P (more x)) → StopsSo P (part >>= more)
then P (Ok x) more s m = m x
then P (Err answer) more s m = s

-- what is asked of a text ends with a refusal alone
module _ (P : Answer → Type 0) (refused : (answer : Answer) → answer.status ≡ Refused → P answer) (memory : P no_answer) where
  reading : (what : What) (r : Result (List Item) TextFault) → StopsSo P (read_part what r)
  reading what (Ok bundle) = tt
  reading what (Err (text_faults.At kind place)) = refused _ refl
  reading what (Err text_faults.Memory) = memory

  meeting : {K A : Type 0} (what : What) (name : K → List ℕ) (x : A) (fault : Option (Fault K)) → StopsSo P (met_part what name x fault)
  meeting what name x None = tt
  meeting what name x (Some (faults.At kind place)) = refused _ refl
  meeting what name x (Some faults.Memory) = memory

  entering : (r : Result ℕ EntryFault) → StopsSo P (entry_part r)
  entering (Ok n) = tt
  entering (Err fault) = refused _ refl

  pub accepting : (bytes : List ℕ) → StopsSo P (accepted bytes)
  accepting bytes =
      then P (as_written bytes >>= named) checked
      (then P (as_written bytes) named (reading Bundle (text_answer bytes)) (λ bundle. meeting Bundle name_fault_name bundle (first_unmet (name_demands bundle))))
      (λ bundle. meeting Bundle check_fault_name bundle (first_unmet (check_demands bundle)))

  -- a text that is a bundle
  pub writing_in : (what : What) (bytes : List ℕ) → StopsSo P (written_in what bytes)
  writing_in what bytes = reading what (text_answer bytes)

  pub writing : (bytes : List ℕ) → StopsSo P (as_written bytes)
  writing bytes = writing_in Bundle bytes

  -- bundles that are joined
  joined_so : (r : Result (List Item) JoinFault) → StopsSo P (joined_part r)
  joined_so (Ok bundle) = tt
  joined_so (Err (join_faults.At kind k place)) = refused _ refl
  joined_so (Err join_faults.Memory) = memory

  pub joining : (bundles : List (List Item)) → StopsSo P (for_join bundles)
  joining bundles = then P (joined_part (joined bundles)) (λ bundle. Ok (ready.Canonical bundle)) (joined_so (joined bundles)) (λ bundle. tt)

  -- a log that is judged
  logging : (r : Result ReadLog (Fault LogKind)) → StopsSo P (log_part r)
  logging (Ok log) = tt
  logging (Err (faults.At kind place)) = refused _ refl
  logging (Err faults.Memory) = memory

  pub judging_log : (rule : Rule) (bytes : List ℕ) → StopsSo P (for_judge rule bytes)
  judging_log rule bytes = then P (log_part (text_read bytes)) (λ r. Ok (ready.Judged (verdict rule r.log))) (logging (text_read bytes)) (λ r. tt)

  -- a function that is entered
  pub entering_named : (bundle : List Item) (name : List ℕ) → StopsSo P (entered bundle name)
  entering_named bundle name = entering (entry bundle name)

  -- a script that fills the heap, one that is a client, and a schedule
  pub loading : (code : List Item) (cells : ℕ) (bytes : List ℕ) → StopsSo P (loaded code cells bytes)
  loading code cells bytes =
      then P (hail_part code bytes) (filled_part code cells) (meeting Hail hail_fault_name (hail_commands bytes) (first_unmet (hail_demands (code_of code).names bytes)))
      (λ commands. meeting Hail load_fault_name (loaded_objects code cells commands) (carried_out code cells commands).fault)

  pub scripting : (code : List Item) (auto : Bool) (bytes : List ℕ) → StopsSo P (client_part code auto bytes)
  scripting code auto bytes =
      meeting {A = clients.Client} Client script_fault_name (record { entries = script_entries code bytes; auto = auto }) (first_unmet (script_demands code bytes))

  pub scheduling : (bytes : List ℕ) → StopsSo P (scheduled bytes)
  scheduling bytes = meeting Schedule schedule_fault_name (schedule_numbers bytes) (first_unmet (schedule_demands bytes))
