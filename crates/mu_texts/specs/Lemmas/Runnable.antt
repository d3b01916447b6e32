-- A function that may be entered, of a bundle that is accepted, can be run.
use Rattle.std.proofs.Common.{◌≡◌, ℕ, ◌≤◌, List, [], Option, Some, None, IsSome, IsSomeAnd, refl, sym, ◌∙◌, ap, subst}
use Rattle.std.specs.Prelude.{false, Result, Ok, Err}
use Rattle.demands.specs.declared.fault.Fault.{Fault}
use Rattle.demands.specs.declared.fault.Fault.TheVariants as faults
use Rattle.demands.specs.Demands.{first_unmet}
use Rattle.ir_tree.specs.declared.items.Item.{Item}
use Rattle.ir_text.specs.declared.fault.TextFault.{TextFault}
use Rattle.ir_text.specs.declared.fault.TextFault.TheVariants as text_faults
use Rattle.ir_text.specs.TextAnswers.{IsAnswer, AnswerIsOne, text_answer}
use Rattle.bundle_names.specs.Naming.{name_demands}
use Rattle.checked_code.specs.Checking.{check_demands}
use Rattle.checked_code.specs.declared.fault.EntryFault.{EntryFault}
use Rattle.checked_code.specs.Answers.{entry}
use Rattle.typed_heap.specs.Places.{with_some}
use Rattle.mu_model.specs.Configuration.{Configuration}
use Rattle.mu_model.specs.Programs.{named as program}
use Rattle.mu_model.specs.Run.{Setting, begins_in, first_configuration}
use Rattle.typed_programs.specs.Laws.{SettingFits}
use Rattle.text_programs.specs.Laws.{OfAcceptedTexts, EnteredRunsEnd, EnteredRunsHaveAnEnding}
use Rattle.text_forms.specs.Reading.{elements}
use Rattle.ir_lex.specs.Scanner.{gap_len, next_of}
use Rattle.ir_lex.specs.Walk.{tokens_within, tokens_from}
use Rattle.client_script.specs.Grammar.{script}
use Rattle.client_script.specs.Texts.{script_demands, script_entries}
use Rattle.loaded_programs.specs.Laws.{loaded_objects, LoadedSettingFits, LoadedSettingsFit}
use Rattle.mem_axioms.specs.declared.types.Rule.TheVariants.{C11}
use Rattle.mu_texts.specs.declared.what.What.{What}
use Rattle.mu_texts.specs.declared.what.What.TheVariants.{Bundle}
use Rattle.mu_texts.specs.Refusals.{name_fault_name, check_fault_name}
use Rattle.mu_texts.specs.Answer.{Part, ◌>>=◌, read_part, met_part, named, checked, as_written, accepted, entry_part, run_of}
use Rattle.mu_texts.specs.Comes.{IsLoaded, LoadedRunsEnd, CanBegin}

-- ---- a text that is accepted was read, and met its demands

pub goes_on : {A B : Type 0} (part : Part A) (more : A → Part B) (b : B) → (part >>= more) ≡ Ok b → (a : A) × (part ≡ Ok a) × (more a ≡ Ok b)
goes_on (Ok a) more b h = (a, refl, h)
goes_on (Err answer) more b h = cc

abbrev read_as : List Item → Result (List Item) TextFault
read_as bundle = Ok bundle

was_read : (r : Result (List Item) TextFault) (bundle : List Item) → read_part Bundle r ≡ Ok bundle → r ≡ Ok bundle
was_read (Ok code) bundle h = let same : code ≡ bundle = cc in ap read_as same
was_read (Err (text_faults.At kind place)) bundle h = cc
was_read (Err text_faults.Memory) bundle h = cc

pub was_met : {K A : Type 0} (what : What) (name : K → List ℕ) (x y : A) (fault : Option (Fault K)) → met_part what name x fault ≡ Ok y → (fault ≡ None) × (x ≡ y)
was_met what name x y None h = (refl, let same : x ≡ y = cc in same)
was_met what name x y (Some (faults.At kind place)) h = cc
was_met what name x y (Some faults.Memory) h = cc

-- so what holds of each text that is accepted holds of it
pub of_accepted : (holds : List Item → Type 0) (bytes : List ℕ) (code : List Item) → AnswerIsOne → OfAcceptedTexts holds → accepted bytes ≡ Ok code → holds code
of_accepted holds bytes code one law h =
    let met = goes_on (as_written bytes >>= named) checked code h in
    let fine = was_met Bundle check_fault_name met.0 code (first_unmet (check_demands met.0)) met.2 in
    let names = goes_on (as_written bytes) named met.0 met.1 in
    let good = was_met Bundle name_fault_name names.0 met.0 (first_unmet (name_demands names.0)) names.2 in
    let read : text_answer bytes ≡ Ok names.0 = was_read (text_answer bytes) names.0 names.1 in
    let answered : IsAnswer bytes (Ok names.0) = (one bytes (Ok names.0)).1 read in
    let same : names.0 ≡ code = good.1 ∙ fine.1 in
    subst holds same (law bytes names.0 answered good.0 (subst (λ b. first_unmet (check_demands b) ≡ None) (sym good.1) fine.0))

-- a setting with objects that commands made and the client of a script fits
pub fitting : (code : List Item) (s : Setting) → LoadedSettingFits code → IsLoaded code s → SettingFits code s
fitting code s law h = law s h.objects.commands h.objects.cells h.objects.is h.client

pub loaded_runs_end : (bytes : List ℕ) (code : List Item) → AnswerIsOne → EnteredRunsHaveAnEnding → LoadedSettingsFit → accepted bytes ≡ Ok code → LoadedRunsEnd code
unfolding run_of
loaded_runs_end bytes code one ends fits h = λ s name n loaded there.
    of_accepted EnteredRunsEnd bytes code one ends h s name n (fitting code s (of_accepted LoadedSettingFits bytes code one fits h) loaded) there

-- ---- a function that is entered, of a bundle that is accepted

pub was_entered : (r : Result ℕ EntryFault) (n : ℕ) → entry_part r ≡ Ok n → r ≡ Ok n
was_entered (Ok m) n h = let same : m ≡ n = cc in ap entered_as same
  where
    entered_as : ℕ → Result ℕ EntryFault
    entered_as n = Ok n
was_entered (Err fault) n h = cc

-- ---- and its functions begin

has_body : (b : Option (Option ℕ)) (go : ℕ → Configuration) → IsSome (with_some b (λ b. with_some b (λ block. Some (go block)))) → IsSomeAnd b IsSome
has_body None go h = cc
has_body (Some None) go h = cc
has_body (Some (Some block)) go h = refl

-- a setting over the objects of the globals alone, with the client of the empty text
abbrev plain : List Item → Setting
plain code = record { objects = loaded_objects code 0 []; client = record { entries = script_entries code []; auto = false }; picks = []; cells = 0; budget = 0; rule = C11 }

plain_accepted : (code : List Item) → first_unmet (script_demands code []) ≡ None
unfolding tokens_from tokens_within next_of gap_len elements script
plain_accepted code = refl

pub can_begin : (code : List Item) (name : List ℕ) (n : ℕ) → LoadedRunsEnd code → entry code name ≡ Ok n → CanBegin code n
can_begin code name n ends entered =
    let r = ends (plain code) name n (record { objects = record { commands = []; cells = 0; is = refl }; client = record { text = []; accepted = plain_accepted code; entries = refl } }) entered in
    record { begins = has_body ((program code).body n) (begins_in (program code) (plain code) n) r.0; ends = λ s loaded. (ends s name n loaded entered).1 }
