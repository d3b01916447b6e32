-- What a search answers: its outcomes, each with a schedule, and whether these are all.
use Rattle.std.specs.Prelude.{◌≡◌, ◌≢◌, ◌<◌, ℕ, suc, Bool, true, false, List, [], ◌∷◌, ◌++◌, length, map, Option, Some, None, Ok, Err, codes, if◌then◌else◌}
use Rattle.std.specs.List.{Contains, AllByRecursion}
use Rattle.mu_base.specs.declared.status.Status.{Status}
use Rattle.mu_base.specs.declared.status.Status.TheVariants.{Done, Budget, Usage}
use Rattle.mu_base.specs.Outcome.{Outcome}
use Rattle.ir_tree.specs.declared.items.Item.{Item}
use Rattle.run_texts.specs.EventTexts.{Text}
use Rattle.search_laws.specs.Programs.{shows_tree}
use Rattle.leaf_laws.specs.Leaves.{leaf_list, Among}
use Rattle.search_texts.specs.Texts.{outcome_text, is_complete, last_line}
use Rattle.seen_runs.specs.Seen.{Found, Shown, Complete, shows}
use Rattle.conditions.specs.declared.tree.Condition.{Condition}
use Rattle.condition_answers.specs.Lines.{answer_lines, answers_status}
use Rattle.mu_texts.specs.declared.ready.Ready.{Ready}
use Rattle.mu_texts.specs.declared.ready.Ready.TheVariants.{Entered}
use Rattle.mu_texts.specs.Start.{Started}
use Rattle.mu_texts.specs.Answer.{Answer, Part, line}
use Rattle.mu_command.specs.Answer.{Outcomes, found}
use Rattle.explore.specs.declared.search.Search.{Search}
use Rattle.explore.specs.Asked.{run_of}
use Rattle.explore.specs.Conditions.{shown_globals, asked_conditions}

-- ---- the text

-- outcomes that are numbered from k on
abbrev pub outcomes_from : ℕ → List Found → Text
outcomes_from k [] = []
outcomes_from k (o ∷ os) = outcome_text k o.text o.picks ++ outcomes_from (suc k) os

abbrev pub texts_of : List Found → List Text
texts_of os = map (λ (o : Found). o.text) os

-- the status of a search without conditions, by whether it is complete; else that of the answers to these
abbrev pub search_status : Bool → List Condition → Status → Status
search_status complete [] answered = if complete then Done else Budget
search_status complete (c ∷ cs) answered = answered

-- The answer with these outcomes, and after them the lines of the answers to conditions over their texts: `left` says whether a run is
-- left after those made, `all` whether each of those showed something.
abbrev pub search_answer : List Found → Bool → Bool → List Condition → Answer
search_answer os left all cs =
    record {
      pieces = (outcomes_from 0 os ++ answer_lines (texts_of os) (is_complete left all) cs ++ last_line (length os) left all) ∷ [];
      status = search_status (is_complete left all) cs (answers_status (texts_of os) (is_complete left all) cs);
    }

-- ---- what holds of it

-- of what a run came to: its text is among those of the outcomes; or it came to its budget, and then not all runs said something
abbrev pub IsListed : List Found → Bool → Option Text → Type 0
IsListed os says None = says ≡ false
IsListed os says (Some text) = Contains (map (λ (o : Found). o.text) os) text

-- The answer to a search of at most `runs` runs with these conditions. Each outcome is that of its schedule's run; they differ, and stand in
-- the order of their bytes. Where the last line is `complete`, no schedule shows anything else, and none comes to its budget. What was made
-- are runs by schedules that differ in their picks, and the outcome of each is there. The last line has `runs` only where as many were made
-- as may be, and there are more; it has `steps` only where the run of some schedule comes to its budget. Without `steps` there is an outcome,
-- where a run may be made.
pub record IsSearch (code : List Item) (start : Started) (runs : ℕ) (conditions : List Condition) (answer : Answer) : Type 0 where
  pub outcomes : List Found
  pub left : Bool
  pub says : Bool
  pub shown : Shown code start.setting start.entry outcomes
  pub complete : is_complete left says ≡ true → Complete code start.setting start.entry outcomes
  -- what each run came to that was made
  pub made : List (Option Text)
  pub by_schedules : Among made (leaf_list (shows_tree code start.setting start.entry))
  pub listed : AllByRecursion (IsListed outcomes says) made
  pub cut : left ≡ true → (length made ≡ runs) × (runs < length (leaf_list (shows_tree code start.setting start.entry)))
  pub short : says ≡ false → (picks : List ℕ) × (shows code start.setting start.entry picks ≡ None)
  pub some : says ≡ true → 0 < runs → outcomes ≢ []
  pub is : answer ≡ search_answer outcomes left says conditions

-- the same where conditions are asked; or the first fault of their file
abbrev pub IsConditioned : List Item → Started → ℕ → Part (List Condition) → Answer → Type 0
IsConditioned code start runs (Ok cs) answer = IsSearch code start runs cs answer
IsConditioned code start runs (Err stop) answer = answer ≡ stop

-- the conditions that are asked of these runs
abbrev pub conditions_of : List Item → Started → Search → Outcome → Part (List Condition)
conditions_of code start s o = asked_conditions (shown_globals code start.setting.objects) s.condition o

-- the same of a bundle that is entered; what the words ask for is a run, of which `found` gives nothing else, so the other cases are empty
abbrev pub IsSearchOf : Search → Outcome → Ready → Answer → Type 0
IsSearchOf s o (Entered code start telling) answer = IsConditioned code start s.runs (conditions_of code start s o) answer
IsSearchOf s o _ answer = ⊥

-- what comes of the files: the first fault, which is that of `mu run`, or after these that of the conditions; else the search
abbrev pub IsSearched : Search → Outcome → Part Ready → Answer → Type 0
IsSearched s o (Ok ready) answer = IsSearchOf s o ready answer
IsSearched s o (Err stop) answer = answer ≡ stop

-- An answer to the words and the outcomes of their fetches, the last of which is that of the conditions. It is a relation: which schedule
-- shows an outcome, which runs are made, and which outcomes a bounded search finds beside those of its runs, are not said.
abbrev pub IsAnswer : List (List ℕ) → Option Search → Outcomes → Outcome → Answer → Type 0
IsAnswer words None outcomes o answer = answer ≡ line (codes "usage") Usage
IsAnswer words (Some s) outcomes o answer = IsSearched s o (found words (run_of s) outcomes) answer
