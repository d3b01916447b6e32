-- The files of a search and its runs, put together to an answer.
use Rattle.std.proofs.Common.{◌≡◌, ◌∙◌, ℕ, suc, ◌+◌, ◌≤◌, inl, inr, List, [], ◌∷◌, ◌++◌, length, refl, sym, ap, subst, Option, Some, None}
use Rattle.std.specs.Prelude.{Bool, true, false, ◌==◌, slice_index_or, if◌then◌else◌, Vec, Result, Ok, Err, codes}
use Rattle.std.specs.declared.alloc.Global.{Global}
use Rattle.mu_base.specs.declared.status.Status.{Status}
use Rattle.mu_base.specs.declared.status.Status.TheVariants.{Usage}
use Rattle.mu_base.specs.Outcome.{Outcome, got}
use Rattle.mu_base.specs.Lemmas.Outcomes.{some_outcome}
use Rattle.typed_heap.specs.Objects.{HeapObject}
use Rattle.name_scopes.specs.Names.{Names, added}
use Rattle.conditions.specs.declared.tree.Condition.{Condition}
use Rattle.seen_runs.specs.declared.globals.Final.{Final}
use Rattle.seen_runs.specs.Seen.{global_names, small_names}
use Rattle.seen_runs.specs.Finals.{finals_in}
use Rattle.ir_tree.specs.declared.items.Item.{Item}
use Rattle.mu_texts.specs.declared.what.What.{What}
use Rattle.mu_texts.specs.declared.what.What.TheVariants.{Bundle, Hail, Client, Schedule, Log, Joined}
use Rattle.mu_texts.specs.declared.stop.Stop.{Stop}
use Rattle.mu_texts.specs.declared.stop.Stop.TheVariants.{Line, Memory}
use Rattle.mu_texts.specs.declared.ready.Ready.{Ready}
use Rattle.mu_texts.specs.declared.ready.Ready.TheVariants.{Entered}
use Rattle.mu_texts.specs.declared.ready.Telling.TheVariants.{Lines}
use Rattle.mu_texts.specs.Start.{Started}
use Rattle.mu_texts.specs.Answer.{Answer, Part, line, accepted}
use Rattle.mu_command.specs.Answer.{Outcomes, found}
use Rattle.mu_command.specs.declared.job.RunJob.{RunJob}
use Rattle.mu_command.specs.declared.job.Job.TheVariants.{Run}
use Rattle.mu_command.specs.Job.{file_of}
use Rattle.mu_command.specs.Allowed.{Seen, AllowsFile, AllowsJob}
use Rattle.mu_command.specs.Parts.{IsJudged, IsBegun, OfFile, OfRun, SameSlot}
use Rattle.mu_command.specs.Lemmas.Beginnings.{same_slot, some_named, outcomes_with}
use Rattle.run_search.specs.Given.{Given, IsReady}
use Rattle.explore.specs.declared.search.Search.{Search}
use Rattle.explore.specs.Asked.{search_of, run_of, runs_of, condition_of}
use Rattle.explore.specs.Conditions.{condition_slot, AllowsCondition, numbered, shown_globals, asked_conditions}
use Rattle.explore.specs.Answers.{IsSearch, IsConditioned, conditions_of, IsSearched, IsAnswer}
use Rattle.explore.specs.Parts.{numbered_finals, OfConditions, AreAsked, started_of, as_started, answer_in, HasMade, IsMade, HasAnswer, IsFound}

-- ---- the file of conditions

-- what is allowed of its slot is what was seen of it
pub same_condition : (seen last : Seen) (words : List (List ℕ)) (n : Option ℕ) (o : Outcome) → seen.told ≡ last.told → seen.before condition_slot ≡ last.before condition_slot → seen.now condition_slot ≡ last.now condition_slot
    → AllowsCondition seen words n o → AllowsCondition last words n o
same_condition seen last words None o a b c h = h
same_condition seen last words (Some n) o a b c h = rw (a, b, c) at h

-- some outcome of it
some_condition : (seen : Seen) (words : List (List ℕ)) (n : Option ℕ) → seen.before condition_slot ≤ seen.now condition_slot → (o : Outcome) × AllowsCondition seen words n o
some_condition seen words None le = (got [], refl)
some_condition seen words (Some n) le = some_outcome _ _ _ _ _ le

-- the globals that outcomes show
names_are : (n k : ℕ) (names : Names ℕ) (gs : List (List ℕ)) (os : List HeapObject) → numbered_finals n names (finals_in k gs os) ≡ numbered n names (small_names gs os)
names_are n k names [] os = refl
names_are n k names (g ∷ gs) [] = refl
names_are n k names (g ∷ gs) (o ∷ os) = by _ (length o.leaves == 1) refl (λ m more. names_are m (suc k) more gs os)
  where
    by : (f : Final) (b : Bool) → f.name ≡ g → ((m : ℕ) (more : Names ℕ) → numbered_finals m more (finals_in (suc k) gs os) ≡ numbered m more (small_names gs os))
        → numbered_finals n names ((if b then f ∷ [] else []) ++ finals_in (suc k) gs os) ≡ numbered n names (if b then g ∷ small_names gs os else small_names gs os)
    by f true e rest = ap (λ (x : List ℕ). numbered_finals (n + 1) (added names x n) (finals_in (suc k) gs os)) e ∙ rest (n + 1) (added names g n)
    by f false e rest = rest n names

-- ---- the runs of a bundle

module _ (seen : Seen) (words : List (List ℕ)) (s : Search) (code : List Item) where
  -- they do not begin
  pub none_made : (stop : Stop) → IsBegun seen words s.run code (as_started (Err stop)) → IsMade seen words s code (Err stop)
  none_made Memory h = tt
  none_made (Line text status) h = inl h

module _ (seen : Seen) (words : List (List ℕ)) (s : Search) (code : List Item) (g : Given) (names : Names ℕ) (same : g.bundle ≡ code) (ready : IsReady g) (named : names ≡ numbered_finals 0 [] g.finals)
    (begins : OfRun seen words s.run code (Ok (started_of g))) where
  shown : names ≡ shown_globals code (started_of g).setting.objects
  shown =
      named ∙ ap (numbered_finals 0 []) ready.finals ∙ names_are 0 0 [] (global_names g.bundle) (started_of g).setting.objects
      ∙ ap (λ (c : List Item). shown_globals c (started_of g).setting.objects) same

  asked_of : (is : Part (List Condition)) (o : Outcome) → asked_conditions names s.condition o ≡ is → conditions_of code (started_of g) s o ≡ is
  asked_of is o e = ap (λ (names : Names ℕ). asked_conditions names s.condition o) (sym shown) ∙ e

  made_with : (is : Part (List Condition)) (answer : Answer) (h : OfConditions seen words s.condition names is) → IsConditioned code (started_of g) s.runs is answer → HasMade seen words s code answer
  made_with is answer h searched = record {
    start = started_of g;
    begins = begins;
    condition = h.outcome;
    allowed = h.allowed;
    searched = subst (λ (p : Part (List Condition)). IsConditioned code (started_of g) s.runs p answer) (sym (asked_of is h.outcome h.comes)) searched;
  }

  -- no conditions are read
  pub none_asked : (stop : Stop) → AreAsked seen words s.condition names (Err stop) → IsMade seen words s code (Err stop)
  none_asked Memory h = tt
  none_asked (Line text status) h = inr (made_with (Err (line text.items status)) (line text.items status) h refl)

  -- the runs were made
  pub all_made : (cs ds : List Condition) (made : Vec ℕ Global × Status) → ds ≡ cs → AreAsked seen words s.condition names (Ok cs) → IsSearch g.bundle (started_of g) s.runs ds (answer_in made) → IsMade seen words s code (Ok made)
  all_made cs ds made list h searched =
      let of_list : IsSearch g.bundle (started_of g) s.runs cs (answer_in made) = subst (λ (cs : List Condition). IsSearch g.bundle (started_of g) s.runs cs (answer_in made)) list searched in
      made_with (Ok cs) (answer_in made) h (subst (λ (c : List Item). IsSearch c (started_of g) s.runs cs (answer_in made)) same of_list)

-- what was seen before the conditions were fetched is what was seen of the other files
module _ (seen last : Seen) (words : List (List ℕ)) (r : RunJob) (code : List Item) (hail : SameSlot seen last Hail) (client : SameSlot seen last Client) (schedule : SameSlot seen last Schedule) where
  pub run_later : (p : Part Started) → OfRun seen words r code p → OfRun last words r code p
  run_later p h = record {
    outcomes = h.outcomes;
    hail = same_slot seen last words Hail r.hail (h.outcomes Hail) hail h.hail;
    client = same_slot seen last words Client r.client (h.outcomes Client) client h.client;
    schedule = same_slot seen last words Schedule r.schedule (h.outcomes Schedule) schedule h.schedule;
    comes = h.comes;
  }

-- and what was seen of their file is what was seen at last
pub conditions_later : (seen last : Seen) (words : List (List ℕ)) (n : Option ℕ) (names : Names ℕ) (p : Part (List Condition)) → seen.told ≡ last.told → seen.before condition_slot ≡ last.before condition_slot
    → seen.now condition_slot ≡ last.now condition_slot → OfConditions seen words n names p → OfConditions last words n names p
conditions_later seen last words n names p a b c h = record { outcome = h.outcome; allowed = same_condition seen last words n h.outcome a b c h.allowed; comes = h.comes }

pub asked_later : (seen last : Seen) (words : List (List ℕ)) (n : Option ℕ) (names : Names ℕ) (r : Result (List Condition) Stop) → seen.told ≡ last.told → seen.before condition_slot ≡ last.before condition_slot
    → seen.now condition_slot ≡ last.now condition_slot → AreAsked seen words n names r → AreAsked last words n names r
asked_later seen last words n names (Ok cs) a b c h = conditions_later seen last words n names (Ok cs) a b c h
asked_later seen last words n names (Err (Line text status)) a b c h = conditions_later seen last words n names (Err (line text.items status)) a b c h
asked_later seen last words n names (Err Memory) a b c h = tt

-- ---- the answer

-- the outcome of the bundle, and those of the other files
abbrev with_bundle : Outcome → Outcomes → Outcomes
with_bundle o more Bundle = o
with_bundle o more Hail = more Hail
with_bundle o more Client = more Client
with_bundle o more Schedule = more Schedule
with_bundle o more Log = got []
with_bundle o more (Joined k) = got []

run_allowed : (seen : Seen) (words : List (List ℕ)) (r : RunJob) (o : Outcome) (more : Outcomes) → AllowsFile seen words Bundle (Some r.file) o → AllowsFile seen words Hail r.hail (more Hail) → AllowsFile seen words Client r.client (more Client)
    → AllowsFile seen words Schedule r.schedule (more Schedule) → (what : What) → AllowsFile seen words what (file_of (Run r) what) (with_bundle o more what)
run_allowed seen words r o more a b c d Bundle = a
run_allowed seen words r o more a b c d Hail = b
run_allowed seen words r o more a b c d Client = c
run_allowed seen words r o more a b c d Schedule = d
run_allowed seen words r o more a b c d Log = refl
run_allowed seen words r o more a b c d (Joined k) = refl

-- an answer to allowed outcomes, by what is found with them
together : (seen : Seen) (words : List (List ℕ)) (s : Search) (o : Outcomes) (x : Outcome) (answer : Answer) (part : Part Ready) → search_of words ≡ Some s → AllowsJob seen words (Some (run_of s)) o → AllowsCondition seen words s.condition x
    → found words (run_of s) o ≡ part → IsSearched s x part answer → HasAnswer seen words answer
together seen words s o x answer part is allowed allowed_too e h = record {
  outcomes = o;
  allowed = subst (λ (a : Option Search). AllowsJob seen words (runs_of a) o) (sym is) allowed;
  condition = x;
  allowed_too = subst (λ (a : Option Search). AllowsCondition seen words (condition_of a) x) (sym is) allowed_too;
  is = subst (λ (a : Option Search). IsAnswer words a o x answer) (sym is) (subst (λ (p : Part Ready). IsSearched s x p answer) (sym e) h);
}

module _ (last : Seen) (words : List (List ℕ)) (s : Search) (is : search_of words ≡ Some s) (le : (n : ℕ) → last.before n ≤ last.now n) where
  -- the bundle is refused
  pub no_code : (stop : Stop) → IsJudged last words Bundle (Some s.run.file) accepted (Err stop) → IsFound last words (Err stop)
  no_code Memory h = tt
  no_code (Line text status) h =
      let a = some_named last words Hail s.run.hail (le 1) in
      let b = some_named last words Client s.run.client (le 2) in
      let c = some_named last words Schedule s.run.schedule (le 3) in
      let d = some_condition last words s.condition (le 4) in
      together last words s (with_bundle h.outcome (outcomes_with a.0 b.0 c.0)) d.0 (line text.items status) (Err (line text.items status)) is
      (run_allowed last words s.run h.outcome (outcomes_with a.0 b.0 c.0) h.allowed a.1 b.1 c.1) d.1 (rw h.comes refl) refl

  module _ (seen after : Seen) (code : List Item) (same : SameSlot seen last Bundle) (same_hail : SameSlot after last Hail) (same_client : SameSlot after last Client) (same_schedule : SameSlot after last Schedule)
      (told : after.told ≡ last.told) (before : after.before condition_slot ≡ last.before condition_slot) (now : after.now condition_slot ≡ last.now condition_slot)
      (bundle : OfFile seen words Bundle (Some s.run.file) accepted (Ok code)) where
    allowed_with : (r : Part Started) (h : OfRun after words s.run code r) → AllowsJob last words (Some (run_of s)) (with_bundle bundle.outcome h.outcomes)
    allowed_with r h =
        run_allowed last words s.run bundle.outcome h.outcomes (same_slot seen last words Bundle (Some s.run.file) bundle.outcome same bundle.allowed)
        (same_slot after last words Hail s.run.hail (h.outcomes Hail) same_hail h.hail) (same_slot after last words Client s.run.client (h.outcomes Client) same_client h.client)
        (same_slot after last words Schedule s.run.schedule (h.outcomes Schedule) same_schedule h.schedule)

    search_made : (answer : Answer) → HasMade after words s code answer → HasAnswer last words answer
    search_made answer h =
        together last words s (with_bundle bundle.outcome h.begins.outcomes) h.condition answer (Ok (Entered code h.start Lines)) is (allowed_with (Ok h.start) h.begins)
        (same_condition after last words s.condition h.condition told before now h.allowed) (rw (bundle.comes, h.begins.comes) refl) h.searched

    -- it is there, and comes to this
    pub search_found : (r : Result (Vec ℕ Global × Status) Stop) → IsMade after words s code r → IsFound last words r
    search_found (Err Memory) h = tt
    search_found (Err (Line text status)) (inl h) =
        let d = some_condition last words s.condition (le 4) in
        together last words s (with_bundle bundle.outcome h.outcomes) d.0 (line text.items status) (Err (line text.items status)) is (allowed_with (Err (line text.items status)) h) d.1 (rw (bundle.comes, h.comes) refl) refl
    search_found (Err (Line text status)) (inr h) = search_made (line text.items status) h
    search_found (Ok made) h = search_made (answer_in made) h

-- the words ask for nothing
pub no_search : (seen : Seen) (words : List (List ℕ)) (text : List ℕ) → text ≡ codes "usage" → search_of words ≡ None → HasAnswer seen words (line text Usage)
no_search seen words text e is = record {
  outcomes = λ what. got [];
  allowed = subst (λ (a : Option Search). AllowsJob seen words (runs_of a) (λ what. got [])) (sym is) tt;
  condition = got [];
  allowed_too = subst (λ (a : Option Search). AllowsCondition seen words (condition_of a) (got [])) (sym is) refl;
  is = subst (λ (a : Option Search). IsAnswer words a (λ what. got []) (got []) (line text Usage)) (sym is) (ap (λ (t : List ℕ). line t Usage) e);
}

pub ruleset finding = (no_search)
