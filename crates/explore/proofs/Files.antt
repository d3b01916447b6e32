-- What the runs of a search are given, file by file.
use Rattle.std.proofs.Common.{◌≡◌, ◌∙◌, ℕ, ◌≤◌, List, [], refl, sym, ap, subst, Option, Some, None}
use Rattle.std.specs.Prelude.{Vec, Result, Ok, Err}
use Rattle.std.specs.declared.alloc.Global.{Global}
use Rattle.ir_tree.specs.declared.items.Item.{Item}
use Rattle.typed_heap.specs.Objects.{HeapObject}
use Rattle.typed_heap.specs.Heap.{HeapContents}
use Rattle.mu_base.specs.Outcome.{got}
use Rattle.name_scopes.specs.Names.{Names}
use Rattle.conditions.specs.declared.tree.Condition.{Condition}
use Rattle.mu_model.specs.Clients.{Client as Answerer}
use Rattle.seen_runs.specs.Seen.{global_names}
use Rattle.seen_runs.specs.Finals.{finals_in}
use Rattle.seen_runs.specs.declared.globals.Final.{Final}
use Rattle.mu_texts.specs.declared.what.What.{What}
use Rattle.mu_texts.specs.declared.what.What.TheVariants.{Hail, Client, Schedule}
use Rattle.mu_texts.specs.declared.stop.Stop.{Stop}
use Rattle.mu_texts.specs.declared.stop.Stop.TheVariants.{Line, Memory}
use Rattle.mu_texts.specs.Answer.{Part, entered, loaded, client_part, started}
use Rattle.mu_texts.specs.Comes.{Comes, Fills, CanBegin}
use Rattle.mu_command.specs.declared.job.RunJob.{RunJob}
use Rattle.mu_command.specs.Job.{word}
use Rattle.mu_command.specs.Allowed.{Seen, AllowsFile}
use Rattle.mu_command.specs.Parts.{IsLoaded, IsBegun, OfFile, OfRun, SameSlot}
use Rattle.mu_command.specs.Lemmas.Files.{was_judged, was_filled}
use Rattle.mu_command.specs.Lemmas.Beginnings.{not_entered, all_begun}
use Rattle.run_search.specs.Given.{Given, objects_of, client_of, IsReady}
use Rattle.explore.specs.declared.finding.Filled.{Filled}
use Rattle.explore.specs.Conditions.{condition_part}
use Rattle.explore.specs.Parts.{IsGiven, HasFilled, IsFilledBy, IsConditionLoaded, AreAsked, started_of, as_started}

-- a file was fetched, and its text, by these bytes, is refused or comes to something
module _ {A : Type 0} (seen : Seen) (words : List (List ℕ)) (what : What) (n : Option ℕ) (part : List ℕ → Part A) (text : Vec ℕ Global) (bytes : List ℕ) (h : IsLoaded seen words what n (Ok text)) (same : bytes ≡ text.items) where
  pub given_no_more : (stop : Stop) → Comes {A = A} (part bytes) (Err stop) → IsGiven seen words what n part (Err stop)
  given_no_more stop e = was_judged seen words what n part text (Err stop) h (subst (λ (b : List ℕ). Comes {A = A} (part b) (Err stop)) same e)

  pub was_given : (x : A) → Comes {A = A} (part bytes) (Ok x) → IsGiven seen words what n part (Ok text)
  was_given x e = let f : part bytes ≡ Ok x = e in record { allowed = h; value = x; comes = ap part (sym same) ∙ f }

-- the same of the script for the heap
module _ (seen : Seen) (words : List (List ℕ)) (r : RunJob) (code : List Item) (hail : Vec ℕ Global) (bytes : List ℕ) (h : IsLoaded seen words Hail r.hail (Ok hail)) (same : bytes ≡ hail.items) where
  pub filled_no_more : (stop : Stop) → Fills (loaded code r.cells bytes) (Err stop) → IsFilledBy seen words r code (Err stop)
  filled_no_more stop e = was_filled seen words Hail r.hail (loaded code r.cells) hail (Err stop) h (subst (λ (b : List ℕ). Fills (loaded code r.cells b) (Err stop)) same e)

  pub was_filled_by : (heap : HeapContents) (finals : Vec Final Global) → Fills (loaded code r.cells bytes) (Ok heap) → finals.items ≡ finals_in 0 (global_names code) heap.objects
      → HasFilled seen words r code (record { hail = hail; finals = finals })
  was_filled_by heap finals e f =
      let is : loaded code r.cells bytes ≡ Ok heap.objects = e in
      record { allowed = h; objects = heap.objects; loads = ap (loaded code r.cells) (sym same) ∙ is; finals = f }

-- no function is entered
pub entry_stops : (last : Seen) (words : List (List ℕ)) (r : RunJob) (code : List Item) → ((s : ℕ) → last.before s ≤ last.now s) → (name : List ℕ) → name ≡ word words r.entry → (stop : Stop) → Comes {A = ℕ} (entered code name) (Err stop)
    → IsBegun last words r code (as_started (Err stop))
entry_stops last words r code le name same stop h = not_entered last words r code le stop (subst (λ (name : List ℕ). Comes {A = ℕ} (entered code name) (Err stop)) same h)

pub hail_of : (seen : Seen) (words : List (List ℕ)) (r : RunJob) (code : List Item) (filled : Filled) (h : HasFilled seen words r code filled) → OfFile seen words Hail r.hail (loaded code r.cells) (Ok h.objects)
hail_of seen words r code filled h = record { outcome = got filled.hail.items; allowed = h.allowed; comes = h.loads }

module _ (r : RunJob) (code : List Item) (n : ℕ) (filled : Filled) (client : Vec ℕ Global) where
  -- what a player is given
  abbrev pub given : Given
  given =
      record {
        bundle = code;
        entry = n;
        hail = filled.hail.items;
        client = client.items;
        auto = r.auto;
        rule = r.rule;
        cells = r.cells;
        budget = r.budget;
        finals = filled.finals.items;
      }

  -- the runs can begin
  pub is_ready : (seen after : Seen) (words : List (List ℕ)) (g : Given) → g ≡ given → HasFilled seen words r code filled → IsGiven after words Client r.client (client_part code r.auto) (Ok client) → CanBegin code n → r.budget ≤ 1000000 → IsReady g
  is_ready seen after words g is h client_there begins short = subst IsReady (sym is) (record {
    objects = h.loads ∙ ap Ok (sym (ap objects_of h.loads));
    client = client_there.comes ∙ ap Ok (sym (ap client_of client_there.comes));
    begins = begins;
    short = short;
    finals = h.finals ∙ ap (finals_in 0 (global_names code)) (sym (ap objects_of h.loads));
  })

  -- they begin so
  module _ (last : Seen) (words : List (List ℕ)) (le : (s : ℕ) → last.before s ≤ last.now s) (is : entered code (word words r.entry) ≡ Ok n) (none : r.schedule ≡ None) where
    abbrev Begins : List HeapObject → Answerer → Type 0
    Begins os k = OfRun last words r code (Ok (started code n (record { objects = os; client = k; picks = []; cells = r.cells; budget = r.budget; rule = r.rule })))

    begins_so : (seen after : Seen) → SameSlot seen last Hail → SameSlot after last Client → (h : HasFilled seen words r code filled) → (k : Answerer) → AllowsFile after words Client r.client (got client.items) → client_part code r.auto client.items ≡ Ok k
        → Begins h.objects k
    begins_so seen after same_hail same_client h k allowed e =
        all_begun last words r code le n is seen h.objects same_hail (hail_of seen words r code filled h) after last k same_client (record { told = refl; before = refl; now = refl })
        (record { outcome = got client.items; allowed = allowed; comes = e }) []
        (record { outcome = got []; allowed = subst (λ (o : Option ℕ). AllowsFile last words Schedule o (got [])) (sym none) refl; comes = refl })

    pub player_begins : (seen after : Seen) (g : Given) → g ≡ given → SameSlot seen last Hail → SameSlot after last Client → HasFilled seen words r code filled → IsGiven after words Client r.client (client_part code r.auto) (Ok client)
        → OfRun last words r code (Ok (started_of g))
    player_begins seen after g same same_hail same_client h client_there =
        let k = client_there.value in
        let e = client_there.comes in
        let base : Begins h.objects k = begins_so seen after same_hail same_client h k client_there.allowed e in
        let by_objects : Begins (objects_of (loaded code r.cells filled.hail.items)) k = subst (λ os. Begins os k) (sym (ap objects_of h.loads)) base in
        let by_both : Begins (objects_of (loaded code r.cells filled.hail.items)) (client_of (client_part code r.auto client.items)) = subst (λ k. Begins (objects_of (loaded code r.cells filled.hail.items)) k) (sym (ap client_of e)) by_objects in
        subst (λ (g : Given). OfRun last words r code (Ok (started_of g))) (sym same) by_both

-- the file of conditions is not named; it was not fetched; it was, and its text was judged
module _ (seen : Seen) (words : List (List ℕ)) (names : Names ℕ) where
  pub not_named : (cs : List Condition) → cs ≡ [] → AreAsked seen words None names (Ok cs)
  not_named cs e = record { outcome = got []; allowed = refl; comes = ap Ok (sym e) }

  pub not_fetched : (n : ℕ) (stop : Stop) → IsConditionLoaded seen words n (Err stop) → AreAsked seen words (Some n) names (Err stop)
  not_fetched n Memory h = tt
  not_fetched n (Line text status) h = record { outcome = h.0; allowed = h.1; comes = rw h.2 refl }

  pub was_asked : (n : ℕ) (bytes : Vec ℕ Global) (r : Result (List Condition) Stop) → IsConditionLoaded seen words n (Ok bytes) → Comes (condition_part names bytes.items) r → AreAsked seen words (Some n) names r
  was_asked n bytes (Ok cs) h c = record { outcome = got bytes.items; allowed = h; comes = c }
  was_asked n bytes (Err (Line text status)) h c = record { outcome = got bytes.items; allowed = h; comes = c }
  was_asked n bytes (Err Memory) h c = tt

pub ruleset conditions_file = (not_named, not_fetched, was_asked)
