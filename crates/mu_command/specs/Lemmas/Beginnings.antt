-- How a run begins, file by file.
use Rattle.std.proofs.Common.{◌≡◌, ℕ, ◌≤◌, List, [], refl, sym, ◌∙◌, ap, subst, Option, Some, None}
use Rattle.std.specs.Prelude.{Result, Ok, Err}
use Rattle.ir_tree.specs.declared.items.Item.{Item}
use Rattle.typed_heap.specs.Objects.{HeapObject}
use Rattle.mu_base.specs.Files.{Files}
use Rattle.mu_base.specs.Outcome.{Outcome, got}
use Rattle.mu_base.specs.Lemmas.Outcomes.{some_outcome}
use Rattle.mu_model.specs.Clients as clients
use Rattle.mu_texts.specs.declared.what.What.{What}
use Rattle.mu_texts.specs.declared.what.What.TheVariants.{Bundle, Hail, Client, Schedule, Log, Joined}
use Rattle.mu_texts.specs.declared.stop.Stop.{Stop}
use Rattle.mu_texts.specs.declared.stop.Stop.TheVariants.{Line, Memory}
use Rattle.mu_texts.specs.What.{slot_of}
use Rattle.mu_texts.specs.Start.{Started}
use Rattle.mu_texts.specs.Answer.{Part, ◌>>=◌, line, entered, loaded, client_part, scheduled, started}
use Rattle.mu_texts.specs.Comes.{Comes}
use Rattle.mu_command.specs.declared.job.RunJob.{RunJob}
use Rattle.mu_command.specs.Job.{word}
use Rattle.mu_command.specs.Answer.{Outcomes, judged, begun}
use Rattle.mu_command.specs.Allowed.{Seen, AllowsFile}
use Rattle.mu_command.specs.Parts.{IsJudged, IsBegun, OfFile, OfRun, SameSlot}

-- what is allowed of a slot is what was seen of it
pub same_slot : (seen last : Seen) (words : List (List ℕ)) (what : What) (n : Option ℕ) (o : Outcome) → SameSlot seen last what → AllowsFile seen words what n o → AllowsFile last words what n o
same_slot seen last words what None o same h = h
same_slot seen last words what (Some n) o same h = rw (same.told, same.before, same.now) at h

-- fetches of other files leave what was seen of a slot as it is
module _ (told last : Option Files) (before middle now : ℕ → ℕ) (what : What) where
  pub later : told ≡ last → ((s : ℕ) → slot_of what ≡ s → middle s ≡ before s) → SameSlot (record { told = told; before = middle; now = now }) (record { told = last; before = before; now = now }) what
  later same other = record { told = same; before = other (slot_of what) refl; now = refl }

  pub earlier : told ≡ last → ((s : ℕ) → slot_of what ≡ s → now s ≡ middle s) → SameSlot (record { told = told; before = before; now = middle }) (record { told = last; before = before; now = now }) what
  earlier same other = record { told = same; before = refl; now = sym (other (slot_of what) refl) }

pub between : (told last : Option Files) (before first middle now : ℕ → ℕ) (what : What) → told ≡ last → ((s : ℕ) → slot_of what ≡ s → first s ≡ before s) → ((s : ℕ) → slot_of what ≡ s → now s ≡ middle s) →
    SameSlot (record { told = told; before = first; now = middle }) (record { told = last; before = before; now = now }) what
between told last before first middle now what same old new = record { told = same; before = old (slot_of what) refl; now = sym (new (slot_of what) refl) }

-- some outcome of a file that is named or not
pub some_named : (seen : Seen) (words : List (List ℕ)) (what : What) (n : Option ℕ) → seen.before (slot_of what) ≤ seen.now (slot_of what) → (o : Outcome) × AllowsFile seen words what n o
some_named seen words what None le = (got [], refl)
some_named seen words what (Some n) le = some_outcome _ _ _ _ _ le

-- the outcomes of the files beside a bundle
abbrev pub outcomes_with : Outcome → Outcome → Outcome → Outcomes
outcomes_with h k s Bundle = got []
outcomes_with h k s Hail = h
outcomes_with h k s Client = k
outcomes_with h k s Schedule = s
outcomes_with h k s Log = got []
outcomes_with h k s (Joined n) = got []

module _ (last : Seen) (words : List (List ℕ)) (r : RunJob) (code : List Item) (le : (s : ℕ) → last.before s ≤ last.now s) where
  -- no function is entered
  pub not_entered : (stop : Stop) → Comes {A = ℕ} (entered code (word words r.entry)) (Err stop) → IsBegun last words r code (Err stop)
  not_entered Memory h = tt
  not_entered (Line text status) h =
      let a = some_named last words Hail r.hail (le 1) in
      let b = some_named last words Client r.client (le 2) in
      let c = some_named last words Schedule r.schedule (le 3) in
      record { outcomes = outcomes_with a.0 b.0 c.0; hail = a.1; client = b.1; schedule = c.1; comes = rw h refl }

  module _ (n : ℕ) (is : entered code (word words r.entry) ≡ Ok n) where
    -- the heap is not filled
    pub not_filled : (seen : Seen) (stop : Stop) → SameSlot seen last Hail → IsJudged seen words Hail r.hail (loaded code r.cells) (Err stop) → IsBegun last words r code (Err stop)
    not_filled seen Memory same h = tt
    not_filled seen (Line text status) same h =
        let b = some_named last words Client r.client (le 2) in
        let c = some_named last words Schedule r.schedule (le 3) in
        record { outcomes = outcomes_with h.outcome b.0 c.0; hail = same_slot seen last words Hail r.hail h.outcome same h.allowed; client = b.1; schedule = c.1; comes = rw (is, h.comes) refl }

    module _ (seen_hail : Seen) (objects : List HeapObject) (same_hail : SameSlot seen_hail last Hail) (heap : OfFile seen_hail words Hail r.hail (loaded code r.cells) (Ok objects)) where
      -- the client is refused
      pub not_scripted : (seen : Seen) (stop : Stop) → SameSlot seen last Client → IsJudged seen words Client r.client (client_part code r.auto) (Err stop) → IsBegun last words r code (Err stop)
      not_scripted seen Memory same h = tt
      not_scripted seen (Line text status) same h =
          let c = some_named last words Schedule r.schedule (le 3) in
          record {
            outcomes = outcomes_with heap.outcome h.outcome c.0;
            hail = same_slot seen_hail last words Hail r.hail heap.outcome same_hail heap.allowed;
            client = same_slot seen last words Client r.client h.outcome same h.allowed;
            schedule = c.1;
            comes = rw (is, heap.comes, h.comes) refl;
          }

      module _ (seen_client seen : Seen) (client : clients.Client) (same_client : SameSlot seen_client last Client) (same : SameSlot seen last Schedule)
          (scripted : OfFile seen_client words Client r.client (client_part code r.auto) (Ok client)) where
        -- the schedule is refused
        pub not_scheduled : (stop : Stop) → IsJudged seen words Schedule r.schedule scheduled (Err stop) → IsBegun last words r code (Err stop)
        not_scheduled Memory h = tt
        not_scheduled (Line text status) h = record {
          outcomes = outcomes_with heap.outcome scripted.outcome h.outcome;
          hail = same_slot seen_hail last words Hail r.hail heap.outcome same_hail heap.allowed;
          client = same_slot seen_client last words Client r.client scripted.outcome same_client scripted.allowed;
          schedule = same_slot seen last words Schedule r.schedule h.outcome same h.allowed;
          comes = rw (is, heap.comes, scripted.comes, h.comes) refl;
        }

        -- the run begins
        pub all_begun : (picks : List ℕ) → OfFile seen words Schedule r.schedule scheduled (Ok picks) →
            OfRun last words r code (Ok (started code n (record { objects = objects; client = client; picks = picks; cells = r.cells; budget = r.budget; rule = r.rule })))
        all_begun picks h = record {
          outcomes = outcomes_with heap.outcome scripted.outcome h.outcome;
          hail = same_slot seen_hail last words Hail r.hail heap.outcome same_hail heap.allowed;
          client = same_slot seen_client last words Client r.client scripted.outcome same_client scripted.allowed;
          schedule = same_slot seen last words Schedule r.schedule h.outcome same h.allowed;
          comes = rw (is, heap.comes, scripted.comes, h.comes) refl;
        }

pub ruleset beginnings = (not_entered, not_filled, not_scripted, not_scheduled, all_begun)
