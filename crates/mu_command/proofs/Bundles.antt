-- The files that are joined: their bundles, read one after the other.
use Rattle.std.proofs.Common.{◌≡◌, ◌≢◌, ℕ, zero, suc, ◌+◌, ◌-◌, ◌<◌, ◌≤◌, Bool, true, false, nat_eq, List, [], ◌∷◌, ◌++◌, refl, sym, ◌∙◌, ap, subst, add-one, arith, Option, Some, None, if◌then◌else◌}
use Rattle.std.specs.Prelude.{nat_lt, Result, Ok, Err}
use Rattle.std.proofs.lemmas.Bool.Decides.{nat_tests}
use Rattle.mu_base.specs.Files.{Files}
use Rattle.mu_base.specs.Outcome.{Outcome, got}
use Rattle.ir_tree.specs.declared.items.Item.{Item}
use Rattle.mu_texts.specs.declared.what.What.{What}
use Rattle.mu_texts.specs.declared.what.What.TheVariants.{Bundle, Hail, Client, Schedule, Log, Joined}
use Rattle.mu_texts.specs.declared.stop.Stop.{Stop}
use Rattle.mu_texts.specs.declared.stop.Stop.TheVariants.{Line, Memory}
use Rattle.mu_texts.specs.declared.ready.Ready.{Ready}
use Rattle.mu_texts.specs.Answer.{Answer, Part, ◌>>=◌, line, written_in, for_join}
use Rattle.mu_texts.specs.Comes.{Comes}
use Rattle.mu_command.specs.declared.job.Job.TheVariants.{Join}
use Rattle.mu_command.specs.Job.{job_of, file_of}
use Rattle.mu_command.specs.Answer.{Outcomes, first_bundles, judged}
use Rattle.mu_command.specs.Allowed.{Seen, AllowsFile}
use Rattle.mu_command.specs.Parts.{IsJudged, OfFile, OfBundles, AreRead, IsFound, SameSlot}
use Rattle.mu_command.specs.Lemmas.Beginnings.{same_slot, some_named}
use Rattle.mu_command.proofs.Together.{together}

-- ---- the first bundles rest on the outcomes of their files

same_before : (o p : Outcomes) (n : ℕ) → ((k : ℕ) → k < n → o (Joined k) ≡ p (Joined k)) → first_bundles o n ≡ first_bundles p n
same_before o p zero same = refl
same_before o p (suc k) same =
    let before : first_bundles o k ≡ first_bundles p k = same_before o p k (λ j l. same j (omega arith)) in
    let here : o (Joined k) ≡ p (Joined k) = same k (omega arith) in
    rw (before, here) refl

-- an early end stays
stays : (o : Outcomes) (n : ℕ) (answer : Answer) → first_bundles o n ≡ Err answer → (m : ℕ) → n ≤ m → first_bundles o m ≡ Err answer
stays o n answer h zero l = let none : n ≡ zero = omega arith in subst (λ (k : ℕ). first_bundles o k ≡ Err answer) none h
stays o n answer h (suc m) l = by (nat_eq n (suc m)) refl (λ k. stays o n answer h m k)
  where
    by : (t : Bool) → nat_eq n (suc m) ≡ t → (n ≤ m → first_bundles o m ≡ Err answer) → first_bundles o (suc m) ≡ Err answer
    by true e rest = let it : n ≡ suc m = grind (arith, nat_tests) in subst (λ (k : ℕ). first_bundles o k ≡ Err answer) it h
    by false e rest = let low : n ≤ m = grind (arith, nat_tests) in let before : first_bundles o m ≡ Err answer = rest low in rw before refl

-- ---- outcomes before the file with number k, that of this file, and those after it

abbrev parted : Outcomes → ℕ → Outcome → Outcomes → Outcomes
parted o k x more (Joined j) = if nat_lt j k then o (Joined j) else (if nat_eq j k then x else more (Joined j))
parted o k x more _ = got []

below : (j k : ℕ) → j < k → nat_lt j k ≡ true
below j k l = grind (arith, nat_tests)

not_below : (j k : ℕ) → k ≤ j → nat_lt j k ≡ false
not_below j k l = grind (arith, nat_tests)

itself : (k : ℕ) → nat_eq k k ≡ true
itself k = grind (arith, nat_tests)

parted_before : (o : Outcomes) (k : ℕ) (x : Outcome) (more : Outcomes) (j : ℕ) → j < k → o (Joined j) ≡ parted o k x more (Joined j)
parted_before o k x more j l = let e : nat_lt j k ≡ true = below j k l in rw e refl

parted_here : (o : Outcomes) (k : ℕ) (x : Outcome) (more : Outcomes) → parted o k x more (Joined k) ≡ x
parted_here o k x more = let e : nat_lt k k ≡ false = not_below k k (omega arith) in let f : nat_eq k k ≡ true = itself k in rw (e, f) refl

module _ (told last : Option Files) (before middle now : ℕ → ℕ) (words : List (List ℕ)) (first k : ℕ) (bundles : List (List Item))
    (same : told ≡ last) (untouched : (s : ℕ) → k ≤ s → middle s ≡ before s) (others : (s : ℕ) → (s ≡ k → ⊥) → now s ≡ middle s)
    (so_far : OfBundles (record { told = last; before = before; now = middle }) words first k (Ok bundles)) where
  abbrev at_last : Seen
  at_last = record { told = last; before = before; now = now }

  abbrev of_this : Seen
  of_this = record { told = told; before = middle; now = now }

  -- all outcomes up to number n are allowed, where those after number k are
  parted_allowed : (x : Outcome) (more : Outcomes) (n : ℕ) → AllowsFile of_this words (Joined k) (Some (first + k)) x →
      ((j : ℕ) → k < j → j < n → AllowsFile at_last words (Joined j) (Some (first + j)) (more (Joined j))) →
      (j : ℕ) → j < n → AllowsFile at_last words (Joined j) (Some (first + j)) (parted so_far.outcomes k x more (Joined j))
  parted_allowed x more n h after j l = by (nat_lt j k) (nat_eq j k) refl refl
    where
      earlier : j < k → AllowsFile at_last words (Joined j) (Some (first + j)) (so_far.outcomes (Joined j))
      earlier lt =
          same_slot (record { told = last; before = before; now = middle }) at_last words (Joined j) (Some (first + j)) (so_far.outcomes (Joined j))
          (record { told = refl; before = refl; now = sym (others j (λ e. absurd (omega arith))) }) (so_far.allowed j lt)

      this : AllowsFile at_last words (Joined k) (Some (first + k)) x
      this = same_slot of_this at_last words (Joined k) (Some (first + k)) x (record { told = same; before = untouched k (omega arith); now = refl }) h

      by : (a b : Bool) → nat_lt j k ≡ a → nat_eq j k ≡ b → AllowsFile at_last words (Joined j) (Some (first + j)) (if a then so_far.outcomes (Joined j) else (if b then x else more (Joined j)))
      by true b e f = earlier (grind (arith, nat_tests))
      by false true e f = let it : k ≡ j = grind (arith, nat_tests) in subst (λ (i : ℕ). AllowsFile at_last words (Joined i) (Some (first + i)) x) it this
      by false false e f = let past : k < j = grind (arith, nat_tests) in after j past l

  -- what comes of the bundles up to this one
  parted_comes : (x : Outcome) (more : Outcomes) (is : Part (List Item)) → judged (Joined k) (written_in (Joined k)) x ≡ is →
      first_bundles (parted so_far.outcomes k x more) (suc k) ≡ (is >>= λ bundle. Ok (bundles ++ bundle ∷ []))
  parted_comes x more is e =
      let up_to : first_bundles (parted so_far.outcomes k x more) k ≡ Ok bundles =
      sym (same_before so_far.outcomes (parted so_far.outcomes k x more) k (parted_before so_far.outcomes k x more)) ∙ so_far.comes in
      let here : parted so_far.outcomes k x more (Joined k) ≡ x = parted_here so_far.outcomes k x more in
      rw (up_to, here, e) refl

  -- one more bundle is read
  pub one_more : (bundle : List Item) → OfFile of_this words (Joined k) (Some (first + k)) (written_in (Joined k)) (Ok bundle) → OfBundles at_last words first (k + 1) (Ok (bundles ++ bundle ∷ []))
  one_more bundle h =
      subst (λ (n : ℕ). OfBundles at_last words first n (Ok (bundles ++ bundle ∷ []))) (sym (add-one k)) (record {
        outcomes = parted so_far.outcomes k h.outcome so_far.outcomes;
        allowed = parted_allowed h.outcome so_far.outcomes (suc k) h.allowed (λ j a b. absurd (omega arith));
        comes = parted_comes h.outcome so_far.outcomes (Ok bundle) h.comes;
      })

  -- a file is refused, or not fetched
  pub one_refused : (files : ℕ) (stop : Stop) → k < files → ((s : ℕ) → before s ≤ now s) → IsJudged of_this words (Joined k) (Some (first + k)) (written_in (Joined k)) (Err stop) →
      AreRead at_last words first files (Err stop)
  one_refused files Memory l le h = tt
  one_refused files (Line text status) l le h =
      let some : (j : ℕ) → (o : Outcome) × AllowsFile at_last words (Joined j) (Some (first + j)) o = λ j. some_named at_last words (Joined j) (Some (first + j)) (le j) in
      let more : Outcomes = others_of some in
      record {
        outcomes = parted so_far.outcomes k h.outcome more;
        allowed = parted_allowed h.outcome more files h.allowed (λ j a b. (some j).1);
        comes = stays (parted so_far.outcomes k h.outcome more) (suc k) (line text.items status) (parted_comes h.outcome more (Err (line text.items status)) h.comes) files (omega arith);
      }
    where
      others_of : ((j : ℕ) → (o : Outcome) × AllowsFile at_last words (Joined j) (Some (first + j)) o) → Outcomes
      others_of some (Joined j) = (some j).0
      others_of some _ = got []

-- no bundle is read before the first
pub none_read : (seen : Seen) (words : List (List ℕ)) (first : ℕ) → OfBundles seen words first 0 (Ok [])
none_read seen words first = record { outcomes = λ what. got []; allowed = λ k l. absurd (omega arith); comes = refl }

-- ---- the job

-- no file past the last is asked
abbrev up_to : ℕ → Outcomes → Outcomes
up_to files o (Joined j) = if nat_lt j files then o (Joined j) else got []
up_to files o _ = got []

module _ (seen : Seen) (words : List (List ℕ)) (first files : ℕ) where
  all_allowed : (o : Outcomes) → ((j : ℕ) → j < files → AllowsFile seen words (Joined j) (Some (first + j)) (o (Joined j))) → (what : What) →
      AllowsFile seen words what (file_of (Join first files) what) (up_to files o what)
  all_allowed o h Bundle = refl
  all_allowed o h Hail = refl
  all_allowed o h Client = refl
  all_allowed o h Schedule = refl
  all_allowed o h Log = refl
  all_allowed o h (Joined j) = by (nat_lt j files) refl
    where
      by : (t : Bool) → nat_lt j files ≡ t → AllowsFile seen words (Joined j) (if t then Some (first + j) else None) (if t then o (Joined j) else got [])
      by true e = h j (grind (arith, nat_tests))
      by false e = refl

  as_before : (o : Outcomes) → first_bundles (up_to files o) files ≡ first_bundles o files
  as_before o = same_before (up_to files o) o files (λ j l. let e : nat_lt j files ≡ true = below j files l in rw e refl)

  -- all bundles are read, and then joined or not
  pub joined_found : (bundles : List (List Item)) (r : Result Ready Stop) → job_of words ≡ Some (Join first files) → OfBundles seen words first files (Ok bundles) → Comes (for_join bundles) r → IsFound seen words r
  joined_found bundles (Ok ready) is h c = together seen words (Join first files) (up_to files h.outcomes) _ is (all_allowed h.outcomes h.allowed) (rw (as_before h.outcomes, h.comes, c) refl)
  joined_found bundles (Err (Line text status)) is h c = together seen words (Join first files) (up_to files h.outcomes) _ is (all_allowed h.outcomes h.allowed) (rw (as_before h.outcomes, h.comes, c) refl)
  joined_found bundles (Err Memory) is h c = tt

  -- one of them is not read
  pub not_gathered : (stop : Stop) → job_of words ≡ Some (Join first files) → AreRead seen words first files (Err stop) → IsFound seen words (Err stop)
  not_gathered Memory is h = tt
  not_gathered (Line text status) is h = together seen words (Join first files) (up_to files h.outcomes) _ is (all_allowed h.outcomes h.allowed) (rw (as_before h.outcomes, h.comes) refl)

pub ruleset joining = (joined_found, not_gathered)
