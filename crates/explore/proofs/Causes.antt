-- Why a search ended as it did.
use Rattle.std.proofs.Common.{◌≡◌, ◌≢◌, ◌∙◌, ◌⊎◌, inl, inr, ℕ, List, refl, sym, ap, subst, arith, Option, Some, None}
use Rattle.std.specs.Prelude.{Ok, Err}
use Rattle.mu_base.specs.declared.status.Status.{Status}
use Rattle.mu_base.specs.declared.status.Status.TheVariants.{Done, Budget, Usage, Refused, ReadFault, TooLong, Memory, No}
use Rattle.mu_base.specs.Files.{Files}
use Rattle.mu_base.specs.Outcome.{Outcome, got, failed, too_long}
use Rattle.demands.specs.declared.fault.Fault.{Fault}
use Rattle.demands.specs.declared.fault.Fault.TheVariants as faults
use Rattle.demands.specs.Demands.{first_unmet}
use Rattle.name_scopes.specs.Names.{Names}
use Rattle.ir_tree.specs.declared.items.Item.{Item}
use Rattle.conditions.specs.declared.fault.ConditionKind.{ConditionKind}
use Rattle.conditions.specs.declared.tree.Condition.{Condition}
use Rattle.conditions.specs.Texts.{condition_demands, conditions_in}
use Rattle.mu_texts.specs.declared.what.What.{What}
use Rattle.mu_texts.specs.declared.what.What.TheVariants.{Bundle, Hail, Client, Schedule, Joined}
use Rattle.mu_texts.specs.declared.ready.Ready.{Ready}
use Rattle.mu_texts.specs.declared.ready.Ready.TheVariants as ready
use Rattle.mu_texts.specs.declared.ready.Ready.TheVariants.{Entered}
use Rattle.mu_texts.specs.declared.ready.Telling.{Telling}
use Rattle.mu_texts.specs.Start.{Started}
use Rattle.mu_texts.specs.What.{slot_of}
use Rattle.mu_texts.specs.Answer.{Answer, Part}
use Rattle.mu_texts.specs.Lemmas.Accepting.{StopsSo}
use Rattle.mu_command.specs.declared.job.RunJob.{RunJob}
use Rattle.mu_command.specs.declared.job.Job.TheVariants.{Run}
use Rattle.mu_command.specs.Job.{file_of}
use Rattle.mu_command.specs.Answer.{Outcomes, read_fault_line, too_long_line, found}
use Rattle.mu_command.specs.Allowed.{Seen, AllowsJob}
use Rattle.mu_command.specs.Written.{IsWhole, Writes}
use Rattle.mu_command.specs.Central.{MayFail, IsPast, IsUnfetched, OfJob, IsRefused, IsQuiet, outcome_named, outcomes_of}
use Rattle.mu_command.specs.Lemmas.Causes.{IsLine, IsCaused, caused_found, unfetched}
use Rattle.mu_command.specs.Lemmas.Completeness.{named_is_told}
use Rattle.explore.specs.declared.search.Search.{Search}
use Rattle.explore.specs.Asked.{search_of, run_of, runs_of, condition_of}
use Rattle.explore.specs.Conditions.{condition_slot, AllowsCondition, read_conditions, shown_globals, asked_conditions, MayBeUnread, IsTooLong, AnyCause}
use Rattle.explore.specs.Answers.{IsSearch, IsConditioned, conditions_of, IsSearchOf, IsSearched, IsAnswer}
use Rattle.explore.specs.Explored.{HasExplored, Explored, OfSearch, IsAccepted, IsUnconditioned, AnswersFiles}
use Rattle.explore.proofs.Answering.{kind_of, kind_is_whole, made_is, stop_is, search_kind, IsStop, conditions_stop, found_stops}

-- two statuses of different kinds are not the same
apart : (s t : Status) (m n : ℕ) → s ≡ t → kind_of s ≡ m → kind_of t ≡ n → m ≡ n
apart s t m n e k l = sym k ∙ ap kind_of e ∙ l

module _ (seen : Seen) (words : List (List ℕ)) (w0 w1 e0 e1 : Option (List ℕ)) (status : Status) where
  -- by what was found, and an answer to it that has this status and was written
  module _ (P : Type 0) (s : Search) (o : Outcomes) (x : Outcome) (answer : Answer) (same : answer.status ≡ status) where
    -- the bundle and the scripts are accepted
    by_conditions : (code : List Item) (start : Started) → ((cs : List Condition) → conditions_of code start s x ≡ Ok cs → IsSearch code start s.runs cs answer → P) → ((stop : Answer) → conditions_of code start s x ≡ Err stop → answer ≡ stop → P)
        → (p : Part (List Condition)) → conditions_of code start s x ≡ p → IsConditioned code start s.runs p answer → P
    by_conditions code start runs stops (Ok cs) e h = runs cs e h
    by_conditions code start runs stops (Err stop) e h = stops stop e h

    by_ready : ((code : List Item) (start : Started) (telling : Telling) → found words (run_of s) o ≡ Ok (Entered code start telling) → IsConditioned code start s.runs (conditions_of code start s x) answer → P) → (r : Ready) → found words (run_of s) o ≡ Ok r → IsSearchOf s x r answer → P
    by_ready more ready.Accepted e h = absurd h
    by_ready more (ready.Canonical bundle) e h = absurd h
    by_ready more (ready.Judged v) e h = absurd h
    by_ready more (Entered code start telling) e h = more code start telling e h

    -- what was found stops the search, or the conditions do
    by_stop : kind_of status ≡ 1 → ((stop : Answer) → found words (run_of s) o ≡ Err stop → answer ≡ stop → P)
        → ((code : List Item) (start : Started) (telling : Telling) (stop : Answer) → found words (run_of s) o ≡ Ok (Entered code start telling) → conditions_of code start s x ≡ Err stop → answer ≡ stop → P)
        → (p : Part Ready) → found words (run_of s) o ≡ p → IsSearched s x p answer → P
    by_stop k first later (Ok r) e h =
        by_ready (λ code start telling e h. by_conditions code start
        (λ cs f searched. let no : 0 ≡ 1 = apart answer.status status 0 1 same (search_kind code start s.runs cs answer searched) k in absurd (omega (arith, no)))
        (λ stop f a. later code start telling stop e f a) (conditions_of code start s x) refl h) r e h
    by_stop k first later (Err stop) e h = first stop e h

    by_runs : kind_of status ≡ 0 → ((code : List Item) (start : Started) (telling : Telling) (cs : List Condition) → found words (run_of s) o ≡ Ok (Entered code start telling) → conditions_of code start s x ≡ Ok cs → IsSearch code start s.runs cs answer → P)
        → (p : Part Ready) → found words (run_of s) o ≡ p → StopsSo IsStop p → IsSearched s x p answer → P
    by_runs k more (Ok r) e stops h =
        by_ready (λ code start telling e h. by_conditions code start (λ cs f searched. more code start telling cs e f searched)
        (λ stop f a. let no : 1 ≡ 0 = apart answer.status status 1 0 same (ap (λ (a : Answer). kind_of a.status) a ∙ stop_kind code start stop f) k in absurd (omega (arith, no))) (conditions_of code start s x) refl h) r e h
      where
        stop_kind : (code : List Item) (start : Started) (stop : Answer) → conditions_of code start s x ≡ Err stop → kind_of stop.status ≡ 1
        stop_kind code start stop f = subst (StopsSo IsStop) f (conditions_stop (shown_globals code start.setting.objects) s.condition x)
    by_runs k more (Err stop) e stops h = let no : 1 ≡ 0 = apart answer.status status 1 0 same (ap (λ (a : Answer). kind_of a.status) h ∙ stops) k in absurd (omega (arith, no))

  usage_kind : (o : Outcomes) (x : Outcome) (answer : Answer) → answer.status ≡ status → IsAnswer words None o x answer → kind_of status ≡ 2
  usage_kind o x answer same h = sym (ap kind_of same) ∙ ap (λ (a : Answer). kind_of a.status) h

  conditioned_no_usage : (code : List Item) (start : Started) (runs : ℕ) (answer : Answer) → answer.status ≡ Usage → (p : Part (List Condition)) → StopsSo IsStop p → IsConditioned code start runs p answer → ⊥
  conditioned_no_usage code start runs answer u (Ok cs) stops h = let no : 0 ≡ 2 = apart answer.status Usage 0 2 u (search_kind code start runs cs answer h) refl in absurd (omega (arith, no))
  conditioned_no_usage code start runs answer u (Err stop) stops h = let no : 1 ≡ 2 = apart answer.status Usage 1 2 u (ap (λ (a : Answer). kind_of a.status) h ∙ stops) refl in absurd (omega (arith, no))

  no_usage : (s : Search) (x : Outcome) (answer : Answer) → answer.status ≡ Usage → (p : Part Ready) → StopsSo IsStop p → IsSearched s x p answer → ⊥
  no_usage s x answer u (Ok ready.Accepted) stops h = h
  no_usage s x answer u (Ok (ready.Canonical bundle)) stops h = h
  no_usage s x answer u (Ok (ready.Judged v)) stops h = h
  no_usage s x answer u (Ok (Entered code start telling)) stops h =
      conditioned_no_usage code start s.runs answer u (conditions_of code start s x) (conditions_stop (shown_globals code start.setting.objects) s.condition x) h
  no_usage s x answer u (Err stop) stops h = let no : 1 ≡ 2 = apart answer.status Usage 1 2 u (ap (λ (a : Answer). kind_of a.status) h ∙ stops) refl in absurd (omega (arith, no))

  -- ---- the file of conditions gives none

  abbrev stopped : Answer → Part (List Condition)
  stopped a = Err a

  stop_status : (a stop : Answer) → stopped a ≡ stopped stop → a.status ≡ stop.status
  stop_status a stop e = let same : a ≡ stop = cc in ap (λ (a : Answer). a.status) same

  -- that which makes a fetch fail or come to too much, by the status
  caused_so : (names : Names ℕ) (n : ℕ) (x : Outcome) (stop : Answer) → AllowsCondition seen words (Some n) x → asked_conditions names (Some n) x ≡ Err stop → (stop.status ≡ ReadFault → MayBeUnread seen words n) × (stop.status ≡ TooLong → IsTooLong seen words n)
  caused_so names n (got bytes) stop allowed e = by (first_unmet (condition_demands names bytes)) e
    where
      by : (f : Option (Fault ConditionKind)) → read_conditions (conditions_in names bytes) f ≡ Err stop → (stop.status ≡ ReadFault → MayBeUnread seen words n) × (stop.status ≡ TooLong → IsTooLong seen words n)
      by None e = cc
      by (Some (faults.At kind place)) e = ((λ s. let t : Refused ≡ ReadFault = stop_status _ stop e ∙ s in cc), (λ s. let t : Refused ≡ TooLong = stop_status _ stop e ∙ s in cc))
      by (Some faults.Memory) e = ((λ s. let t : Memory ≡ ReadFault = stop_status _ stop e ∙ s in cc), (λ s. let t : Memory ≡ TooLong = stop_status _ stop e ∙ s in cc))
  caused_so names n failed stop allowed e = ((λ s. allowed), (λ s. let t : ReadFault ≡ TooLong = stop_status _ stop e ∙ s in cc))
  caused_so names n too_long stop allowed e = ((λ s. let t : TooLong ≡ ReadFault = stop_status _ stop e ∙ s in cc), (λ s. allowed))

  none_named : (names : Names ℕ) (x : Outcome) (stop : Answer) → asked_conditions names None x ≡ Err stop → ⊥
  none_named names x stop e = cc

  unconditioned : (Cause : Seen → List (List ℕ) → ℕ → Type 0) (s : Search) (o : Outcomes) (x : Outcome) (answer : Answer) → answer.status ≡ status → AllowsJob seen words (Some (run_of s)) o → AllowsCondition seen words s.condition x → Writes answer w0 w1 e0 e1 status
      → (code : List Item) (start : Started) (telling : Telling) (stop : Answer) → found words (run_of s) o ≡ Ok (Entered code start telling) → conditions_of code start s x ≡ Err stop → answer ≡ stop
      → ((n : ℕ) → AllowsCondition seen words (Some n) x → asked_conditions (shown_globals code start.setting.objects) (Some n) x ≡ Err stop → Cause seen words n) → IsUnconditioned Cause seen words w0 w1 e0 e1 status s
  unconditioned Cause s o x answer same allowed allowed_too w code start telling stop e f a cause = by s.condition refl
    where
      by : (n : Option ℕ) → s.condition ≡ n → IsUnconditioned Cause seen words w0 w1 e0 e1 status s
      by None none = absurd (none_named (shown_globals code start.setting.objects) x stop (ap (λ (n : Option ℕ). asked_conditions (shown_globals code start.setting.objects) n x) (sym none) ∙ f))
      by (Some n) names = record {
        there = record { outcomes = o; allowed = allowed; code = code; start = start; telling = telling; is = e; condition = x; allowed_too = allowed_too };
        number = n;
        names = names;
        cause = cause n (subst (λ (m : Option ℕ). AllowsCondition seen words m x) names allowed_too) (ap (λ (m : Option ℕ). asked_conditions (shown_globals code start.setting.objects) m x) (sym names) ∙ f);
        answer = stop;
        stops = f;
        ends = ap (λ (a : Answer). a.status) (sym a) ∙ same;
        writes = subst (λ (a : Answer). Writes a w0 w1 e0 e1 status) a w;
      }

  -- ---- refusals, and files that were not fetched

  refused_by : status ≡ Refused → (a : Option Search) (o : Outcomes) (x : Outcome) (answer : Answer) → AllowsJob seen words (runs_of a) o → AllowsCondition seen words (condition_of a) x → IsAnswer words a o x answer → answer.status ≡ status
      → Writes answer w0 w1 e0 e1 status → OfJob (IsRefused seen words w0 w1 e0 e1) (runs_of a) ⊎ OfSearch (IsUnconditioned AnyCause seen words w0 w1 e0 e1 status) a
  refused_by is None o x answer allowed allowed_too h same w = let no : 1 ≡ 2 = sym (ap kind_of is) ∙ usage_kind o x answer same h in absurd (omega (arith, no))
  refused_by is (Some s) o x answer allowed allowed_too h same w =
      by_stop (IsRefused seen words w0 w1 e0 e1 (run_of s) ⊎ IsUnconditioned AnyCause seen words w0 w1 e0 e1 status s) s o x answer same (ap kind_of is)
      (λ stop e a. inl (record {
        outcomes = o;
        allowed = allowed;
        refusal = stop;
        is = e;
        status = ap (λ (a : Answer). a.status) (sym a) ∙ same ∙ is;
        writes = subst (λ (t : Status). Writes stop w0 w1 e0 e1 t) is (subst (λ (a : Answer). Writes a w0 w1 e0 e1 status) a w);
      }))
      (λ code start telling stop e f a. inr (unconditioned AnyCause s o x answer same allowed allowed_too w code start telling stop e f a (λ n allowed f. tt))) (found words (run_of s) o) refl h

  line_by : (P : Seen → List (List ℕ) → What → ℕ → Type 0) (line_of : What → Answer) (s : Search) (o : Outcomes) (answer stop : Answer) → AllowsJob seen words (Some (run_of s)) o → found words (run_of s) o ≡ Err stop → answer ≡ stop
      → Writes answer w0 w1 e0 e1 status → IsLine (P seen words) line_of (run_of s) stop → IsUnfetched P line_of seen words w0 w1 e0 e1 status (run_of s)
  line_by P line_of s o answer stop allowed e a w l = unfetched seen words w0 w1 e0 e1 status P line_of (run_of s) o allowed stop e (subst (λ (a : Answer). Writes a w0 w1 e0 e1 status) a w) l

  caused : (s : Search) (o : Outcomes) (stop : Answer) → AllowsJob seen words (Some (run_of s)) o → found words (run_of s) o ≡ Err stop → IsCaused seen words (run_of s) stop
  caused s o stop allowed e = subst (StopsSo (IsCaused seen words (run_of s))) e (caused_found seen words (run_of s) o allowed)

  read_fault_by : status ≡ ReadFault → (a : Option Search) (o : Outcomes) (x : Outcome) (answer : Answer) → AllowsJob seen words (runs_of a) o → AllowsCondition seen words (condition_of a) x → IsAnswer words a o x answer → answer.status ≡ status
      → Writes answer w0 w1 e0 e1 status → OfJob (IsUnfetched MayFail read_fault_line seen words w0 w1 e0 e1 status) (runs_of a) ⊎ OfSearch (IsUnconditioned MayBeUnread seen words w0 w1 e0 e1 status) a
  read_fault_by is None o x answer allowed allowed_too h same w = let no : 1 ≡ 2 = sym (ap kind_of is) ∙ usage_kind o x answer same h in absurd (omega (arith, no))
  read_fault_by is (Some s) o x answer allowed allowed_too h same w =
      by_stop (IsUnfetched MayFail read_fault_line seen words w0 w1 e0 e1 status (run_of s) ⊎ IsUnconditioned MayBeUnread seen words w0 w1 e0 e1 status s) s o x answer same (ap kind_of is)
      (λ stop e a. inl (line_by MayFail read_fault_line s o answer stop allowed e a w ((caused s o stop allowed e).fails (ap (λ (a : Answer). a.status) (sym a) ∙ same ∙ is))))
      (λ code start telling stop e f a. inr (unconditioned MayBeUnread s o x answer same allowed allowed_too w code start telling stop e f a
      (λ n allowed f. (caused_so (shown_globals code start.setting.objects) n x stop allowed f).0 (ap (λ (a : Answer). a.status) (sym a) ∙ same ∙ is)))) (found words (run_of s) o) refl h

  too_long_by : status ≡ TooLong → (a : Option Search) (o : Outcomes) (x : Outcome) (answer : Answer) → AllowsJob seen words (runs_of a) o → AllowsCondition seen words (condition_of a) x → IsAnswer words a o x answer → answer.status ≡ status
      → Writes answer w0 w1 e0 e1 status → OfJob (IsUnfetched IsPast too_long_line seen words w0 w1 e0 e1 status) (runs_of a) ⊎ OfSearch (IsUnconditioned IsTooLong seen words w0 w1 e0 e1 status) a
  too_long_by is None o x answer allowed allowed_too h same w = let no : 1 ≡ 2 = sym (ap kind_of is) ∙ usage_kind o x answer same h in absurd (omega (arith, no))
  too_long_by is (Some s) o x answer allowed allowed_too h same w =
      by_stop (IsUnfetched IsPast too_long_line seen words w0 w1 e0 e1 status (run_of s) ⊎ IsUnconditioned IsTooLong seen words w0 w1 e0 e1 status s) s o x answer same (ap kind_of is)
      (λ stop e a. inl (line_by IsPast too_long_line s o answer stop allowed e a w ((caused s o stop allowed e).past (ap (λ (a : Answer). a.status) (sym a) ∙ same ∙ is))))
      (λ code start telling stop e f a. inr (unconditioned IsTooLong s o x answer same allowed allowed_too w code start telling stop e f a
      (λ n allowed f. (caused_so (shown_globals code start.setting.objects) n x stop allowed f).1 (ap (λ (a : Answer). a.status) (sym a) ∙ same ∙ is)))) (found words (run_of s) o) refl h

  -- ---- what was accepted

  accepted_by : kind_of status ≡ 0 → (a : Option Search) (o : Outcomes) (x : Outcome) (answer : Answer) → AllowsJob seen words (runs_of a) o → AllowsCondition seen words (condition_of a) x → IsAnswer words a o x answer → answer.status ≡ status
      → Writes answer w0 w1 e0 e1 status → OfSearch (IsAccepted seen words w0 w1 e0 e1 status) a
  accepted_by k None o x answer allowed allowed_too h same w = let no : 0 ≡ 2 = sym k ∙ usage_kind o x answer same h in absurd (omega (arith, no))
  accepted_by k (Some s) o x answer allowed allowed_too h same w =
      by_runs (IsAccepted seen words w0 w1 e0 e1 status s) s o x answer same k
      (λ code start telling cs e f searched. record {
        there = record { outcomes = o; allowed = allowed; code = code; start = start; telling = telling; is = e; condition = x; allowed_too = allowed_too };
        conditions = cs;
        read = f;
        answer = answer;
        searched = searched;
        ends = same;
        writes = w;
      })
      (found words (run_of s) o) refl (found_stops words s o) h

  -- ---- no other status

  conditioned_other : (code : List Item) (start : Started) (runs : ℕ) (answer : Answer) → answer.status ≡ status → (kind_of status ≡ 1 → ⊥) → (p : Part (List Condition)) → StopsSo IsStop p → IsConditioned code start runs p answer → kind_of status ≡ 0
  conditioned_other code start runs answer same stop (Ok cs) stops h = sym (ap kind_of same) ∙ search_kind code start runs cs answer h
  conditioned_other code start runs answer same stop (Err e) stops h = absurd (stop (sym (ap kind_of same) ∙ ap (λ (a : Answer). kind_of a.status) h ∙ stops))

  no_other_by : (a : Option Search) (o : Outcomes) (x : Outcome) (answer : Answer) → IsAnswer words a o x answer → answer.status ≡ status → (status ≢ Usage) → (kind_of status ≡ 1 → ⊥) → kind_of status ≡ 0
  no_other_by None o x answer h same used stop = absurd (used (sym same ∙ ap (λ (a : Answer). a.status) h))
  no_other_by (Some s) o x answer h same used stop = by (found words (run_of s) o) (found_stops words s o) h
    where
      by : (p : Part Ready) → StopsSo IsStop p → IsSearched s x p answer → kind_of status ≡ 0
      by (Ok ready.Accepted) stops h = absurd h
      by (Ok (ready.Canonical bundle)) stops h = absurd h
      by (Ok (ready.Judged v)) stops h = absurd h
      by (Ok (Entered code start telling)) stops h =
          conditioned_other code start s.runs answer same stop (conditions_of code start s x) (conditions_stop (shown_globals code start.setting.objects) s.condition x) h
      by (Err e) stops h = absurd (stop (sym (ap kind_of same) ∙ ap (λ (a : Answer). kind_of a.status) h ∙ stops))

  -- ---- words that ask for nothing

  usage_by : (a : Option Search) (o : Outcomes) (x : Outcome) (answer : Answer) → IsAnswer words a o x answer → answer.status ≡ Usage → a ≡ None
  usage_by None o x answer h u = refl
  usage_by (Some s) o x answer h u = absurd (no_usage s x answer u (found words (run_of s) o) (found_stops words s o) h)

-- ---- of the answer that was written

module _ (seen : Seen) (words : List (List ℕ)) (w0 w1 e0 e1 : Option (List ℕ)) (status : Status) where
  -- a whole text was written, so the call did not give up
  whole_text : (C : Type 0) → IsWhole status → (HasExplored seen words w0 w1 e0 e1 status → C) → Explored seen words w0 w1 e0 e1 status → C
  whole_text C whole more (inl x) = more x
  whole_text C whole more (inr g) = absurd (whole.1 g.memory)

  pub refused_cause : Explored seen words w0 w1 e0 e1 status → status ≡ Refused → OfJob (IsRefused seen words w0 w1 e0 e1) (runs_of (search_of words)) ⊎ OfSearch (IsUnconditioned AnyCause seen words w0 w1 e0 e1 status) (search_of words)
  refused_cause x is =
      let whole : IsWhole status = subst IsWhole (sym is) ((λ e. cc), (λ e. cc)) in
      whole_text _ whole (λ x. refused_by seen words w0 w1 e0 e1 status is (search_of words) x.outcomes x.condition x.answer x.allowed x.allowed_too x.is (sym (x.writes.status_of whole)) x.writes) x

  pub read_fault_cause : Explored seen words w0 w1 e0 e1 status → status ≡ ReadFault → OfJob (IsUnfetched MayFail read_fault_line seen words w0 w1 e0 e1 status) (runs_of (search_of words)) ⊎ OfSearch (IsUnconditioned MayBeUnread seen words w0 w1 e0 e1 status) (search_of words)
  read_fault_cause x is =
      let whole : IsWhole status = subst IsWhole (sym is) ((λ e. cc), (λ e. cc)) in
      whole_text _ whole (λ x. read_fault_by seen words w0 w1 e0 e1 status is (search_of words) x.outcomes x.condition x.answer x.allowed x.allowed_too x.is (sym (x.writes.status_of whole)) x.writes) x

  pub too_long_cause : Explored seen words w0 w1 e0 e1 status → status ≡ TooLong → OfJob (IsUnfetched IsPast too_long_line seen words w0 w1 e0 e1 status) (runs_of (search_of words)) ⊎ OfSearch (IsUnconditioned IsTooLong seen words w0 w1 e0 e1 status) (search_of words)
  too_long_cause x is =
      let whole : IsWhole status = subst IsWhole (sym is) ((λ e. cc), (λ e. cc)) in
      whole_text _ whole (λ x. too_long_by seen words w0 w1 e0 e1 status is (search_of words) x.outcomes x.condition x.answer x.allowed x.allowed_too x.is (sym (x.writes.status_of whole)) x.writes) x

  accepted_kind : (status ≡ Done) ⊎ (status ≡ Budget) ⊎ (status ≡ No) → kind_of status ≡ 0
  accepted_kind (inl e) = ap kind_of e
  accepted_kind (inr (inl e)) = ap kind_of e
  accepted_kind (inr (inr e)) = ap kind_of e

  pub accepted_cause : Explored seen words w0 w1 e0 e1 status → (status ≡ Done) ⊎ (status ≡ Budget) ⊎ (status ≡ No) → OfSearch (IsAccepted seen words w0 w1 e0 e1 status) (search_of words)
  accepted_cause x is =
      let k = accepted_kind is in
      let whole : IsWhole status = kind_is_whole status k in
      whole_text _ whole (λ x. accepted_by seen words w0 w1 e0 e1 status k (search_of words) x.outcomes x.condition x.answer x.allowed x.allowed_too x.is (sym (x.writes.status_of whole)) x.writes) x

  pub no_other : Explored seen words w0 w1 e0 e1 status → IsWhole status → status ≢ Usage → status ≢ ReadFault → status ≢ TooLong → status ≢ Refused → (status ≡ Done) ⊎ (status ≡ Budget) ⊎ (status ≡ No)
  no_other x whole used fault long refused =
      whole_text _ whole
      (λ x. made_is status (no_other_by seen words w0 w1 e0 e1 status (search_of words) x.outcomes x.condition x.answer x.is (sym (x.writes.status_of whole)) used (λ k. stop_is status k refused fault long whole.1))) x

  pub usage_only : Explored seen words w0 w1 e0 e1 status → status ≡ Usage → search_of words ≡ None
  usage_only x is =
      let whole : IsWhole status = subst IsWhole (sym is) ((λ e. cc), (λ e. cc)) in
      whole_text _ whole (λ x. usage_by seen words w0 w1 e0 e1 status (search_of words) x.outcomes x.condition x.answer x.is (sym (x.writes.status_of whole) ∙ is)) x

  pub usage_is : Explored seen words w0 w1 e0 e1 status → search_of words ≡ None → IsWhole status → status ≡ Usage
  usage_is x none whole =
      whole_text _ whole (λ x. x.writes.status_of whole ∙ ap (λ (a : Answer). a.status) (subst (λ (a : Option Search). IsAnswer words a x.outcomes x.condition x.answer) none x.is)) x

-- ---- where files are told and no count rises

same_found : (words : List (List ℕ)) (r : RunJob) (o p : Outcomes) → ((what : What) → o what ≡ p what) → found words (Run r) o ≡ found words (Run r) p
same_found words r o p same = rw (same Bundle, same Hail, same Client, same Schedule) refl

condition_is_told : (seen : Seen) (files : Files) (words : List (List ℕ)) (n : Option ℕ) (x : Outcome) → seen.told ≡ Some files → IsQuiet seen condition_slot → AllowsCondition seen words n x → x ≡ outcome_named files words n
condition_is_told seen files words None x told quiet h = h
condition_is_told seen files words (Some n) x told quiet h = named_is_told seen files words (Joined condition_slot) (Some n) x told quiet h

told_answer : (seen : Seen) (files : Files) (words : List (List ℕ)) (a : Option Search) (o : Outcomes) (x : Outcome) (answer : Answer) → seen.told ≡ Some files → ((s : ℕ) → IsQuiet seen s) → AllowsJob seen words (runs_of a) o
    → AllowsCondition seen words (condition_of a) x → IsAnswer words a o x answer → IsAnswer words a (outcomes_of files words (runs_of a)) (outcome_named files words (condition_of a)) answer
told_answer seen files words None o x answer told quiet allowed allowed_too h = h
told_answer seen files words (Some s) o x answer told quiet allowed allowed_too h =
    subst (λ (x : Outcome). IsSearched s x (found words (run_of s) (outcomes_of files words (Some (run_of s)))) answer) (condition_is_told seen files words s.condition x told (quiet condition_slot) allowed_too)
    (subst (λ (p : Part Ready). IsSearched s x p answer)
    (same_found words s.run o (outcomes_of files words (Some (run_of s))) (λ what. named_is_told seen files words what (file_of (run_of s) what) (o what) told (quiet (slot_of what)) (allowed what))) h)

pub complete : (seen : Seen) (files : Files) (words : List (List ℕ)) (w0 w1 e0 e1 : Option (List ℕ)) (status : Status) → Explored seen words w0 w1 e0 e1 status → seen.told ≡ Some files → ((s : ℕ) → IsQuiet seen s)
    → AnswersFiles files words w0 w1 e0 e1 status
complete seen files words w0 w1 e0 e1 status (inl x) told quiet = inl (record { answer = x.answer; is = told_answer seen files words (search_of words) x.outcomes x.condition x.answer told quiet x.allowed x.allowed_too x.is; writes = x.writes })
complete seen files words w0 w1 e0 e1 status (inr g) told quiet = inr g
