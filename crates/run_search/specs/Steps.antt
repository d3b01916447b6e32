-- Nothing that a reader believes of a search rests on this. It is what each step of a run adds, where local steps come first.
use Rattle.std.specs.Prelude.{◌≡◌, ◌≢◌, ℕ, zero, suc, ◌+◌, ◌<◌, ◌≤◌, ◌==◌, Bool, true, false, List, [], ◌∷◌, ◌++◌, Option, Some, None, IfNone, IfSome, IsSomeAnd, Result, Ok, Err, IfOk, OnOk, drop, find, length, reverse, slice_get, if◌then◌else◌, refl}
use Rattle.std.proofs.Common.{sym, ◌∙◌, ap, subst, append_assoc, arith, inl, inr}
use Rattle.std.proofs.lemmas.Bool.Decides.{leb_tells}
use Rattle.std.proofs.Math.Nat.{mod-eq_of_lt}
use Rattle.std.proofs.lemmas.List.{append-nil, length-append}
use Rattle.std.proofs.Math.Seq.{drop-append_seam}
use Rattle.futex.specs.declared.waiters.Waiter.{Waiter}
use Rattle.futex.specs.Waiting.{is_of}
use Rattle.mu_model.specs.declared.lines.Line.{Line}
use Rattle.mu_model.specs.declared.endings.Ending.{Ending}
use Rattle.mu_model.specs.Acts as acts
use Rattle.mu_model.specs.Acts.{Act, Program}
use Rattle.mu_model.specs.Configuration.{Configuration}
use Rattle.mu_model.specs.Outcomes.{Outcome, Next, Stuck}
use Rattle.mu_model.specs.Turns.{Turn, turn_of}
use Rattle.mu_model.specs.Step.{threads_from, runnable, step}
use Rattle.mu_model.specs.Run.{Run, Ends, behind, client_answers, run}
use Rattle.model_laws.specs.Bounds.{HasEnding}
use Rattle.mu_threads.specs.Picks.{pick, picked_from}
use Rattle.odometer.specs.Trees.{Tree, leaf, rest, grown}
use Rattle.odometer.specs.Odometer.{path, digits}
use Rattle.odometer.specs.GrownLaws.{picks_one}
use Rattle.odometer.specs.declared.picks.Pick.{Pick}
use Rattle.search_laws.specs.Moved.{with_picks, ends_or_branches, step_tree, goes_on_tree}
use Rattle.local_steps.specs.IsLocal.{does_local_act, is_local_turn, is_local, least_local}
use Rattle.local_laws.specs.LocalSteps.{first_tree, local_tree}
use Rattle.local_laws.specs.LocalLoop.{FirstStepsGoOn, FirstStepsDoNotEnd, AnyStepsGoOn, AnyStepsEnd, SchedulesGoOn, SchedulesEnd}
use Rattle.run_state.specs.Options.{access_in, access_options, turn_options, thread_options, step_options}
use Rattle.run_state.specs.StepLaws.{get_below}
use Rattle.mu_step.specs.LeastLocal.{IsLeastAt}
use Rattle.mu_step.specs.Running.{Running}
use Rattle.run_search.specs.StepPaths.{step_threads, step_path}
use Rattle.run_search.specs.Playing.{answered_step, own_answer, WentOn, CameToEnd, IsRun, run_behind, behind_ends, not_stuck}

-- the step has a rule, whichever numbers are left
abbrev pub AllHaveRules : Program → Configuration → Type 0
AllHaveRules p c = (picks : List ℕ) → answered_step p (with_picks picks c) ≢ Stuck

-- What is said of a run of so many steps at most stands in records, so that no check computes the run.

-- the run of each schedule comes to an ending
pub record AllEnd (p : Program) (n : ℕ) (c : Configuration) : Type 0 where
  pub each : (picks : List ℕ) → HasEnding (run p n (with_picks picks c))

-- the run in which local steps come first makes these picks of the search by these numbers, and has these lines and this ending
pub record MakesPicks (p : Program) (n : ℕ) (c : Configuration) (numbers : List ℕ) (made : List Pick) : Type 0 where
  pub is : made ≡ path (local_tree p n c) numbers

pub record LeadsTo (p : Program) (n : ℕ) (c : Configuration) (numbers : List ℕ) (lines : List Line) (ending : Ending) : Type 0 where
  pub is : IsRun (leaf (local_tree p n c) numbers) lines ending

-- and so has the run of this schedule
pub record RunsTo (p : Program) (n : ℕ) (c : Configuration) (schedule : List ℕ) (lines : List Line) (ending : Ending) : Type 0 where
  pub is : IsRun (run p n (with_picks schedule c)) lines ending

-- The step by these numbers went on from c to d, where the numbers that were left before are left again; its lines came after those that
-- were kept.
pub record WentAt (p : Program) (c d : Configuration) (picks : List ℕ) (kept after : List Line) : Type 0 where
  pub lines : List Line
  pub left : List ℕ
  pub is : Next (record d { picks = left; lines = reverse lines }) ≡ client_answers p c.client (step p (with_picks picks c))
  pub same : d.picks ≡ c.picks
  pub more : after ≡ kept ++ lines

-- A step came from c to d. It made these picks of the search; its lines came after those that were kept, and its numbers behind the schedule.
pub record StepsOn (p : Program) (c d : Configuration) (picks : List Pick) (kept after : List Line) (before schedule : List ℕ) : Type 0 where
  pub lines : List Line
  pub numbers : List ℕ
  pub kept_lines : after ≡ kept ++ lines
  pub kept_numbers : schedule ≡ before ++ numbers
  pub path : (n : ℕ) → path (local_tree p (suc n) c) c.picks ≡ picks ++ path (local_tree p n d) d.picks
  pub leaf : (n : ℕ) → leaf (local_tree p (suc n) c) c.picks ≡ behind lines (leaf (local_tree p n d) d.picks)
  pub run : (n : ℕ) (more : List ℕ) → run p (suc n) (with_picks (numbers ++ more) c) ≡ behind lines (run p n (with_picks more d))

-- a step gave the ending
pub record StepEnds (p : Program) (c : Configuration) (picks : List Pick) (kept after : List Line) (before schedule : List ℕ) (ending : Ending) : Type 0 where
  pub lines : List Line
  pub numbers : List ℕ
  pub kept_lines : after ≡ kept ++ lines
  pub kept_numbers : schedule ≡ before ++ numbers
  pub path : (n : ℕ) → path (local_tree p (suc n) c) c.picks ≡ picks
  pub leaf : (n : ℕ) → leaf (local_tree p (suc n) c) c.picks ≡ Ends [] lines ending
  pub run : (n : ℕ) (more : List ℕ) → run p (suc n) (with_picks (numbers ++ more) c) ≡ Ends [] lines ending

-- a step with the picks that it adds
pub record GoesFurther (p : Program) (c d : Configuration) (made more : List Pick) (kept after : List Line) (before schedule : List ℕ) : Type 0 where
  pub picks : List Pick
  pub noted : more ≡ made ++ picks
  pub on : StepsOn p c d picks kept after before schedule

pub record GoesToEnd (p : Program) (c : Configuration) (made more : List Pick) (kept after : List Line) (before schedule : List ℕ) (ending : Ending) : Type 0 where
  pub picks : List Pick
  pub noted : more ≡ made ++ picks
  pub ends : StepEnds p c picks kept after before schedule ending

-- What was made of a run, and what is left of it, make the whole.
pub record SoFar (p : Program) (most : ℕ) (first : Configuration) (numbers : List ℕ) (n : ℕ) (c : Configuration) (made : List Pick) (kept : List Line) (schedule : List ℕ) : Type 0 where
  pub ends : AllEnd p n c
  pub left : drop (length made) numbers ≡ c.picks
  pub path : path (local_tree p most first) numbers ≡ made ++ path (local_tree p n c) c.picks
  pub leaf : (lines : List Line) (e : Ending) → IsRun (leaf (local_tree p n c) c.picks) lines e → IsRun (leaf (local_tree p most first) numbers) (kept ++ lines) e
  pub run : (more : List ℕ) (lines : List Line) (e : Ending) → IsRun (run p n (with_picks more c)) lines e → IsRun (run p most (with_picks (schedule ++ more) first)) (kept ++ lines) e

-- ---- trees have no numbers of their own

step_plain : (p : Program) (c : Configuration) (ps : List ℕ) → step_tree p (with_picks ps c) ≡ step_tree p c
step_plain p c ps = by (threads_from 0 c.threads) (runnable c)
  where
    by : (ts is : List ℕ) → ends_or_branches p (with_picks ps c) ts is ≡ ends_or_branches p c ts is
    by [] is = refl
    by (t ∷ ts) [] = refl
    by (t ∷ ts) (i ∷ is) = refl

pub local_plain : (p : Program) (n : ℕ) (c : Configuration) (ps : List ℕ) → local_tree p n (with_picks ps c) ≡ local_tree p n c
local_plain p zero c ps = refl
local_plain p (suc n) c ps = ap (λ t. grown t (λ o. goes_on_tree (local_tree p n) (client_answers p c.client o))) (by (least_local p c))
  where
    by : (o : Option ℕ) → first_tree p (with_picks ps c) o ≡ first_tree p c o
    by (Some i) = refl
    by None = step_plain p c ps

-- ---- a local step has nothing to pick from, once its thread is picked

local_act : (p : Program) (c : Configuration) (u : Turn) (o : Option Act) → does_local_act p u o ≡ true → access_options c u (access_in o) ≡ 1
local_act p c u None h = cc
local_act p c u (Some (acts.Accesses a cell)) h = cc
local_act p c u (Some (acts.Gives vs)) h = refl
local_act p c u (Some (acts.Faults k)) h = refl
local_act p c u (Some (acts.Goes g)) h = refl
local_act p c u (Some (acts.Calls f vs)) h = refl
local_act p c u (Some (acts.Replaces f vs)) h = refl
local_act p c u (Some (acts.Returns vs)) h = refl
local_act p c u (Some (acts.Throws e)) h = refl
local_act p c u (Some (acts.Casts k s)) h = refl
local_act p c u (Some (acts.Finds way s)) h = refl
local_act p c u (Some (acts.Makes t)) h = refl
local_act p c u (Some (acts.MakesHybrid t many)) h = refl
local_act p c u (Some (acts.MakesOwn t)) h = refl
local_act p c u (Some (acts.Fences o)) h = refl
local_act p c u (Some (acts.Traps cs)) h = refl
local_act p c u (Some (acts.Watches n cs g)) h = refl
local_act p c u (Some (acts.Chooses n g e)) h = refl
local_act p c u (Some (acts.Swaps s cs e)) h = refl
local_act p c u (Some (acts.Leaves s e)) h = refl
local_act p c u (Some (acts.Starts s own e)) h = refl
local_act p c u (Some (acts.MakesStack f)) h = refl
local_act p c u (Some (acts.KillsStack s)) h = refl
local_act p c u (Some acts.Tells) h = refl
local_act p c u (Some acts.Exits) h = refl
local_act p c u (Some (acts.SetsOwn s)) h = refl
local_act p c u (Some acts.TellsOwn) h = refl
local_act p c u (Some (acts.Waits timed v cell)) h = refl
local_act p c u (Some (acts.Wakes many cell)) h = refl

local_turn : (p : Program) (c : Configuration) (w : Option Waiter) (o : Option Turn) → is_local_turn p w o ≡ true → turn_options c w o ≡ 1
local_turn p c (Some w) o h = cc
local_turn p c None None h = cc
local_turn p c None (Some u) h = local_act p c u u.doing.act h

find_passes : (test : ℕ → Bool) (xs : List ℕ) (i : ℕ) → find test xs ≡ Some i → test i ≡ true
find_passes test [] i e = cc
find_passes test (x ∷ xs) i e = by (test x) refl e (find_passes test xs i)
  where
    by : (b : Bool) → test x ≡ b → (if b then Some x else find test xs) ≡ Some i → (find test xs ≡ Some i → test i ≡ true) → test i ≡ true
    by true is found more = let same : x ≡ i = cc in ap test (sym same) ∙ is
    by false is found more = more found

pub record IsLeast (p : Program) (c : Configuration) (i : ℕ) : Type 0 where
  pub room : (c.steps == c.budget) ≡ false
  pub passes : is_local p c i ≡ true

least_is : (p : Program) (c : Configuration) (i : ℕ) → least_local p c ≡ Some i → IsLeast p c i
least_is p c i e = by (c.steps == c.budget) refl e
  where
    by : (b : Bool) → (c.steps == c.budget) ≡ b → (if b then None else find (is_local p c) (runnable c)) ≡ Some i → IsLeast p c i
    by true is found = cc
    by false is found = record { room = is; passes = find_passes (is_local p c) (runnable c) i found }

picks_place : (many k : ℕ) (ps : List ℕ) → k < many → (pick many (k ∷ ps)).0 ≡ k
picks_place many k ps low =
    elim (leb_tells many 1) [
      | inl t ↦ let none : 0 ≡ k = omega (arith, low, t.1) in ap (λ (b : Bool). (if b then (0, k ∷ ps) else picked_from many (k ∷ ps)).0) t.0 ∙ none
      | inr f ↦ ap (λ (b : Bool). (if b then (0, k ∷ ps) else picked_from many (k ∷ ps)).0) f.0 ∙ mod-eq_of_lt low
    ]

module _ (p : Program) (c : Configuration) (i place : ℕ) (least : least_local p c ≡ Some i) (there : slice_get (runnable c) place ≡ Some i) where
  abbrev q : List ℕ
  q = place ∷ []

  low : place < length (runnable c)
  low = get_below (runnable c) place i there

  picked_there : slice_get (runnable c) (pick (length (runnable c)) q).0 ≡ Some i
  picked_there = ap (slice_get (runnable c)) (picks_place (length (runnable c)) place [] low) ∙ there

  pub first_digits : digits (path (step_tree p c) q) ≡ digits (picks_one (length (runnable c)) place [])
  first_digits =
      let l = least_is p c i least in
      let s = step_path p (with_picks q c) in
      let m : ℕ = length (runnable c) in
      let threads : step_threads c ≡ m = ap (λ (b : Bool). if b then 1 else m) l.room in
      let options : step_options p (with_picks q c) ≡ 1 =
      ap (λ (b : Bool). if b then 1 else thread_options p (with_picks q c) (slice_get (runnable c) (pick m q).0)) l.room
      ∙ ap (thread_options p (with_picks q c)) picked_there ∙ local_turn p (with_picks q c) (find (is_of i) c.waiters) (turn_of p c i) l.passes in
      ap (λ (t : Tree Outcome). digits (path t q)) (sym (step_plain p c q)) ∙ ap digits s.path
      ∙ ap (λ n. digits (picks_one (step_threads c) (pick (step_threads c) q).0 (picks_one n (pick n (pick (step_threads c) q).1).0 []))) options
      ∙ ap (λ n. digits (picks_one n (pick n q).0 [])) threads ∙ ap (λ k. digits (picks_one m k [])) (picks_place m place [] low)

  pub first_goes : (d : Configuration) (kept after : List Line) (before schedule : List ℕ) → FirstStepsGoOn → SchedulesGoOn → WentAt p c d (place ∷ []) kept after → schedule ≡ before ++ digits (picks_one (length (runnable c)) place [])
      → StepsOn p c d [] kept after before schedule
  first_goes d kept after before schedule first goes w pushed =
      let e : Configuration = with_picks w.left d in
      record {
        lines = w.lines;
        numbers = digits (path (step_tree p c) q);
        kept_lines = w.more;
        kept_numbers = pushed ∙ ap (λ ns. before ++ ns) (sym first_digits);
        path =
            λ n. (first p n i c e w.lines q c.picks least picked_there w.is).path ∙ ap (λ (t : Tree Run). path t c.picks) (local_plain p n d w.left)
            ∙ ap (path (local_tree p n d)) (sym w.same);
        leaf =
            λ n. (first p n i c e w.lines q c.picks least picked_there w.is).leaf
            ∙ ap (behind w.lines) (ap (λ (t : Tree Run). leaf t c.picks) (local_plain p n d w.left) ∙ ap (leaf (local_tree p n d)) (sym w.same));
        run = λ n more. goes p n c e w.lines q more w.is;
      }

  pub first_has_no_end : (kept after : List Line) (e : Ending) → FirstStepsDoNotEnd → CameToEnd p (with_picks (place ∷ []) c) kept after e → ⊥
  first_has_no_end kept after e first w = first p i c w.lines e q least picked_there (w.is ∙ own_answer p (with_picks q c))

module _ (p : Program) (c : Configuration) (kept after : List Line) (before schedule : List ℕ) (none : least_local p c ≡ None) (pushed : schedule ≡ before ++ digits (path (step_tree p c) c.picks)) where
  pub other_goes : (d : Configuration) → AnyStepsGoOn → SchedulesGoOn → WentOn p c d kept after → StepsOn p c d (path (step_tree p c) c.picks) kept after before schedule
  other_goes d any goes w =
      record {
        lines = w.lines;
        numbers = digits (path (step_tree p c) c.picks);
        kept_lines = w.more;
        kept_numbers = pushed;
        path = λ n. (any p n c d w.lines c.picks none (w.is ∙ own_answer p c)).path;
        leaf = λ n. (any p n c d w.lines c.picks none (w.is ∙ own_answer p c)).leaf;
        run = λ n more. goes p n c d w.lines c.picks more (w.is ∙ own_answer p c);
      }

  pub other_left : (d : Configuration) → AnyStepsGoOn → WentOn p c d kept after → rest (step_tree p c) c.picks ≡ d.picks
  other_left d any w = (any p 0 c d w.lines c.picks none (w.is ∙ own_answer p c)).picks

  pub other_ends : (e : Ending) → AnyStepsEnd → SchedulesEnd → CameToEnd p c kept after e → StepEnds p c (path (step_tree p c) c.picks) kept after before schedule e
  other_ends e any ends w =
      record {
        lines = w.lines;
        numbers = digits (path (step_tree p c) c.picks);
        kept_lines = w.more;
        kept_numbers = pushed;
        path = λ n. (any p n c w.lines e c.picks none (w.is ∙ own_answer p c)).path;
        leaf = λ n. (any p n c w.lines e c.picks none (w.is ∙ own_answer p c)).leaf;
        run = λ n more. ends p n c w.lines e c.picks more (w.is ∙ own_answer p c);
      }

-- ---- of what the machine answers

-- the numbers were exchanged, the step made, and the numbers exchanged back
module _ (p : Program) (m one two back : Running) (picks left : List ℕ) (place : ℕ) (kept after : List Line) (number : picks ≡ place ∷ []) (given : one ≡ record m { configuration = record m.configuration { picks = picks } }) where
  at_place : one.configuration ≡ with_picks (place ∷ []) m.configuration
  at_place = ap (λ (m : Running). m.configuration) given ∙ ap (λ ps. with_picks ps m.configuration) number

  pub went_at : left ≡ m.configuration.picks → back ≡ record two { configuration = record two.configuration { picks = left } } → WentOn p one.configuration two.configuration kept after → WentAt p m.configuration back.configuration (place ∷ []) kept after
  went_at kept_numbers again w =
      let v : WentOn p (with_picks (place ∷ []) m.configuration) two.configuration kept after = subst (λ c. WentOn p c two.configuration kept after) at_place w in
      let now : back.configuration ≡ with_picks left two.configuration = ap (λ (m : Running). m.configuration) again in
      record {
        lines = v.lines;
        left = two.configuration.picks;
        is = ap (λ (d : Configuration). Next (record d { picks = two.configuration.picks; lines = reverse v.lines })) now ∙ v.is ∙ own_answer p (with_picks (place ∷ []) m.configuration);
        same = ap (λ (c : Configuration). c.picks) now ∙ kept_numbers;
        more = v.more;
      }

  pub ended_at : (e : Ending) → CameToEnd p one.configuration kept after e → CameToEnd p (with_picks (place ∷ []) m.configuration) kept after e
  ended_at e w = subst (λ c. CameToEnd p c kept after e) at_place w

  pub rule_at : AllHaveRules p m.configuration → answered_step p one.configuration ≢ Stuck
  rule_at rules = subst (λ c. answered_step p c ≢ Stuck) (sym at_place) (rules (place ∷ []))

-- the least thread's step
pub record IsPlaced (p : Program) (c : Configuration) (place : ℕ) : Type 0 where
  pub thread : ℕ
  pub there : slice_get (runnable c) place ≡ Some thread
  pub least : least_local p c ≡ Some thread

pub placed : (p : Program) (c : Configuration) (place : ℕ) → IsLeastAt p c (Some place) → IsPlaced p c place
placed p c place h = by (slice_get (runnable c) place) refl h
  where
    by : (o : Option ℕ) → slice_get (runnable c) place ≡ o → IsSomeAnd o (λ i. least_local p c ≡ Some i) → IsPlaced p c place
    by None there h = absurd h
    by (Some i) there h = record { thread = i; there = there; least = h }

pub first_steps : (p : Program) (c d : Configuration) (place many : ℕ) (kept after : List Line) (before schedule : List ℕ) → FirstStepsGoOn → SchedulesGoOn → IsLeastAt p c (Some place) → many ≡ length (runnable c)
    → schedule ≡ before ++ digits (picks_one many place []) → WentAt p c d (place ∷ []) kept after → StepsOn p c d [] kept after before schedule
first_steps p c d place many kept after before schedule first goes h count pushed w =
    let q = placed p c place h in
    first_goes p c q.thread place q.least q.there d kept after before schedule first goes w (pushed ∙ ap (λ n. before ++ digits (picks_one n place [])) count)

pub first_no_end : (p : Program) (c : Configuration) (place : ℕ) (kept after : List Line) (e : Ending) → FirstStepsDoNotEnd → IsLeastAt p c (Some place) → CameToEnd p (with_picks (place ∷ []) c) kept after e → ⊥
first_no_end p c place kept after e first h w = let q = placed p c place h in first_has_no_end p c q.thread place q.least q.there kept after e first w

-- the numbers of the picks that were added
module _ (made more picks : List Pick) (n : ℕ) (noted : more ≡ made ++ picks) (count : n ≡ length made) where
  pub longer : n ≤ length more
  longer = let both = length-append made picks in let all = ap length noted in omega (arith, both, all, count)

  pub added : (before schedule : List ℕ) → schedule ≡ before ++ digits (drop n more) → schedule ≡ before ++ digits picks
  added before schedule pushed = pushed ∙ ap (λ ps. before ++ digits ps) (ap (λ n. drop n more) count ∙ ap (drop (length made)) noted ∙ drop-append_seam made picks)

-- what follows in both cases
pub if_none : {A : Type 0} (P Q : Type 0) → (P → Q) → (o : Option A) → IfNone o P → IfNone o Q
if_none P Q f None h = f h
if_none P Q f (Some a) h = tt

pub if_some : {A : Type 0} (P Q : A → Type 0) → ((a : A) → P a → Q a) → (o : Option A) → IfSome o P → IfSome o Q
if_some P Q f None h = tt
if_some P Q f (Some a) h = f a h

pub with_ok : {A E : Type 0} (N : Type 0) (P Q : A → Type 0) → (N → (a : A) → P a → Q a) → (r : Result A E) → OnOk r N → IfOk r P → IfOk r Q
with_ok N P Q f (Ok a) n h = f n a h
with_ok N P Q f (Err e) n h = tt

-- ---- the whole run

pub begins_far : (p : Program) (most : ℕ) (c : Configuration) (numbers : List ℕ) (made : List Pick) (kept : List Line) (schedule : List ℕ) → AllEnd p most c → c.picks ≡ numbers → made ≡ [] → kept ≡ [] → schedule ≡ []
    → SoFar p most c numbers most c made kept schedule
begins_far p most c numbers made kept schedule ends same none empty blank = record {
  ends = ends;
  left = ap (λ (ps : List Pick). drop (length ps) numbers) none ∙ sym same;
  path = ap (path (local_tree p most c)) (sym same) ∙ ap (λ ps. ps ++ path (local_tree p most c) c.picks) (sym none);
  leaf = λ lines e h. subst (λ ls. IsRun (leaf (local_tree p most c) numbers) (ls ++ lines) e) (sym empty) (subst (λ ns. IsRun (leaf (local_tree p most c) ns) lines e) same h);
  run = λ more lines e h. subst (λ ls. IsRun (run p most (with_picks (schedule ++ more) c)) (ls ++ lines) e) (sym empty) (subst (λ ns. IsRun (run p most (with_picks (ns ++ more) c)) lines e) (sym blank) h);
}

pub all_have_rules : (p : Program) (n : ℕ) (c : Configuration) → AllEnd p (suc n) c → AllHaveRules p c
all_have_rules p n c ends picks = not_stuck p n (with_picks picks c) (ends.each picks)

module _ (p : Program) (most : ℕ) (first : Configuration) (numbers : List ℕ) (n : ℕ) (c : Configuration) (made : List Pick) (kept : List Line) (schedule : List ℕ) (far : SoFar p most first numbers (suc n) c made kept schedule) (more made_now : List Pick) (kept_now : List Line) (schedule_now : List ℕ) (noted : made_now ≡ made ++ more) where
  pub one_more : (d : Configuration) → StepsOn p c d more kept kept_now schedule schedule_now → drop (length made_now) numbers ≡ d.picks → SoFar p most first numbers n d made_now kept_now schedule_now
  one_more d s left = record {
    ends = record { each = λ picks. behind_ends s.lines (run p n (with_picks picks d)) (subst HasEnding (s.run n picks) (far.ends.each (s.numbers ++ picks))) };
    left = left;
    path = far.path ∙ ap (λ ps. made ++ ps) (s.path n) ∙ sym (append_assoc made more (path (local_tree p n d) d.picks)) ∙ ap (λ ps. ps ++ path (local_tree p n d) d.picks) (sym noted);
    leaf =
        λ lines e h. subst (λ ls. IsRun (leaf (local_tree p most first) numbers) ls e) (sym (append_assoc kept s.lines lines) ∙ ap (λ ls. ls ++ lines) (sym s.kept_lines))
        (far.leaf (s.lines ++ lines) e (subst (λ r. IsRun r (s.lines ++ lines) e) (sym (s.leaf n)) (run_behind s.lines lines (leaf (local_tree p n d) d.picks) e h)));
    run =
        λ ps lines e h. subst (λ ls. IsRun (run p most (with_picks (schedule_now ++ ps) first)) ls e) (sym (append_assoc kept s.lines lines) ∙ ap (λ ls. ls ++ lines) (sym s.kept_lines))
        (subst (λ ns. IsRun (run p most (with_picks ns first)) (kept ++ (s.lines ++ lines)) e) (sym (append_assoc schedule s.numbers ps) ∙ ap (λ ns. ns ++ ps) (sym s.kept_numbers))
        (far.run (s.numbers ++ ps) (s.lines ++ lines) e (subst (λ r. IsRun r (s.lines ++ lines) e) (sym (s.run n ps)) (run_behind s.lines lines (run p n (with_picks ps d)) e h))));
  }

  pub whole_path : (e : Ending) → StepEnds p c more kept kept_now schedule schedule_now e → MakesPicks p most first numbers made_now
  whole_path e s = record { is = noted ∙ sym (far.path ∙ ap (λ ps. made ++ ps) (s.path n)) }

  pub whole_leaf : (e : Ending) → StepEnds p c more kept kept_now schedule schedule_now e → LeadsTo p most first numbers kept_now e
  whole_leaf e s = record { is = subst (λ ls. IsRun (leaf (local_tree p most first) numbers) ls e) (sym s.kept_lines) (far.leaf s.lines e (subst (λ r. IsRun r s.lines e) (sym (s.leaf n)) (refl, refl))) }

  pub whole_run : (e : Ending) → StepEnds p c more kept kept_now schedule schedule_now e → RunsTo p most first schedule_now kept_now e
  whole_run e s = record {
    is =
        subst (λ ls. IsRun (run p most (with_picks schedule_now first)) ls e) (sym s.kept_lines)
        (subst (λ ns. IsRun (run p most (with_picks ns first)) (kept ++ s.lines) e) (ap (λ ns. schedule ++ ns) (append-nil s.numbers) ∙ sym s.kept_numbers)
        (far.run (s.numbers ++ []) s.lines e (subst (λ r. IsRun r s.lines e) (sym (s.run n [])) (refl, refl))));
  }

-- where no step is left, no run has come to an ending
pub none_left : (p : Program) (c : Configuration) → AllEnd p 0 c → ⊥
none_left p c ends = ends.each []
