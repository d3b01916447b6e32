-- Nothing that a reader believes of a search rests on this. It is what the functions that make a run tell their callers.
use Rattle.std.specs.Prelude.{◌≡◌, ◌≢◌, ℕ, zero, suc, List, [], ◌∷◌, ◌++◌, flat_map, length, drop, reverse, refl}
use Rattle.std.proofs.Common.{sym, ◌∙◌, ap, subst, append_assoc}
use Rattle.mu_model.specs.declared.lines.Line.{Line}
use Rattle.mu_model.specs.declared.endings.Ending.{Ending}
use Rattle.mu_model.specs.Acts.{Program}
use Rattle.ir_tree.specs.declared.items.Item.{Item}
use Rattle.mu_model.specs.Configuration.{Configuration}
use Rattle.mu_model.specs.Programs.{named}
use Rattle.mu_model.specs.Outcomes.{Outcome, Next, End, Stuck}
use Rattle.mu_model.specs.Step.{step}
use Rattle.mu_model.specs.Run.{Run, Ends, Breaks, Unfinished, behind, goes_on, run, client_answers}
use Rattle.model_laws.specs.Bounds.{HasEnding}
use Rattle.mu_model.specs.declared.endings.StepEnd.{StepEnd}
use Rattle.mu_model.specs.declared.endings.StepEnd.TheVariants.{Went, Ended}
use Rattle.client_hooks.specs.Ways.{by_entries, client_answers_by, entries_answer}
use Rattle.run_state.specs.Outcome.{outcome_of}
use Rattle.odometer.specs.Trees.{pick, rest}
use Rattle.odometer.specs.Odometer.{path}
use Rattle.odometer.specs.GrownLaws.{picks_one}
use Rattle.odometer.specs.declared.picks.Pick.{Pick}
use Rattle.search_laws.specs.Moved.{step_tree}
use Rattle.run_state.specs.Options.{step_options}
use Rattle.run_search.specs.StepPaths.{step_threads, step_path}

-- a step by the client's own answer, which is that of its entries
abbrev pub answered_step : Program → Configuration → Outcome
answered_step p c = client_answers_by by_entries p c.client (step p c)

pub own_answer : (p : Program) (c : Configuration) → answered_step p c ≡ client_answers p c.client (step p c)
own_answer p c = entries_answer p c.client (step p c)

-- the step went on from c to d, and its lines came after those that were kept
pub record WentOn (p : Program) (c d : Configuration) (kept after : List Line) : Type 0 where
  pub lines : List Line
  pub is : Next (record d { lines = reverse lines }) ≡ answered_step p c
  pub more : after ≡ kept ++ lines

-- it gave the ending
pub record CameToEnd (p : Program) (c : Configuration) (kept after : List Line) (ending : Ending) : Type 0 where
  pub lines : List Line
  pub is : End lines ending ≡ answered_step p c
  pub more : after ≡ kept ++ lines

-- a run has these lines and this ending
abbrev pub IsRun : Run → List Line → Ending → Type 0
IsRun (Ends steps ls e) lines ending = (flat_map (λ ls. ls) steps ++ ls ≡ lines) × (e ≡ ending)
IsRun Breaks lines ending = ⊥
IsRun Unfinished lines ending = ⊥

-- ---- laws

module _ (p : Program) (n : ℕ) (c : Configuration) (ends : HasEnding (run p (suc n) c)) where
  pub not_stuck : answered_step p c ≢ Stuck
  not_stuck e = subst (λ o. HasEnding (goes_on (run p n) o)) (sym (own_answer p c) ∙ e) ends

pub run_behind : (ls lines : List Line) (r : Run) (e : Ending) → IsRun r lines e → IsRun (behind ls r) (ls ++ lines) e
run_behind ls lines (Ends steps more x) e h = (append_assoc ls (flat_map (λ ls. ls) steps) more ∙ ap (λ ms. ls ++ ms) h.0, h.1)
run_behind ls lines Breaks e h = h
run_behind ls lines Unfinished e h = h

pub behind_ends : (ls : List Line) (r : Run) → HasEnding (behind ls r) → HasEnding r
behind_ends ls (Ends steps more x) h = tt
behind_ends ls Breaks h = h
behind_ends ls Unfinished h = h

-- ---- a step, by what the machine answered and how many options there were

both_picks : (n k : ℕ) (ps : List Pick) → picks_one n k [] ++ ps ≡ picks_one n k ps
both_picks zero k ps = refl
both_picks (suc zero) k ps = refl
both_picks (suc (suc n)) k ps = refl

module _ (p : Program) (c : Configuration) (numbers : List ℕ) (made one more : List Pick) where
  -- both picks were noted
  pub noted_path : drop (length made) numbers ≡ c.picks → one ≡ made ++ picks_one (step_threads c) (pick (step_threads c) (drop (length made) numbers)).0 []
      → drop (length one) numbers ≡ (pick (step_threads c) (drop (length made) numbers)).1
      → more ≡ one ++ picks_one (step_options p c) (pick (step_options p c) (drop (length one) numbers)).0 [] → more ≡ made ++ path (step_tree p c) c.picks
  noted_path at first left second =
      let s = step_path p c in
      let k = pick (step_threads c) c.picks in
      let one_is : one ≡ made ++ picks_one (step_threads c) k.0 [] = first ∙ ap (λ qs. made ++ picks_one (step_threads c) (pick (step_threads c) qs).0 []) at in
      let left_is : drop (length one) numbers ≡ k.1 = left ∙ ap (λ qs. (pick (step_threads c) qs).1) at in
      let last : List Pick = picks_one (step_options p c) (pick (step_options p c) k.1).0 [] in
      second ∙ ap (λ qs. one ++ picks_one (step_options p c) (pick (step_options p c) qs).0 []) left_is ∙ ap (λ ps. ps ++ last) one_is
      ∙ append_assoc made (picks_one (step_threads c) k.0 []) last ∙ ap (λ ps. made ++ ps) (both_picks (step_threads c) k.0 last ∙ sym s.path)

  pub noted_left : drop (length made) numbers ≡ c.picks → drop (length one) numbers ≡ (pick (step_threads c) (drop (length made) numbers)).1
      → drop (length more) numbers ≡ (pick (step_options p c) (drop (length one) numbers)).1 → drop (length more) numbers ≡ rest (step_tree p c) c.picks
  noted_left at left last =
      let s = step_path p c in
      last ∙ ap (λ qs. (pick (step_options p c) qs).1) (left ∙ ap (λ qs. (pick (step_threads c) qs).1) at) ∙ sym s.rest

-- lines that are kept
none_after : (ls : List Line) → ls ++ [] ≡ ls
none_after [] = refl
none_after (l ∷ ls) = ap (λ ms. l ∷ ms) (none_after ls)

-- a step that was made at once has no lines
pub went_at_once : (b code : List Item) (c d : Configuration) (kept : List Line) → b ≡ code → outcome_of (Went []) d ≡ answered_step (named b) c → WentOn (named code) c d kept kept
went_at_once b code c d kept same e = record { lines = []; is = e ∙ ap (λ b. answered_step (named b) c) same; more = sym (none_after kept) }

pub went_so : (b code : List Item) (c d : Configuration) (end : StepEnd) (ls : List Line) (kept after : List Line) → end ≡ Went ls → b ≡ code → outcome_of end d ≡ answered_step (named b) c → after ≡ kept ++ ls → WentOn (named code) c d kept after
went_so b code c d end ls kept after is same e longer =
    record { lines = ls; is = ap (λ end. outcome_of end d) (sym is) ∙ e ∙ ap (λ b. answered_step (named b) c) same; more = longer }

pub ended_so : (b code : List Item) (c d : Configuration) (end : StepEnd) (ls : List Line) (x : Ending) (kept after : List Line) → end ≡ Ended ls x → b ≡ code → outcome_of end d ≡ answered_step (named b) c → after ≡ kept ++ ls
    → CameToEnd (named code) c kept after x
ended_so b code c d end ls x kept after is same e longer =
    record { lines = ls; is = ap (λ end. outcome_of end d) (sym is) ∙ e ∙ ap (λ b. answered_step (named b) c) same; more = longer }

pub kept_none : (kept ls : List Line) → length ls ≡ 0 → kept ≡ kept ++ ls
kept_none kept [] e = sym (none_after kept)
kept_none kept (l ∷ ls) e = cc

flat_both : (xs ys : List (List Line)) → flat_map (λ (ls : List Line). ls) (xs ++ ys) ≡ flat_map (λ ls. ls) xs ++ flat_map (λ ls. ls) ys
flat_both [] ys = refl
flat_both (x ∷ xs) ys = ap (λ ls. x ++ ls) (flat_both xs ys) ∙ sym (append_assoc x (flat_map (λ ls. ls) xs) (flat_map (λ ls. ls) ys))

pub kept_more : (xs ys : List (List Line)) (ls : List Line) → ys ≡ xs ++ ls ∷ [] → flat_map (λ (ls : List Line). ls) ys ≡ flat_map (λ ls. ls) xs ++ ls
kept_more xs ys ls e = ap (flat_map (λ ls. ls)) e ∙ flat_both xs (ls ∷ []) ∙ ap (λ ms. flat_map (λ ls. ls) xs ++ ms) (none_after ls)

pub ruleset stepping = (went_so, ended_so)

pub ruleset keeping = (kept_none, kept_more)
