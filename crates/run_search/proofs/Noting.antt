-- The picks of a step, as they are noted, and what the machine answers of it.
use Rattle.std.proofs.Common.{◌≡◌, ℕ, List, [], ◌++◌, length, drop, subst, ap, ◌∙◌}
use Rattle.std.specs.Prelude.{Result, Ok, Err, OnOk}
use Rattle.ir_tree.specs.declared.items.Item.{Item}
use Rattle.mu_model.specs.Acts.{Program}
use Rattle.mu_model.specs.Configuration.{Configuration}
use Rattle.mu_model.specs.Outcomes.{Outcome}
use Rattle.mu_model.specs.Programs.{named}
use Rattle.odometer.specs.Trees.{pick, rest}
use Rattle.odometer.specs.Odometer.{path}
use Rattle.odometer.specs.GrownLaws.{picks_one}
use Rattle.odometer.specs.declared.picks.Pick.{Pick}
use Rattle.search_laws.specs.Moved.{step_tree}
use Rattle.run_state.specs.Options.{step_options}
use Rattle.run_search.specs.StepPaths.{step_threads}
use Rattle.run_search.specs.Playing.{answered_step, noted_path, noted_left}

-- what follows of a call's success follows where it succeeds
pub on_ok : {A E : Type 0} (P Q : Type 0) → (P → Q) → (r : Result A E) → OnOk r P → OnOk r Q
on_ok P Q f (Ok a) h = f h
on_ok P Q f (Err e) h = tt

-- the pick of the thread is noted, and so many options are known
pub record IsNoted (p : Program) (c : Configuration) (numbers : List ℕ) (made one : List Pick) (threads options : ℕ) : Type 0 where
  pub at : drop (length made) numbers ≡ c.picks
  pub threads_are : threads ≡ step_threads c
  pub options_are : options ≡ step_options p c
  pub noted : one ≡ made ++ picks_one threads (pick threads (drop (length made) numbers)).0 []
  pub left : drop (length one) numbers ≡ (pick threads (drop (length made) numbers)).1

module _ (p : Program) (c : Configuration) (numbers : List ℕ) (made one : List Pick) (threads options : ℕ) (q : IsNoted p c numbers made one threads options) (more : List Pick) where
  left_is : drop (length one) numbers ≡ (pick (step_threads c) (drop (length made) numbers)).1
  left_is = subst (λ t. drop (length one) numbers ≡ (pick t (drop (length made) numbers)).1) q.threads_are q.left

  pub picks_so : more ≡ one ++ picks_one options (pick options (drop (length one) numbers)).0 [] → more ≡ made ++ path (step_tree p c) c.picks
  picks_so is =
      noted_path p c numbers made one more q.at (subst (λ t. one ≡ made ++ picks_one t (pick t (drop (length made) numbers)).0 []) q.threads_are q.noted) left_is
      (subst (λ n. more ≡ one ++ picks_one n (pick n (drop (length one) numbers)).0 []) q.options_are is)

  pub left_so : drop (length more) numbers ≡ (pick options (drop (length one) numbers)).1 → drop (length more) numbers ≡ rest (step_tree p c) c.picks
  left_so is = noted_left p c numbers made one more q.at left_is (subst (λ n. drop (length more) numbers ≡ (pick n (drop (length one) numbers)).1) q.options_are is)

-- the bundle of the machine is that of the code
pub told_by : (b code : List Item) (c : Configuration) (o : Outcome) → b ≡ code → o ≡ answered_step (named b) c → o ≡ answered_step (named code) c
told_by b code c o same is = is ∙ ap (λ b. answered_step (named b) c) same
