-- What is ready to be written is no refusal.
use Rattle.std.proofs.Common.{◌≡◌, ◌⊎◌, inl, inr, ℕ, true, false, List, refl}
use Rattle.mu_base.specs.declared.status.Status.TheVariants.{Refused, Memory, No}
use Rattle.ir_tree.specs.declared.items.Item.{Item}
use Rattle.mu_model.specs.declared.endings.Ending.{Ending}
use Rattle.mu_model.specs.declared.endings.Ending.TheVariants as endings
use Rattle.mu_model.specs.Run.{Run, Ends, Breaks, Unfinished}
use Rattle.run_texts.specs.Texts.{ending_status}
use Rattle.verdicts.specs.declared.types.Verdict.{Verdict}
use Rattle.verdicts.specs.declared.types.Verdict.TheVariants as verdicts
use Rattle.mu_texts.specs.declared.ready.Ready.{Ready}
use Rattle.mu_texts.specs.declared.ready.Ready.TheVariants as ready
use Rattle.mu_texts.specs.declared.ready.Telling.{Telling}
use Rattle.mu_texts.specs.declared.ready.Telling.TheVariants.{Lines, Counts}
use Rattle.mu_texts.specs.Answer.{is_end, is_yes, verdict_status, ready_answer, run_answer, trial_answer, told_answer, run_of}

no_ending_is_refused : (ending : Ending) → ending_status ending ≡ Refused → ⊥
no_ending_is_refused endings.Done e = cc
no_ending_is_refused endings.Stop e = cc
no_ending_is_refused (endings.Undefined k i block at r) e = cc
no_ending_is_refused (endings.HeapFull i asked left) e = cc
no_ending_is_refused (endings.ThreadsFull i) e = cc
no_ending_is_refused (endings.AllWaiting is) e = cc
no_ending_is_refused (endings.Budget n) e = cc

no_run_is_refused : (bundle : List Item) (r : Run) → (run_answer bundle r).status ≡ Refused → ⊥
no_run_is_refused bundle (Ends steps lines ending) e = no_ending_is_refused ending e
no_run_is_refused bundle Breaks e = cc
no_run_is_refused bundle Unfinished e = cc

no_trial_is_refused : (n : ℕ) (bundle : List Item) (r : Run) → (trial_answer n bundle r).status ≡ Refused → ⊥
no_trial_is_refused n bundle (Ends steps lines ending) e = no_ending_is_refused ending e
no_trial_is_refused n bundle Breaks e = cc
no_trial_is_refused n bundle Unfinished e = cc

nothing_told_is_refused : (telling : Telling) (bundle : List Item) (r : Run) → (told_answer telling bundle r).status ≡ Refused → ⊥
nothing_told_is_refused Lines bundle r e = no_run_is_refused bundle r e
nothing_told_is_refused (Counts n) bundle r e = no_trial_is_refused n bundle r e

no_verdict_is_refused : (v : Verdict) → verdict_status v ≡ Refused → ⊥
no_verdict_is_refused (verdicts.Yes n) e = cc
no_verdict_is_refused (verdicts.Form j) e = cc
no_verdict_is_refused (verdicts.Axiom1 i j) e = cc
no_verdict_is_refused (verdicts.Axiom3 a b) e = cc
no_verdict_is_refused (verdicts.Race i j) e = cc

pub nothing_ready_is_refused : (r : Ready) → (ready_answer r).status ≡ Refused → ⊥
nothing_ready_is_refused ready.Accepted e = cc
nothing_ready_is_refused (ready.Canonical bundle) e = cc
nothing_ready_is_refused (ready.Judged v) e = no_verdict_is_refused v e
nothing_ready_is_refused (ready.Entered code start telling) e = nothing_told_is_refused telling code (run_of code start.entry start.setting) e

-- ---- what is ready ends with a status of what was accepted, or would find no memory

ending_ends : (e : Ending) → is_end (ending_status e) ≡ true
ending_ends endings.Done = refl
ending_ends endings.Stop = refl
ending_ends (endings.Undefined k i block at r) = refl
ending_ends (endings.HeapFull i asked left) = refl
ending_ends (endings.ThreadsFull i) = refl
ending_ends (endings.AllWaiting is) = refl
ending_ends (endings.Budget n) = refl

run_ends : (bundle : List Item) (r : Run) → (is_end (run_answer bundle r).status ≡ true) ⊎ ((run_answer bundle r).status ≡ Memory)
run_ends bundle (Ends steps lines e) = inl (ending_ends e)
run_ends bundle Breaks = inr refl
run_ends bundle Unfinished = inr refl

trial_ends : (n : ℕ) (bundle : List Item) (r : Run) → (is_end (trial_answer n bundle r).status ≡ true) ⊎ ((trial_answer n bundle r).status ≡ Memory)
trial_ends n bundle (Ends steps lines e) = inl (ending_ends e)
trial_ends n bundle Breaks = inr refl
trial_ends n bundle Unfinished = inr refl

told_ends : (telling : Telling) (bundle : List Item) (r : Run) → (is_end (told_answer telling bundle r).status ≡ true) ⊎ ((told_answer telling bundle r).status ≡ Memory)
told_ends Lines bundle r = run_ends bundle r
told_ends (Counts n) bundle r = trial_ends n bundle r

verdict_ends : (v : Verdict) → is_end (verdict_status v) ≡ true
verdict_ends (verdicts.Yes n) = refl
verdict_ends (verdicts.Form j) = refl
verdict_ends (verdicts.Axiom1 i j) = refl
verdict_ends (verdicts.Axiom3 a b) = refl
verdict_ends (verdicts.Race i j) = refl

pub ready_ends : (r : Ready) → (is_end (ready_answer r).status ≡ true) ⊎ ((ready_answer r).status ≡ Memory)
ready_ends ready.Accepted = inl refl
ready_ends (ready.Canonical bundle) = inl refl
ready_ends (ready.Judged v) = inl (verdict_ends v)
ready_ends (ready.Entered code start telling) = told_ends telling code (run_of code start.entry start.setting)

-- ---- only a verdict is a No

-- no verdict is told
abbrev pub IsNoVerdict : Ready → Type 0
IsNoVerdict (ready.Judged v) = ⊥
IsNoVerdict _ = Unit {0}

no_ending_is_no : (ending : Ending) → ending_status ending ≡ No → ⊥
no_ending_is_no endings.Done e = cc
no_ending_is_no endings.Stop e = cc
no_ending_is_no (endings.Undefined k i block at r) e = cc
no_ending_is_no (endings.HeapFull i asked left) e = cc
no_ending_is_no (endings.ThreadsFull i) e = cc
no_ending_is_no (endings.AllWaiting is) e = cc
no_ending_is_no (endings.Budget n) e = cc

nothing_told_is_no : (telling : Telling) (bundle : List Item) (r : Run) → (told_answer telling bundle r).status ≡ No → ⊥
nothing_told_is_no Lines bundle (Ends steps lines ending) e = no_ending_is_no ending e
nothing_told_is_no Lines bundle Breaks e = cc
nothing_told_is_no Lines bundle Unfinished e = cc
nothing_told_is_no (Counts n) bundle (Ends steps lines ending) e = no_ending_is_no ending e
nothing_told_is_no (Counts n) bundle Breaks e = cc
nothing_told_is_no (Counts n) bundle Unfinished e = cc

pub no_verdict_is_no : (r : Ready) → IsNoVerdict r → (ready_answer r).status ≡ No → ⊥
no_verdict_is_no ready.Accepted other e = cc
no_verdict_is_no (ready.Canonical bundle) other e = cc
no_verdict_is_no (ready.Judged v) other e = other
no_verdict_is_no (ready.Entered code start telling) other e = nothing_told_is_no telling code (run_of code start.entry start.setting) e

-- a verdict is a No exactly where it is not Yes
pub no_exactly : (v : Verdict) → (verdict_status v ≡ No → is_yes v ≡ false) × (is_yes v ≡ false → verdict_status v ≡ No)
no_exactly (verdicts.Yes n) = ((λ e. cc), (λ e. cc))
no_exactly (verdicts.Form j) = ((λ e. refl), (λ e. refl))
no_exactly (verdicts.Axiom1 i j) = ((λ e. refl), (λ e. refl))
no_exactly (verdicts.Axiom3 a b) = ((λ e. refl), (λ e. refl))
no_exactly (verdicts.Race i j) = ((λ e. refl), (λ e. refl))
