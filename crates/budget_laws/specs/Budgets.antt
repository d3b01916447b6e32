-- A run at greater budgets, and what is seen of it.
use Rattle.std.specs.Prelude.{◌≡◌, ◌≢◌, ℕ, ◌+◌, List, Some}
use Rattle.ir_tree.specs.declared.items.Item.{Item}
use Rattle.mu_model.specs.declared.lines.Line.{Line}
use Rattle.mu_model.specs.declared.endings.Ending.{Ending}
use Rattle.mu_model.specs.declared.endings.Ending.TheVariants.{Budget}
use Rattle.mu_model.specs.Acts.{Program}
use Rattle.mu_model.specs.Run.{Setting, Ends, program_run}
use Rattle.run_texts.specs.EventTexts.{Text}
use Rattle.seen_runs.specs.Seen.{Found, Shown, Complete, shows}

-- the setting with so many more steps
abbrev pub with_more : ℕ → Setting → Setting
with_more k s = record s { budget = s.budget + k }

-- A run that ends otherwise than by its budget is the same run at each greater budget.
abbrev pub EndedRunsStay : Type 0
EndedRunsStay = (p : Program) (s : Setting) (f k : ℕ) (steps : List (List Line)) (lines : List Line) (e : Ending) → ((n : ℕ) → e ≢ Budget n) →
    program_run p s f ≡ Ends steps lines e → program_run p (with_more k s) f ≡ Ends steps lines e

-- What is seen of the run by a schedule is what is seen of it at each greater budget.
abbrev pub SeenStays : Type 0
SeenStays = (bundle : List Item) (s : Setting) (f k : ℕ) (picks : List ℕ) (text : Text) →
    shows bundle s f picks ≡ Some text → shows bundle (with_more k s) f picks ≡ Some text

-- Outcomes that a search has found are outcomes by their schedules at each greater budget.
abbrev pub ShownStay : Type 0
ShownStay = (bundle : List Item) (s : Setting) (f k : ℕ) (found : List Found) →
    Shown bundle s f found → Shown bundle (with_more k s) f found

-- Where they are all, so they are at each greater budget.
abbrev pub CompleteStays : Type 0
CompleteStays = (bundle : List Item) (s : Setting) (f k : ℕ) (found : List Found) →
    Complete bundle s f found → Complete bundle (with_more k s) f found
