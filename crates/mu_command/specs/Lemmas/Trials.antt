-- The run of a made bundle.
use Rattle.std.proofs.Common.{◌≡◌, ℕ, List, [], ◌∷◌, refl, None}
use Rattle.std.specs.Prelude.{false, Result, Ok, Err, codes}
use Rattle.mem_axioms.specs.declared.types.Rule.TheVariants.{C11}
use Rattle.mu_base.specs.Outcome.{got}
use Rattle.mu_texts.specs.declared.stop.Stop.{Stop}
use Rattle.mu_texts.specs.declared.stop.Stop.TheVariants.{Line, Memory}
use Rattle.mu_texts.specs.Answer.{Part, ◌>>=◌}
use Rattle.mu_texts.specs.Comes.{Comes}
use Rattle.mu_command.specs.declared.job.RunJob.{RunJob}
use Rattle.mu_command.specs.Job.{usual_steps, usual_cells}
use Rattle.mu_command.specs.Answer.{Outcomes}

-- it begins as a run does where these are the words and no file is named
abbrev pub entry_word : List (List ℕ)
entry_word = codes "@main" ∷ []

abbrev pub usual_run : RunJob
usual_run = record { file = 0; entry = 0; hail = None; client = None; auto = false; schedule = None; rule = C11; budget = usual_steps; cells = usual_cells }

abbrev pub no_files : Outcomes
no_files what = got []

-- ---- what comes of a part, and then of what is behind it

pub comes_early : {A B : Type 0} (part : Part A) (more : A → Part B) (stop : Stop) → Comes {A = A} part (Err stop) → Comes {A = B} (part >>= more) (Err stop)
comes_early part more Memory h = tt
comes_early part more (Line text status) h = rw h refl

pub comes_behind : {A B : Type 0} (part : Part A) (more : A → Part B) (a : A) (r : Result B Stop) → part ≡ Ok a → Comes (more a) r → Comes (part >>= more) r
comes_behind part more a r e h = rw e h
