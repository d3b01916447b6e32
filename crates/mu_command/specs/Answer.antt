-- What the program answers to its words, and to what the fetches of its files come to.
use Rattle.std.specs.Prelude.{ℕ, zero, suc, List, [], ◌∷◌, ◌++◌, false, Option, None, Some, Ok, Err, codes}
use Rattle.mu_base.specs.declared.status.Status.TheVariants.{Usage, ReadFault, TooLong}
use Rattle.mu_base.specs.Outcome.{Outcome, got, failed, too_long}
use Rattle.mu_texts.specs.declared.what.What.{What}
use Rattle.ir_tree.specs.declared.items.Item.{Item}
use Rattle.mu_texts.specs.declared.what.What.TheVariants.{Bundle, Hail, Client, Schedule, Log, Joined}
use Rattle.mu_texts.specs.declared.ready.Ready.{Ready}
use Rattle.mu_texts.specs.declared.ready.Ready.TheVariants.{Entered}
use Rattle.mu_texts.specs.declared.ready.Telling.TheVariants.{Lines, Counts}
use Rattle.mu_texts.specs.Start.{Started}
use Rattle.mu_texts.specs.What.{name_of}
use Rattle.mu_texts.specs.Answer.{Answer, Part, ◌>>=◌, line, written_in, for_check, for_print, for_judge, for_join, accepted, entered, loaded, client_part, scheduled, started, ready_part}
use Rattle.mem_axioms.specs.declared.types.Rule.TheVariants.{C11}
use Rattle.trial_text.specs.Trial.{trial_text}
use Rattle.mu_command.specs.declared.job.Job.{Job}
use Rattle.mu_command.specs.declared.job.Job.TheVariants.{Check, Print, Run, Trial, Judge, Join}
use Rattle.mu_command.specs.declared.job.RunJob.{RunJob}
use Rattle.mu_command.specs.Job.{word, usual_steps, usual_cells}

-- the lines of files that were not fetched, each of which names the file
abbrev pub read_fault_line : What → Answer
read_fault_line what = line (codes "read fault " ++ name_of what) ReadFault

abbrev pub too_long_line : What → Answer
too_long_line what = line (codes "too long " ++ name_of what) TooLong

-- a fetch gives the file's bytes, or such a line
abbrev pub fetched : What → Outcome → Part (List ℕ)
fetched what (got bytes) = Ok bytes
fetched what failed = Err (read_fault_line what)
fetched what too_long = Err (too_long_line what)

-- What the fetches come to, file by file.
abbrev pub Outcomes : Type 0
Outcomes = What → Outcome

-- a file is fetched and judged
abbrev pub judged : {A : Type 0} → What → (List ℕ → Part A) → Outcome → Part A
judged what part o = fetched what o >>= part

-- how a run of a bundle begins: from the function that a word names, over the objects of a script, with a client, by a schedule
abbrev pub begun : List (List ℕ) → RunJob → List Item → Outcomes → Part Started
begun words r code o =
    entered code (word words r.entry) >>= λ n.
    judged Hail (loaded code r.cells) (o Hail) >>= λ objects.
    judged Client (client_part code r.auto) (o Client) >>= λ client.
    judged Schedule scheduled (o Schedule) >>= λ picks.
    Ok (started code n (record { objects = objects; client = client; picks = picks; cells = r.cells; budget = r.budget; rule = r.rule }))

-- how the run of a made bundle begins: as that from `@main` where no other file is named, within the usual limits
abbrev pub trial_begun : List Item → Part Started
trial_begun code =
    entered code (codes "@main") >>= λ n.
    loaded code usual_cells [] >>= λ objects.
    client_part code false [] >>= λ client.
    scheduled [] >>= λ picks.
    Ok (started code n (record { objects = objects; client = client; picks = picks; cells = usual_cells; budget = usual_steps; rule = C11 }))

-- the made bundle with n pairs is read and judged as any other
abbrev pub trial_found : ℕ → Part Ready
trial_found n = accepted (trial_text n) >>= λ code. trial_begun code >>= λ start. Ok (Entered code start (Counts n))

-- the first n of the bundles that are joined, each as its text spells it, fetched and read one after the other
abbrev pub first_bundles : Outcomes → ℕ → Part (List (List Item))
first_bundles o zero = Ok []
first_bundles o (suc k) = first_bundles o k >>= λ bundles. judged (Joined k) (written_in (Joined k)) (o (Joined k)) >>= λ bundle. Ok (bundles ++ bundle ∷ [])

-- what is found on the way: what the command asks of its files, one after the other
abbrev pub found : List (List ℕ) → Job → Outcomes → Part Ready
found words (Check file) o = judged Bundle for_check (o Bundle)
found words (Print file) o = judged Bundle for_print (o Bundle)
found words (Run r) o = judged Bundle accepted (o Bundle) >>= λ code. begun words r code o >>= λ start. Ok (Entered code start Lines)
found words (Trial n) o = trial_found n
found words (Judge file rule) o = judged Log (for_judge rule) (o Log)
found words (Join first files) o = first_bundles o files >>= for_join

-- The answer to the words and the outcomes: no job; the first fetch that gives no file; the first refusal; else the run.
abbrev pub answer_of : List (List ℕ) → Option Job → Outcomes → Answer
answer_of words None outcomes = line (codes "usage") Usage
answer_of words (Some job) outcomes = ready_part (found words job outcomes)
