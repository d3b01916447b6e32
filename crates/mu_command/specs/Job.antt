-- What the words of a command line ask for, and the files of that.
use Rattle.std.specs.Prelude.{◌≡◌, ℕ, ◌+◌, ◌-◌, ◌*◌, ◌<◌, ◌≤◌, IfSome, Bool, true, false, nat_eq, nat_le, nat_lt, List, [], ◌∷◌, length, Option, None, Some, codes, bytes_eq, if◌then◌else◌, ◌&&◌, drop, slice_index_or}
use Rattle.std.specs.Option.{unwrap_or, option_map, option_and_then}
use Rattle.mem_axioms.specs.declared.types.Rule.{Rule}
use Rattle.mem_axioms.specs.declared.types.Rule.TheVariants.{C11, Rmw}
use Rattle.mu_command.specs.declared.job.Job.{Job}
use Rattle.mu_command.specs.declared.job.RunJob.{RunJob}
use Rattle.mu_command.specs.declared.job.Job.TheVariants.{Check, Print, Run, Trial, Judge, Join}
use Rattle.mu_command.specs.declared.options.Options.{Options}
use Rattle.mu_texts.specs.declared.what.What.{What}
use Rattle.mu_texts.specs.declared.what.What.TheVariants.{Bundle, Hail, Client, Schedule, Log, Joined}

-- the word with that number
abbrev pub word : List (List ℕ) → ℕ → List ℕ
word words n = slice_index_or words n []

-- ---- numbers

abbrev pub is_digit : ℕ → Bool
is_digit b = nat_le 48 b && nat_le b 57

-- the number whose decimal digits these are, behind digits that are n, as long as it is at most the limit
abbrev pub digits_up_to : ℕ → ℕ → List ℕ → Option ℕ
digits_up_to limit n [] = Some n
digits_up_to limit n (b ∷ bs) = if is_digit b && nat_le (10 * n + (b - 48)) limit then digits_up_to limit (10 * n + (b - 48)) bs else None

-- one to ten decimal digits, of a number that is at most the limit
abbrev pub number_up_to : ℕ → List ℕ → Option ℕ
number_up_to limit text = if nat_le 1 (length text) && nat_le (length text) 10 then digits_up_to limit 0 text else None

-- ---- words

abbrev pub is_word : List (List ℕ) → ℕ → List ℕ → Bool
is_word words n text = bytes_eq (word words n) text

-- how many steps a run may make where no word says it, and how many a word may say
abbrev pub usual_steps : ℕ
usual_steps = 200000

abbrev pub most_steps : ℕ
most_steps = 1000000

-- how many cells it may make beside those of the globals where no word says it, and how many a word may say
abbrev pub usual_cells : ℕ
usual_cells = 100000

abbrev pub most_cells : ℕ
most_cells = 1000000

-- ---- the options of a run

abbrev pub no_options : Options
no_options = record { entry = None; hail = None; client = None; auto = false; schedule = None; rule = None; steps = None; cells = None }

-- the value of an option that was given before or not, and is given now
abbrev pub given_once : {A : Type 0} → Option A → Option A → Option A
given_once None value = value
given_once (Some earlier) value = None

abbrev pub with_entry : Options → Option ℕ → Option Options
with_entry options value = option_map (λ n. record options { entry = Some n }) (given_once options.entry value)

abbrev pub with_hail : Options → Option ℕ → Option Options
with_hail options value = option_map (λ n. record options { hail = Some n }) (given_once options.hail value)

abbrev pub with_client : Options → Option ℕ → Option Options
with_client options value = option_map (λ n. record options { client = Some n }) (given_once options.client value)

abbrev pub with_auto : Options → Option Options
with_auto options = if options.auto then None else Some (record options { auto = true })

abbrev pub with_schedule : Options → Option ℕ → Option Options
with_schedule options value = option_map (λ n. record options { schedule = Some n }) (given_once options.schedule value)

abbrev pub with_rule : Options → Option Rule → Option Options
with_rule options value = option_map (λ rule. record options { rule = Some rule }) (given_once options.rule value)

abbrev pub with_steps : Options → Option ℕ → Option Options
with_steps options value = option_map (λ n. record options { steps = Some n }) (given_once options.steps value)

abbrev pub with_cells : Options → Option ℕ → Option Options
with_cells options value = option_map (λ n. record options { cells = Some n }) (given_once options.cells value)

-- the rule of release sequences that a word names
abbrev pub rule_named : List ℕ → Option Rule
rule_named text = if bytes_eq text (codes "c11") then Some C11 else (if bytes_eq text (codes "rmw") then Some Rmw else None)

-- the options with one more, of that name; its value is the word with number n
abbrev pub with_option : Options → List ℕ → ℕ → List ℕ → Option Options
with_option options name n value =
    if bytes_eq name (codes "--entry") then with_entry options (Some n)
    else (if bytes_eq name (codes "--steps") then with_steps options (number_up_to most_steps value)
    else (if bytes_eq name (codes "--cells") then with_cells options (number_up_to most_cells value)
    else (if bytes_eq name (codes "--hail") then with_hail options (Some n)
    else (if bytes_eq name (codes "--client") then with_client options (Some n)
    else (if bytes_eq name (codes "--schedule") then with_schedule options (Some n)
    else (if bytes_eq name (codes "--release-sequences") then with_rule options (rule_named value) else None))))))

-- the options with those of all these words, the first of which has number n: names, each with its value behind it, and `--auto`,
-- which has none
abbrev pub with_all : Options → ℕ → List (List ℕ) → Option Options
with_all options n [] = Some options
with_all options n (name ∷ []) = if bytes_eq name (codes "--auto") then with_auto options else None
with_all options n (name ∷ value ∷ words) =
    if bytes_eq name (codes "--auto") then option_and_then (λ more. with_all more (n + 1) (value ∷ words)) (with_auto options)
    else option_and_then (λ more. with_all more (n + 2) words) (with_option options name (n + 1) value)

-- ---- jobs

-- the run of the file that word 1 names
abbrev pub run_with : Options → Option Job
run_with options =
    option_map (λ entry. Run (record {
      file = 1;
      entry = entry;
      hail = options.hail;
      client = options.client;
      auto = options.auto;
      schedule = options.schedule;
      rule = unwrap_or options.rule C11;
      budget = unwrap_or options.steps usual_steps;
      cells = unwrap_or options.cells usual_cells;
    })) options.entry

-- how many pairs a made bundle may have
abbrev pub most_pairs : ℕ
most_pairs = 1000

-- one pair at least
abbrev pub from_one : ℕ → Option ℕ
from_one n = if nat_le 1 n then Some n else None

abbrev pub pairs_asked : List ℕ → Option ℕ
pairs_asked text = option_and_then from_one (number_up_to most_pairs text)

-- the judging of the file that word 1 names, by the rule that the words after it name; without such words by `c11`
abbrev pub judge_with : List (List ℕ) → Option Job
judge_with [] = Some (Judge 1 C11)
judge_with (name ∷ value ∷ []) = if bytes_eq name (codes "--release-sequences") then option_map (Judge 1) (rule_named value) else None
judge_with _ = None

-- how many bundles may be joined
abbrev pub most_bundles : ℕ
most_bundles = 16

-- the joining of the files that all words after the first name, of so many words
abbrev pub join_of : ℕ → Option Job
join_of count = if nat_le count (1 + most_bundles) then Some (Join 1 (count - 1)) else None

-- `check FILE`, `print FILE`, `trial N`, `run FILE` with options in any order, each at most once: `--entry NAME`, which is required,
-- `--hail F`, `--client F`, `--auto`, `--schedule F`, `--release-sequences c11` or `rmw`, `--steps N` and `--cells N`; `judge FILE`, with
-- `--release-sequences c11` or `rmw` after it or not; and `join` with 1 to 16 files. All other words ask for nothing.
unfoldable pub job_of : List (List ℕ) → Option Job
job_of words =
    if nat_eq (length words) 2 && is_word words 0 (codes "check") then Some (Check 1)
    else (if nat_eq (length words) 2 && is_word words 0 (codes "print") then Some (Print 1)
    else (if nat_eq (length words) 2 && is_word words 0 (codes "trial") then option_map Trial (pairs_asked (word words 1))
    else (if nat_le 2 (length words) && is_word words 0 (codes "run") then option_and_then run_with (with_all no_options 2 (drop 2 words))
    else (if nat_le 2 (length words) && is_word words 0 (codes "judge") then judge_with (drop 2 words)
    else (if nat_le 2 (length words) && is_word words 0 (codes "join") then join_of (length words) else None)))))

-- the words that name the bundle, the script that fills the heap, the one that is the client, the schedule, the log that is judged, and
-- the bundle with number k of those that are joined
abbrev pub bundle_word : Job → Option ℕ
bundle_word (Check file) = Some file
bundle_word (Print file) = Some file
bundle_word (Run r) = Some r.file
bundle_word _ = None

abbrev pub hail_word : Job → Option ℕ
hail_word (Run r) = r.hail
hail_word _ = None

abbrev pub client_word : Job → Option ℕ
client_word (Run r) = r.client
client_word _ = None

abbrev pub schedule_word : Job → Option ℕ
schedule_word (Run r) = r.schedule
schedule_word _ = None

abbrev pub log_word : Job → Option ℕ
log_word (Judge file rule) = Some file
log_word _ = None

abbrev pub joined_word : Job → ℕ → Option ℕ
joined_word (Join first files) k = if nat_lt k files then Some (first + k) else None
joined_word _ k = None

-- the word that names a file of the job, where the job has that file
abbrev pub file_of : Job → What → Option ℕ
file_of job Bundle = bundle_word job
file_of job Hail = hail_word job
file_of job Client = client_word job
file_of job Schedule = schedule_word job
file_of job Log = log_word job
file_of job (Joined k) = joined_word job k

-- the words of a run are there, of so many, and no more steps are asked than may be
pub record IsThere (count : ℕ) (r : RunJob) : Type 0 where
  pub file : r.file < count
  pub entry : r.entry < count
  pub hail : IfSome r.hail (λ n. n < count)
  pub client : IfSome r.client (λ n. n < count)
  pub schedule : IfSome r.schedule (λ n. n < count)
  pub budget : r.budget ≤ most_steps

-- the words of the files that are joined are there, from word 1 on, at least one and at most so many as may be joined
pub record FilesAreThere (count first files : ℕ) : Type 0 where
  pub from : first ≡ 1
  pub last : first + files ≤ count
  pub some : 1 ≤ files
  pub few : files ≤ most_bundles

-- the same of a job
abbrev pub AreThere : List (List ℕ) → Job → Type 0
AreThere words (Check file) = file < length words
AreThere words (Print file) = file < length words
AreThere words (Run r) = IsThere (length words) r
AreThere words (Trial n) = Unit {0}
AreThere words (Judge file rule) = file < length words
AreThere words (Join first files) = FilesAreThere (length words) first files

-- the same of options
pub record OptionsAreThere (count : ℕ) (options : Options) : Type 0 where
  pub entry : IfSome options.entry (λ n. n < count)
  pub hail : IfSome options.hail (λ n. n < count)
  pub client : IfSome options.client (λ n. n < count)
  pub schedule : IfSome options.schedule (λ n. n < count)
  pub steps : IfSome options.steps (λ n. n ≤ most_steps)
