-- What the words of a command line ask a search for.
use Rattle.std.specs.Prelude.{ℕ, ◌+◌, nat_le, List, [], ◌∷◌, length, Option, None, Some, codes, bytes_eq, if◌then◌else◌, ◌&&◌, drop}
use Rattle.std.specs.Option.{unwrap_or, option_map, option_and_then}
use Rattle.mem_axioms.specs.declared.types.Rule.TheVariants.{C11}
use Rattle.mu_command.specs.declared.job.Job.{Job}
use Rattle.mu_command.specs.declared.job.Job.TheVariants.{Run}
use Rattle.mu_command.specs.declared.options.Options.{Options}
use Rattle.mu_command.specs.Job.{is_word, no_options, given_once, number_up_to, from_one, with_auto as run_with_auto, with_option as run_with_option, usual_cells}
use Rattle.explore.specs.declared.search.Search.{Search}
use Rattle.explore.specs.declared.options.SearchOptions.{SearchOptions}

-- without `--steps` each run makes at most 1,000 steps; without `--runs` at most 1,000,000 runs are made; `--runs` takes at most 100,000,000
abbrev pub usual_steps : ℕ
usual_steps = 1000

abbrev pub usual_runs : ℕ
usual_runs = 1000000

abbrev pub most_runs : ℕ
most_runs = 100000000

abbrev pub none_given : SearchOptions
none_given = record { run = no_options; runs = None; condition = None }

-- one run at least
abbrev pub runs_asked : List ℕ → Option ℕ
runs_asked text = option_and_then from_one (number_up_to most_runs text)

abbrev pub with_runs : SearchOptions → Option ℕ → Option SearchOptions
with_runs options value = option_map (λ n. record options { runs = Some n }) (given_once options.runs value)

abbrev pub with_condition : SearchOptions → Option ℕ → Option SearchOptions
with_condition options value = option_map (λ n. record options { condition = Some n }) (given_once options.condition value)

abbrev pub with_run : SearchOptions → Option Options → Option SearchOptions
with_run options more = option_map (λ (run : Options). record options { run = run }) more

-- the options with one more, of that name: `--runs`, `--condition`, or one of those of `run` but for `--schedule`; its value is the word with number n
abbrev pub with_option : SearchOptions → List ℕ → ℕ → List ℕ → Option SearchOptions
with_option options name n value =
    if bytes_eq name (codes "--runs") then with_runs options (runs_asked value)
    else (if bytes_eq name (codes "--condition") then with_condition options (Some n)
    else (if bytes_eq name (codes "--schedule") then None else with_run options (run_with_option options.run name n value)))

abbrev pub with_auto : SearchOptions → Option SearchOptions
with_auto options = with_run options (run_with_auto options.run)

-- the options with those of all these words, the first of which has number n: names, each with its value after it, and `--auto`,
-- which has none
abbrev pub with_all : SearchOptions → ℕ → List (List ℕ) → Option SearchOptions
with_all options n [] = Some options
with_all options n (name ∷ []) = if bytes_eq name (codes "--auto") then with_auto options else None
with_all options n (name ∷ value ∷ words) =
    if bytes_eq name (codes "--auto") then option_and_then (λ more. with_all more (n + 1) (value ∷ words)) (with_auto options)
    else option_and_then (λ more. with_all more (n + 2) words) (with_option options name (n + 1) value)

-- the search through the runs of the file that word 1 names, from the function that a word names; the words name no schedule: the search makes the picks
abbrev pub search_from : SearchOptions → ℕ → Search
search_from options entry =
    record {
      run = record {
        file = 1;
        entry = entry;
        hail = options.run.hail;
        client = options.run.client;
        auto = options.run.auto;
        schedule = None;
        rule = unwrap_or options.run.rule C11;
        budget = unwrap_or options.run.steps usual_steps;
        cells = unwrap_or options.run.cells usual_cells;
      };
      runs = unwrap_or options.runs usual_runs;
      condition = options.condition;
    }

abbrev pub search_with : SearchOptions → Option Search
search_with options = option_map (search_from options) options.run.entry

-- `explore FILE` with options in any order, each at most once: `--entry NAME`, which is required, `--hail F`, `--client F`, `--auto`,
-- `--release-sequences c11` or `rmw`, `--steps N`, `--cells N`, `--runs N` and `--condition F`. All other words ask for nothing.
unfoldable pub search_of : List (List ℕ) → Option Search
search_of words = if nat_le 2 (length words) && is_word words 0 (codes "explore") then option_and_then search_with (with_all none_given 2 (drop 2 words)) else None

-- its files are those of a run, and that of conditions
abbrev pub run_of : Search → Job
run_of s = Run s.run

abbrev pub runs_of : Option Search → Option Job
runs_of o = option_map run_of o

abbrev pub condition_of : Option Search → Option ℕ
condition_of None = None
condition_of (Some s) = s.condition
