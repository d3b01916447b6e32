-- The options of a search, read one by one.
use Rattle.std.proofs.Common.{◌≡◌, ◌∙◌, ℕ, ◌+◌, ◌<◌, ◌≤◌, List, [], ◌∷◌, length, drop, true, false, refl, sym, ap, subst, arith, Option, Some, None}
use Rattle.std.specs.Prelude.{Bool, IfSome, bytes_eq, codes, if◌then◌else◌}
use Rattle.std.specs.Option.{option_and_then, option_map, unwrap_or}
use Rattle.std.proofs.lemmas.List.{drop_more, drop_all}
use Rattle.mu_command.specs.declared.options.Options.{Options}
use Rattle.mu_command.specs.Job.{word, given_once, most_steps, with_auto as run_with_auto, OptionsAreThere}
use Rattle.explore.specs.declared.options.SearchOptions.{SearchOptions}
use Rattle.explore.specs.declared.search.Search.{Search}
use Rattle.explore.specs.Asked.{usual_steps, with_runs, with_condition, with_run, with_option, with_auto, with_all, search_from, search_with}
use Rattle.explore.specs.Reading.{SearchIsThere, SearchOptionsAreThere}

-- whether a name is that of the option without a value
abbrev is_auto : List ℕ → Bool
is_auto name = bytes_eq name (codes "--auto")

-- a name with a value, and then those after them
with_value : (options : SearchOptions) (n : ℕ) (name value : List ℕ) (words : List (List ℕ)) → is_auto name ≡ false →
    with_all options n (name ∷ value ∷ words) ≡ option_and_then (λ more. with_all more (n + 2) words) (with_option options name (n + 1) value)
with_value options n name value words other = rw other refl

without_value : (options : SearchOptions) (n : ℕ) (name : List ℕ) → is_auto name ≡ false → with_all options n (name ∷ []) ≡ None
without_value options n name other = rw other refl

-- `--auto`, and then those after it
same_again : (o : Option SearchOptions) → o ≡ option_and_then (λ more. Some more) o
same_again None = refl
same_again (Some options) = refl

behind_auto : (options : SearchOptions) (n : ℕ) (name : List ℕ) (words : List (List ℕ)) → is_auto name ≡ true →
    with_all options n (name ∷ words) ≡ option_and_then (λ more. with_all more (n + 1) words) (with_auto options)
behind_auto options n name [] auto = rw auto (same_again (with_auto options))
behind_auto options n name (value ∷ words) auto = rw auto refl

module _ (words : List (List ℕ)) (options : SearchOptions) (n : ℕ) where
  first : n < length words → drop n words ≡ word words n ∷ drop (n + 1) words
  first there = drop_more words n [] there

  left : n + 1 < length words → drop n words ≡ word words n ∷ word words (n + 1) ∷ drop (n + 2) words
  left there =
      let two : drop (n + 1) words ≡ word words (n + 1) ∷ drop (n + 1 + 1) words = drop_more words (n + 1) [] there in
      let same : n + 1 + 1 ≡ n + 2 = omega arith in
      first (omega (arith, there)) ∙ ap (λ (ws : List (List ℕ)). word words n ∷ ws) two ∙ ap (λ (k : ℕ). word words n ∷ word words (n + 1) ∷ drop k words) same

  -- the option at n, and then those behind it
  at : n + 1 < length words → is_auto (word words n) ≡ false → with_all options n (drop n words) ≡
      option_and_then (λ more. with_all more (n + 2) (drop (n + 2) words)) (with_option options (word words n) (n + 1) (word words (n + 1)))
  at there other = ap (with_all options n) (left there) ∙ with_value options n (word words n) (word words (n + 1)) (drop (n + 2) words) other

  at_auto : n < length words → is_auto (word words n) ≡ true → with_all options n (drop n words) ≡
      option_and_then (λ more. with_all more (n + 1) (drop (n + 1) words)) (with_auto options)
  at_auto there auto = ap (with_all options n) (first there) ∙ behind_auto options n (word words n) (drop (n + 1) words) auto

  -- one more option was read
  pub one_more : (more : SearchOptions) → n + 1 < length words → is_auto (word words n) ≡ false → with_option options (word words n) (n + 1) (word words (n + 1)) ≡ Some more →
      with_all options n (drop n words) ≡ with_all more (n + 2) (drop (n + 2) words)
  one_more more there other is = at there other ∙ ap (option_and_then (λ more. with_all more (n + 2) (drop (n + 2) words))) is

  pub auto_more : (more : SearchOptions) → n < length words → is_auto (word words n) ≡ true → with_auto options ≡ Some more → with_all options n (drop n words) ≡ with_all more (n + 1) (drop (n + 1) words)
  auto_more more there auto is = at_auto there auto ∙ ap (option_and_then (λ more. with_all more (n + 1) (drop (n + 1) words))) is

  -- a word that is no option, or not there again
  pub no_more : n + 1 < length words → is_auto (word words n) ≡ false → with_option options (word words n) (n + 1) (word words (n + 1)) ≡ None → with_all options n (drop n words) ≡ None
  no_more there other is = at there other ∙ ap (option_and_then (λ more. with_all more (n + 2) (drop (n + 2) words))) is

  pub no_auto : n < length words → is_auto (word words n) ≡ true → with_auto options ≡ None → with_all options n (drop n words) ≡ None
  no_auto there auto is = at_auto there auto ∙ ap (option_and_then (λ more. with_all more (n + 1) (drop (n + 1) words))) is

  -- a name without a value
  pub no_value : n + 1 ≡ length words → is_auto (word words n) ≡ false → with_all options n (drop n words) ≡ None
  no_value last other =
      let none : drop (n + 1) words ≡ [] = drop_all (n + 1) words (omega (arith, last)) in
      ap (with_all options n) (first (omega (arith, last)) ∙ ap (λ (ws : List (List ℕ)). word words n ∷ ws) none) ∙ without_value options n (word words n) other

  -- all words were read
  pub no_word : length words ≤ n → with_all options n (drop n words) ≡ Some options
  no_word past = ap (with_all options n) (drop_all n words past)

-- the words of the options are there as before
auto_so : (count : ℕ) (options : Options) → OptionsAreThere count options → IfSome (run_with_auto options) (OptionsAreThere count)
auto_so count options there = so options.auto
  where
    so : (given : Bool) → IfSome (if given then None else Some (record options { auto = true })) (OptionsAreThere count)
    so true = tt
    so false = record { entry = there.entry; hail = there.hail; client = there.client; schedule = there.schedule; steps = there.steps }

pub mapped_there : (count : ℕ) (options : SearchOptions) (o : Option Options) → IfSome options.condition (λ n. n < count) → IfSome o (OptionsAreThere count) → IfSome (with_run options o) (SearchOptionsAreThere count)
mapped_there count options None c h = tt
mapped_there count options (Some run) c h = record { run = h; condition = c }

pub auto_there : (count : ℕ) (options : SearchOptions) (o : Option SearchOptions) → SearchOptionsAreThere count options → o ≡ with_auto options → IfSome o (SearchOptionsAreThere count)
auto_there count options o there e =
    subst (λ (o : Option SearchOptions). IfSome o (SearchOptionsAreThere count)) (sym e) (mapped_there count options (run_with_auto options.run) there.condition (auto_so count options.run there.run))

pub run_there : (count : ℕ) (options : SearchOptions) (o : Option Options) (r : Option SearchOptions) → SearchOptionsAreThere count options → IfSome o (OptionsAreThere count) → r ≡ with_run options o → IfSome r (SearchOptionsAreThere count)
run_there count options o r there h e = subst (λ (r : Option SearchOptions). IfSome r (SearchOptionsAreThere count)) (sym e) (mapped_there count options o there.condition h)

pub runs_there : (count : ℕ) (options : SearchOptions) (value : Option ℕ) (r : Option SearchOptions) → SearchOptionsAreThere count options → r ≡ with_runs options value → IfSome r (SearchOptionsAreThere count)
runs_there count options value r there e = subst (λ (r : Option SearchOptions). IfSome r (SearchOptionsAreThere count)) (sym e) (by (given_once options.runs value))
  where
    by : (o : Option ℕ) → IfSome (option_map (λ (n : ℕ). record options { runs = Some n }) o) (SearchOptionsAreThere count)
    by None = tt
    by (Some n) = record { run = there.run; condition = there.condition }

pub condition_there : (count : ℕ) (options : SearchOptions) (n : ℕ) (r : Option SearchOptions) → SearchOptionsAreThere count options → n < count → r ≡ with_condition options (Some n) → IfSome r (SearchOptionsAreThere count)
condition_there count options n r there low e = subst (λ (r : Option SearchOptions). IfSome r (SearchOptionsAreThere count)) (sym e) (by options.condition)
  where
    by : (o : Option ℕ) → IfSome (option_map (λ (n : ℕ). record options { condition = Some n }) (given_once o (Some n))) (SearchOptionsAreThere count)
    by None = record { run = there.run; condition = low }
    by (Some m) = tt

-- so are those of the search
few_steps : (o : Option ℕ) → IfSome o (λ n. n ≤ most_steps) → unwrap_or o usual_steps ≤ most_steps
few_steps None h = omega arith
few_steps (Some n) h = h

pub search_there : (count : ℕ) (options : SearchOptions) (r : Option Search) → 2 ≤ count → SearchOptionsAreThere count options → r ≡ search_with options → IfSome r (SearchIsThere count)
search_there count options r two there e = subst (λ (r : Option Search). IfSome r (SearchIsThere count)) (sym e) (by options.run.entry there.run.entry)
  where
    by : (o : Option ℕ) → IfSome o (λ n. n < count) → IfSome (option_map (search_from options) o) (SearchIsThere count)
    by None h = tt
    by (Some n) h = record { run = record { file = omega (arith, two); entry = h; hail = there.run.hail; client = there.run.client; schedule = tt; budget = few_steps options.run.steps there.run.steps }; schedule = refl; condition = there.condition }

pub ruleset adding = (run_there, runs_there, condition_there)

pub ruleset asking = (search_there)

pub ruleset reading = (one_more, auto_more, no_more, no_auto, no_value, no_word, auto_there)
