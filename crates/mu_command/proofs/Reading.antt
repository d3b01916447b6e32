-- The options of a run, read one by one.
use Rattle.std.proofs.Common.{◌≡◌, ◌∙◌, ℕ, ◌+◌, ◌<◌, ◌≤◌, List, [], ◌∷◌, length, drop, true, false, refl, ap, arith, Option, Some, None}
use Rattle.std.specs.Prelude.{Bool, IfSome, bytes_eq, codes, if◌then◌else◌}
use Rattle.std.specs.Option.{option_and_then, option_map}
use Rattle.std.proofs.lemmas.List.{drop_more, drop_all}
use Rattle.mem_axioms.specs.declared.types.Rule.TheVariants.{C11}
use Rattle.mu_command.specs.declared.job.Job.TheVariants.{Judge}
use Rattle.mu_command.specs.declared.options.Options.{Options}
use Rattle.mu_command.specs.Job.{word, with_option, with_auto, with_all, judge_with, rule_named, OptionsAreThere}

-- whether a name is that of the option without a value
abbrev is_auto : List ℕ → Bool
is_auto name = bytes_eq name (codes "--auto")

-- a name with a value, and then those behind them
with_value : (options : Options) (n : ℕ) (name value : List ℕ) (words : List (List ℕ)) → is_auto name ≡ false →
    with_all options n (name ∷ value ∷ words) ≡ option_and_then (λ more. with_all more (n + 2) words) (with_option options name (n + 1) value)
with_value options n name value words other = rw other refl

without_value : (options : Options) (n : ℕ) (name : List ℕ) → is_auto name ≡ false → with_all options n (name ∷ []) ≡ None
without_value options n name other = rw other refl

-- `--auto`, and then those behind it
same_again : (o : Option Options) → o ≡ option_and_then (λ more. Some more) o
same_again None = refl
same_again (Some options) = refl

behind_auto : (options : Options) (n : ℕ) (name : List ℕ) (words : List (List ℕ)) → is_auto name ≡ true →
    with_all options n (name ∷ words) ≡ option_and_then (λ more. with_all more (n + 1) words) (with_auto options)
behind_auto options n name [] auto = rw auto (same_again (with_auto options))
behind_auto options n name (value ∷ words) auto = rw auto refl

module _ (words : List (List ℕ)) (options : Options) (n : ℕ) where
  first : n < length words → drop n words ≡ word words n ∷ drop (n + 1) words
  first there = drop_more words n [] there

  left : n + 1 < length words → drop n words ≡ word words n ∷ word words (n + 1) ∷ drop (n + 2) words
  left there =
      let two : drop (n + 1) words ≡ word words (n + 1) ∷ drop (n + 1 + 1) words = drop_more words (n + 1) [] there in
      let same : n + 1 + 1 ≡ n + 2 = omega arith in
      first (omega (arith, there)) ∙ ap (λ (ws : List (List ℕ)). word words n ∷ ws) two ∙ ap (λ (k : ℕ). word words n ∷ word words (n + 1) ∷ drop k words) same

  -- the option at n, and then those behind it
  at : n + 1 < length words → is_auto (word words n) ≡ false → with_all options n (drop n words) ≡
      option_and_then (λ more. with_all more (n + 2) (drop (n + 2) words)) (with_option options (word words n) (n + 1) (word words (n + 1)))
  at there other = ap (with_all options n) (left there) ∙ with_value options n (word words n) (word words (n + 1)) (drop (n + 2) words) other

  at_auto : n < length words → is_auto (word words n) ≡ true → with_all options n (drop n words) ≡
      option_and_then (λ more. with_all more (n + 1) (drop (n + 1) words)) (with_auto options)
  at_auto there auto = ap (with_all options n) (first there) ∙ behind_auto options n (word words n) (drop (n + 1) words) auto

  -- one more option was read
  pub one_more : (more : Options) → n + 1 < length words → is_auto (word words n) ≡ false → with_option options (word words n) (n + 1) (word words (n + 1)) ≡ Some more →
      with_all options n (drop n words) ≡ with_all more (n + 2) (drop (n + 2) words)
  one_more more there other is = at there other ∙ ap (option_and_then (λ more. with_all more (n + 2) (drop (n + 2) words))) is

  pub auto_more : (more : Options) → n < length words → is_auto (word words n) ≡ true → with_auto options ≡ Some more → with_all options n (drop n words) ≡ with_all more (n + 1) (drop (n + 1) words)
  auto_more more there auto is = at_auto there auto ∙ ap (option_and_then (λ more. with_all more (n + 1) (drop (n + 1) words))) is

  -- a word that is no option, or not there again
  pub no_more : n + 1 < length words → is_auto (word words n) ≡ false → with_option options (word words n) (n + 1) (word words (n + 1)) ≡ None → with_all options n (drop n words) ≡ None
  no_more there other is = at there other ∙ ap (option_and_then (λ more. with_all more (n + 2) (drop (n + 2) words))) is

  pub no_auto : n < length words → is_auto (word words n) ≡ true → with_auto options ≡ None → with_all options n (drop n words) ≡ None
  no_auto there auto is = at_auto there auto ∙ ap (option_and_then (λ more. with_all more (n + 1) (drop (n + 1) words))) is

  -- a name without a value
  pub no_value : n + 1 ≡ length words → is_auto (word words n) ≡ false → with_all options n (drop n words) ≡ None
  no_value last other =
      let none : drop (n + 1) words ≡ [] = drop_all (n + 1) words (omega (arith, last)) in
      ap (with_all options n) (first (omega (arith, last)) ∙ ap (λ (ws : List (List ℕ)). word words n ∷ ws) none) ∙ without_value options n (word words n) other

  -- all words were read
  pub no_word : length words ≤ n → with_all options n (drop n words) ≡ Some options
  no_word past = ap (with_all options n) (drop_all n words past)

-- the words of a log that is judged
pub judge_plain : (words : List (List ℕ)) → length words ≡ 2 → judge_with (drop 2 words) ≡ Some (Judge 1 C11)
judge_plain words h = ap judge_with (drop_all 2 words (omega arith))

judge_words : (words : List (List ℕ)) → length words ≡ 4 → drop 2 words ≡ word words 2 ∷ word words 3 ∷ []
judge_words words h =
    let two : drop 2 words ≡ word words 2 ∷ drop 3 words = drop_more words 2 [] (omega arith) in
    let three : drop 3 words ≡ word words 3 ∷ drop 4 words = drop_more words 3 [] (omega arith) in
    let none : drop 4 words ≡ [] = drop_all 4 words (omega arith) in
    two ∙ ap (λ (ws : List (List ℕ)). word words 2 ∷ ws) (three ∙ ap (λ (ws : List (List ℕ)). word words 3 ∷ ws) none)

pub judge_named : (words : List (List ℕ)) → length words ≡ 4 → bytes_eq (word words 2) (codes "--release-sequences") ≡ true → judge_with (drop 2 words) ≡ option_map (Judge 1) (rule_named (word words 3))
judge_named words h e = ap judge_with (judge_words words h) ∙ rw e refl

pub judge_other : (words : List (List ℕ)) → length words ≡ 4 → bytes_eq (word words 2) (codes "--release-sequences") ≡ false → judge_with (drop 2 words) ≡ None
judge_other words h e = ap judge_with (judge_words words h) ∙ rw e refl

pub judge_none : (words : List (List ℕ)) → 2 ≤ length words → (length words ≡ 2 → ⊥) → (length words ≡ 4 → ⊥) → judge_with (drop 2 words) ≡ None
judge_none [] l a b = absurd (omega arith)
judge_none (x ∷ []) l a b = absurd (omega arith)
judge_none (x ∷ file ∷ []) l a b = absurd (a refl)
judge_none (x ∷ file ∷ name ∷ []) l a b = refl
judge_none (x ∷ file ∷ name ∷ value ∷ []) l a b = absurd (b refl)
judge_none (x ∷ file ∷ name ∷ value ∷ next ∷ more) l a b = refl

-- the words of the options are there as before
pub auto_there : (count : ℕ) (options : Options) (o : Option Options) → OptionsAreThere count options → o ≡ with_auto options → IfSome o (OptionsAreThere count)
auto_there count options o there e = rw e (so options.auto)
  where
    so : (there : Bool) → IfSome (if there then None else Some (record options { auto = true })) (OptionsAreThere count)
    so true = tt
    so false = record { entry = there.entry; hail = there.hail; client = there.client; schedule = there.schedule; steps = there.steps }

pub ruleset reading = (one_more, auto_more, no_more, no_auto, no_value, no_word, auto_there)

pub ruleset judging_words = (judge_plain, judge_named, judge_other, judge_none)
