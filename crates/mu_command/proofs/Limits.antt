-- The words of a run ask for no more steps and cells than they may.
use Rattle.std.proofs.Common.{◌≡◌, ℕ, ◌+◌, ◌-◌, ◌*◌, ◌≤◌, Bool, true, false, ◌&&◌, nat_eq, nat_le, List, [], ◌∷◌, length, drop, Option, Some, None, if◌then◌else◌, refl, subst, arith}
use Rattle.std.specs.Prelude.{IfSome, codes, bytes_eq}
use Rattle.std.specs.Option.{unwrap_or, option_map, option_and_then}
use Rattle.std.proofs.lemmas.Bool.{and_parts}
use Rattle.std.proofs.lemmas.Bool.Decides.{nat_tests}
use Rattle.mem_axioms.specs.declared.types.Rule.{Rule}
use Rattle.mem_axioms.specs.declared.types.Rule.TheVariants as Rules
use Rattle.mu_command.specs.declared.job.Job.TheVariants.{Check, Print, Run, Trial, Judge, Join}
use Rattle.mu_command.specs.declared.job.RunJob.{RunJob}
use Rattle.mu_command.specs.declared.options.Options.{Options}
use Rattle.mu_command.specs.Job.{digits_up_to, given_once, is_digit, is_word, job_of, join_of, judge_with, most_bundles, most_cells, most_steps, no_options, number_up_to, pairs_asked, rule_named, run_with, usual_cells, usual_steps, with_all, with_auto, with_cells, with_client, with_entry, with_hail, with_option, with_rule, with_schedule, with_steps, word}

digits_few : (limit n m : ℕ) (bs : List ℕ) → n ≤ limit → digits_up_to limit n bs ≡ Some m → m ≤ limit
digits_few limit n m [] l h = let same : n ≡ m = cc in omega (arith, l, same)
digits_few limit n m (b ∷ bs) l h = by (is_digit b && nat_le (10 * n + (b - 48)) limit) refl h (λ k. digits_few limit (10 * n + (b - 48)) m bs k)
  where
    low : nat_le (10 * n + (b - 48)) limit ≡ true → 10 * n + (b - 48) ≤ limit
    low e = grind (arith, nat_tests)

    by : (t : Bool) → (is_digit b && nat_le (10 * n + (b - 48)) limit) ≡ t → (if t then digits_up_to limit (10 * n + (b - 48)) bs else None) ≡ Some m → (10 * n + (b - 48) ≤ limit → digits_up_to limit (10 * n + (b - 48)) bs ≡ Some m → m ≤ limit) → m ≤ limit
    by true e k rest = rest (low (and_parts (is_digit b) (nat_le (10 * n + (b - 48)) limit) e).1) k
    by false e k rest = cc

number_few : (limit m : ℕ) (text : List ℕ) → number_up_to limit text ≡ Some m → m ≤ limit
number_few limit m text h = by (nat_le 1 (length text) && nat_le (length text) 10) h
  where
    by : (t : Bool) → (if t then digits_up_to limit 0 text else None) ≡ Some m → m ≤ limit
    by true k = digits_few limit 0 m text (omega arith) k
    by false k = cc

-- ---- options

abbrev Few : Options → Type 0
Few o = IfSome o.steps (λ n. n ≤ most_steps) × IfSome o.cells (λ n. n ≤ most_cells)

mapped : {A : Type 0} (f : A → Options) (v : Option A) (more : Options) → ((a : A) → v ≡ Some a → Few (f a)) → option_map f v ≡ Some more → Few more
mapped f None more few h = cc
mapped f (Some a) more few h = let same : f a ≡ more = cc in subst Few same (few a refl)

once : {A : Type 0} (o v : Option A) (a : A) → given_once o v ≡ Some a → v ≡ Some a
once None v a h = h
once (Some x) v a h = cc

module _ (o : Options) (few : Few o) where
  auto_few : (more : Options) → with_auto o ≡ Some more → Few more
  auto_few more h = by o.auto h
    where
      by : (t : Bool) → (if t then None else Some (record o { auto = true })) ≡ Some more → Few more
      by true k = cc
      by false k = let same : record o { auto = true } ≡ more = cc in subst Few same few

  option_few : (name : List ℕ) (n : ℕ) (value : List ℕ) (more : Options) → with_option o name n value ≡ Some more → Few more
  option_few name n value more h =
      by (bytes_eq name (codes "--entry")) (bytes_eq name (codes "--steps")) (bytes_eq name (codes "--cells")) (bytes_eq name (codes "--hail")) (bytes_eq name (codes "--client")) (bytes_eq name (codes "--schedule")) (bytes_eq name (codes "--release-sequences")) h
    where
      by : (a b c d e f g : Bool) →
          (if a then with_entry o (Some n)
          else (if b then with_steps o (number_up_to most_steps value)
          else (if c then with_cells o (number_up_to most_cells value)
          else (if d then with_hail o (Some n)
          else (if e then with_client o (Some n)
          else (if f then with_schedule o (Some n)
          else (if g then with_rule o (rule_named value) else None))))))) ≡ Some more → Few more
      by true b c d e f g k = mapped (λ n. record o { entry = Some n }) (given_once o.entry (Some n)) more (λ a q. few) k
      by false true c d e f g k =
          mapped (λ n. record o { steps = Some n }) (given_once o.steps (number_up_to most_steps value)) more (λ a q. (number_few most_steps a value (once o.steps (number_up_to most_steps value) a q), few.1)) k
      by false false true d e f g k =
          mapped (λ n. record o { cells = Some n }) (given_once o.cells (number_up_to most_cells value)) more (λ a q. (few.0, number_few most_cells a value (once o.cells (number_up_to most_cells value) a q))) k
      by false false false true e f g k = mapped (λ n. record o { hail = Some n }) (given_once o.hail (Some n)) more (λ a q. few) k
      by false false false false true f g k = mapped (λ n. record o { client = Some n }) (given_once o.client (Some n)) more (λ a q. few) k
      by false false false false false true g k = mapped (λ n. record o { schedule = Some n }) (given_once o.schedule (Some n)) more (λ a q. few) k
      by false false false false false false true k = mapped (λ rule. record o { rule = Some rule }) (given_once o.rule (rule_named value)) more (λ a q. few) k
      by false false false false false false false k = cc

inside : (f : Options → Option Options) (o : Option Options) (more : Options) → option_and_then f o ≡ Some more → (x : Options) × (o ≡ Some x) × (f x ≡ Some more)
inside f None more h = cc
inside f (Some x) more h = (x, refl, h)

all_few : (o : Options) (n : ℕ) (words : List (List ℕ)) (more : Options) → Few o → with_all o n words ≡ Some more → Few more
all_few o n [] more few h = let same : o ≡ more = cc in subst Few same few
all_few o n (name ∷ []) more few h = by (bytes_eq name (codes "--auto")) h
  where
    by : (t : Bool) → (if t then with_auto o else None) ≡ Some more → Few more
    by true k = auto_few o few more k
    by false k = cc
all_few o n (name ∷ value ∷ words) more few h = by (bytes_eq name (codes "--auto")) h (λ x k q. all_few x (n + 1) (value ∷ words) more k q) (λ x k q. all_few x (n + 2) words more k q)
  where
    by : (t : Bool) → (if t then option_and_then (λ more. with_all more (n + 1) (value ∷ words)) (with_auto o) else option_and_then (λ more. with_all more (n + 2) words) (with_option o name (n + 1) value)) ≡ Some more →
        ((x : Options) → Few x → with_all x (n + 1) (value ∷ words) ≡ Some more → Few more) → ((x : Options) → Few x → with_all x (n + 2) words ≡ Some more → Few more) → Few more
    by true k one two = let r = inside (λ more. with_all more (n + 1) (value ∷ words)) (with_auto o) more k in one r.0 (auto_few o few r.0 r.1) r.2
    by false k one two = let r = inside (λ more. with_all more (n + 2) words) (with_option o name (n + 1) value) more k in two r.0 (option_few o few name (n + 1) value r.0 r.1) r.2

-- ---- jobs

unwrapped : (o : Option ℕ) (usual most : ℕ) → usual ≤ most → IfSome o (λ n. n ≤ most) → unwrap_or o usual ≤ most
unwrapped None usual most l h = l
unwrapped (Some n) usual most l h = h

AsksLittle : RunJob → Type 0
AsksLittle r = (r.budget ≤ most_steps) × (r.cells ≤ most_cells)

run_few : (o : Option Options) (r : RunJob) → ((x : Options) → o ≡ Some x → Few x) → option_and_then run_with o ≡ Some (Run r) → AsksLittle r
unfolding AsksLittle
run_few None r few h = cc
run_few (Some x) r few h = by x.entry h
  where
    job : ℕ → RunJob
    job entry = record { file = 1; entry = entry; hail = x.hail; client = x.client; auto = x.auto; schedule = x.schedule; rule = unwrap_or x.rule Rules.C11; budget = unwrap_or x.steps usual_steps; cells = unwrap_or x.cells usual_cells }

    by : (e : Option ℕ) → option_map (λ entry. Run (job entry)) e ≡ Some (Run r) → AsksLittle r
    by None k = cc
    by (Some entry) k =
        let same : job entry ≡ r = cc in
        subst AsksLittle same (unwrapped x.steps usual_steps most_steps (omega arith) (few x refl).0, unwrapped x.cells usual_cells most_cells (omega arith) (few x refl).1)

named_no_run : (r : RunJob) (t : Bool) (rule : Option Rule) → (if t then option_map (Judge 1) rule else None) ≡ Some (Run r) → ⊥
named_no_run r true None h = cc
named_no_run r true (Some rule) h = cc
named_no_run r false rule h = cc

judge_no_run : (r : RunJob) (more : List (List ℕ)) → judge_with more ≡ Some (Run r) → ⊥
judge_no_run r [] h = cc
judge_no_run r (name ∷ []) h = cc
judge_no_run r (name ∷ value ∷ []) h = named_no_run r (bytes_eq name (codes "--release-sequences")) (rule_named value) h
judge_no_run r (name ∷ value ∷ next ∷ more) h = cc

pub words_few : (words : List (List ℕ)) (r : RunJob) → job_of words ≡ Some (Run r) → (r.budget ≤ most_steps) × (r.cells ≤ most_cells)
unfolding job_of AsksLittle
words_few words r h =
    by (nat_eq (length words) 2 && is_word words 0 (codes "check")) (nat_eq (length words) 2 && is_word words 0 (codes "print")) (nat_eq (length words) 2 && is_word words 0 (codes "trial")) (nat_le 2 (length words) && is_word words 0 (codes "run"))
    (nat_le 2 (length words) && is_word words 0 (codes "judge")) (nat_le 2 (length words) && is_word words 0 (codes "join")) h
  where
    trial : (o : Option ℕ) → option_map Trial o ≡ Some (Run r) → AsksLittle r
    trial None k = cc
    trial (Some n) k = cc

    join : (t : Bool) → (if t then Some (Join 1 (length words - 1)) else None) ≡ Some (Run r) → AsksLittle r
    join true k = cc
    join false k = cc

    by : (a b c d e f : Bool) →
        (if a then Some (Check 1)
        else (if b then Some (Print 1)
        else (if c then option_map Trial (pairs_asked (word words 1))
        else (if d then option_and_then run_with (with_all no_options 2 (drop 2 words))
        else (if e then judge_with (drop 2 words)
        else (if f then join_of (length words) else None)))))) ≡ Some (Run r) → AsksLittle r
    by true b c d e f k = cc
    by false true c d e f k = cc
    by false false true d e f k = trial (pairs_asked (word words 1)) k
    by false false false true e f k = run_few (with_all no_options 2 (drop 2 words)) r (λ x e. all_few no_options 2 (drop 2 words) x (tt, tt) e) k
    by false false false false true f k = absurd (judge_no_run r (drop 2 words) k)
    by false false false false false true k = join (nat_le (length words) (1 + most_bundles)) k
    by false false false false false false k = cc
