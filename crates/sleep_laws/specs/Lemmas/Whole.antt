-- Sleep sets lose no outcome.
use Rattle.std.specs.Prelude.{◌≡◌, ◌+◌, ◌≤◌, ℕ, suc, List, [], Option, Some, refl}
use Rattle.std.proofs.Common.{sym, ◌∙◌, arith}
use Rattle.typed_heap.specs.Objects.{HeapObject}
use Rattle.mu_model.specs.Configuration.{Configuration}
use Rattle.mu_model.specs.Acts.{Program}
use Rattle.mu_model.specs.Run.{Run, Ends, Breaks, Unfinished}
use Rattle.odometer.specs.Trees.{leaf}
use Rattle.seen_runs.specs.Seen.{seen_of}
use Rattle.local_laws.specs.LocalSteps.{local_tree}
use Rattle.sleep_moves.specs.Moves.{sleeps}
use Rattle.sleep_laws.specs.Fits.{plain, Fits}
use Rattle.sleep_laws.specs.SleepTree.{sleep_tree}
use Rattle.sleep_laws.specs.Lemmas.Searches.{sleep-sets-lose-nothing}
use Rattle.sleep_laws.specs.Lemmas.Places.{At, settled, over, place_moves, move_step, place_apart, GoodAt, LikeAt}
use Rattle.sleep_laws.specs.Lemmas.Behaving.{behaves}
use Rattle.sleep_laws.specs.Lemmas.Diamonds.{settled_good, keeps, diamond}
use Rattle.sleep_laws.specs.Lemmas.Runs.{seen_with, runs_from}
use Rattle.sleep_laws.specs.Lemmas.Finding.{finds_from}
use Rattle.sleep_laws.specs.Lemmas.Same.{among}

with_none : (globals : ℕ) (os : List HeapObject) (r : Run) → seen_with globals os [] r ≡ seen_of globals os r
with_none globals os (Ends steps xs e) = refl
with_none globals os Breaks = refl
with_none globals os Unfinished = refl

module _ (p : Program) (Fit : Configuration → Type 0) (fits : Fits p Fit) (globals : ℕ) (os : List HeapObject) (n : ℕ) (c : Configuration) (count : c.steps + n ≡ suc c.budget) (few : c.steps ≤ c.budget) (fit : Fit c) where
  pub lose_nothing : (numbers : List ℕ) → (found : List ℕ) × (r : Run) × (leaf (sleep_tree p n c []) found ≡ Some r) × (seen_of globals os r ≡ seen_of globals os (leaf (local_tree p n c) numbers))
  lose_nothing numbers =
      let much : c.budget ≤ c.steps + c.budget = omega arith in
      let least : c.budget ≤ c.budget = omega arith in
      let run = runs_from p globals os c.budget Fit fits n c [] numbers c.budget count few fit much least in
      let good : GoodAt p Fit (settled p globals os c.budget (At (plain c) [])) = settled_good p globals os c.budget Fit fits c.budget (plain c) [] (λ room. fits.alone c fit) in
      let found = sleep-sets-lose-nothing (over p globals os) (place_moves p globals os) (move_step p globals os c.budget) (place_apart p globals os) sleeps (GoodAt p Fit) LikeAt
      (keeps p globals os c.budget Fit fits) (behaves p globals os c.budget Fit fits) (diamond p globals os c.budget Fit fits) among
      (settled p globals os c.budget (At (plain c) [])) good run.0 (seen_with globals os [] (leaf (local_tree p n c) numbers)) run.1 in
      let s = finds_from p globals os c.budget Fit fits n c [] [] (seen_with globals os [] (leaf (local_tree p n c) numbers)) c.budget count few fit much least found in
      (s.numbers, s.run, s.is, sym (with_none globals os s.run) ∙ s.says ∙ with_none globals os (leaf (local_tree p n c) numbers))
