-- The options of what is wanted, by the positions that may be read.
use Rattle.std.proofs.Common.{◌≡◌, ℕ, zero, suc, ◌+◌, ◌-◌, ◌<◌, ◌≤◌, Bool, true, false, ◌&&◌, if◌then◌else◌, Option, Some, None, List, [], ◌∷◌, ◌++◌, length, filter, map, slice_get, refl, sym, ap, ◌∙◌, arith}
use Rattle.std.proofs.lemmas.List.{length-map}
use Rattle.mu_base.specs.declared.order.Order.{Order}
use Rattle.mu_values.specs.declared.scalars.Scalar.{Scalar}
use Rattle.mu_values.specs.declared.cells.CellId.{CellId}
use Rattle.mem_axioms.specs.Logs.{newest}
use Rattle.mem_axioms.specs.Axioms.{meets_axioms}
use Rattle.mem_axioms.specs.PassedOver.{may_read}
use Rattle.mem_axioms.specs.Choices.{read_at, is_option, options, chosen_at, holds, choices}
use Rattle.mem_axioms.specs.Reads.{is_kept, reads, excluded_by, below}
use Rattle.mem_axioms.specs.declared.types.Rule.{Rule}
use Rattle.mem_axioms.specs.declared.types.Event.{Event}
use Rattle.mem_axioms.specs.declared.types.Chosen.{Chosen}
use Rattle.mem_axioms.specs.declared.types.Wanted.TheVariants.{Load, Swap, Compare}
use Rattle.mem_axioms.specs.Lemmas.Kept.{newest-allowed, read-fits}
use Rattle.mem_axioms.specs.Lemmas.Passing.{may_read-is}
use Rattle.mem_axioms.specs.Lemmas.Downward.{down_from-below, filter-below}

filter-all : {X : Type 0} (xs : List X) → filter (λ x. true) xs ≡ xs
filter-all [] = refl
filter-all (x ∷ xs) = ap (λ ys. x ∷ ys) (filter-all xs)

one_on : (first : Chosen) (rest : List Chosen) (n : ℕ) → 0 < n → slice_get (first ∷ rest) n ≡ slice_get rest (n - 1)
one_on first rest zero h = absurd (omega arith)
one_on first rest (suc n) h = let p : suc n - 1 ≡ n = omega arith in rw p

module _ (rule : Rule) (initial : CellId → Scalar) (log : List Event) (thread : ℕ) (cell : CellId) where
  -- a position that may be read
  abbrev pub may_take : Order → Option Scalar → ℕ → Bool
  may_take order excluded position = is_option rule initial log thread cell order position && is_kept initial log cell excluded position

  pub reads-below : (order : Order) (excluded : Option Scalar) → reads rule initial log thread cell order excluded ≡ below (may_take order excluded) (suc (newest log cell))
  unfolding options
  reads-below order excluded =
      ap (filter (is_kept initial log cell excluded)) (down_from-below (is_option rule initial log thread cell order) (newest log cell))
      ∙ filter-below (is_option rule initial log thread cell order) (is_kept initial log cell excluded) (suc (newest log cell))

  pub reads-at : (order : Order) (excluded : Option Scalar) (n : ℕ) → n ≡ suc (newest log cell) → reads rule initial log thread cell order excluded ≡ below (may_take order excluded) n
  reads-at order excluded n h = reads-below order excluded ∙ ap (below (may_take order excluded)) (sym h)

  -- the test of a read is that of an option
  pub option-is : (order : Order) (position : ℕ) → meets_axioms rule initial log ≡ true → position ≤ newest log cell → may_read rule log (read_at initial log thread cell order position) ≡ is_option rule initial log thread cell order position
  option-is order position m h = may_read-is rule initial log (read_at initial log thread cell order position) refl m (read-fits initial log thread cell order position h)

  pub choices-load : (order : Order) → choices rule initial log thread cell (Load order) ≡ map (chosen_at initial log cell false) (reads rule initial log thread cell order None)
  unfolding choices
  choices-load order = ap (map (chosen_at initial log cell false)) (sym (filter-all (options rule initial log thread cell order)))

  pub choices-swap : choices rule initial log thread cell Swap ≡ chosen_at initial log cell true (newest log cell) ∷ []
  unfolding choices
  choices-swap = refl

  -- the success of a comparison, if it is one
  abbrev pub success_of : Scalar → List Chosen
  success_of expected = if holds initial log cell expected (newest log cell) then chosen_at initial log cell true (newest log cell) ∷ [] else []

  pub choices-compare : (success failure : Order) (expected : Scalar) (weak : Bool) → choices rule initial log thread cell (Compare success failure expected weak)
      ≡ success_of expected ++ map (chosen_at initial log cell false) (reads rule initial log thread cell failure (excluded_by weak expected))
  unfolding choices
  choices-compare success failure expected true = refl
  choices-compare success failure expected false = refl

  -- the newest position may be read, save where its value is excluded
  module _ (m : meets_axioms rule initial log ≡ true) where
    newest-first : (order : Order) (excluded : Option Scalar) → is_kept initial log cell excluded (newest log cell) ≡ true → 1 ≤ length (reads rule initial log thread cell order excluded)
    newest-first order excluded k =
        let p = reads-below order excluded in
        let q : may_take order excluded (newest log cell) ≡ true = rw (newest-allowed rule initial log thread cell order m, k) in
        let r : length (below (may_take order excluded) (suc (newest log cell))) ≡ suc (length (below (may_take order excluded) (newest log cell))) = rw (q, below) in
        let s = ap (λ xs. length xs) p in
        omega (arith, r, s)

    pub some-load : (order : Order) → 1 ≤ length (reads rule initial log thread cell order None)
    some-load order = newest-first order None refl

    pub some-compare : (failure : Order) (expected : Scalar) (weak : Bool) → holds initial log cell expected (newest log cell) ≡ false → 1 ≤ length (reads rule initial log thread cell failure (excluded_by weak expected))
    some-compare failure expected true h = newest-first failure None refl
    some-compare failure expected false h = newest-first failure (Some expected) (rw h)

  -- how many options there are
  pub count-load : (order : Order) → length (reads rule initial log thread cell order None) ≡ length (choices rule initial log thread cell (Load order))
  count-load order = sym (ap (λ (options : List Chosen). length options) (choices-load order) ∙ length-map (reads rule initial log thread cell order None) (chosen_at initial log cell false))

  pub count-swap : 1 ≡ length (choices rule initial log thread cell Swap)
  count-swap = sym (ap (λ (options : List Chosen). length options) choices-swap)

  module _ (success failure : Order) (expected : Scalar) (weak : Bool) where
    with_success : holds initial log cell expected (newest log cell) ≡ true → choices rule initial log thread cell (Compare success failure expected weak) ≡ chosen_at initial log cell true (newest log cell) ∷ map (chosen_at initial log cell false) (reads rule initial log thread cell failure (excluded_by weak expected))
    with_success h = rw h at (choices-compare success failure expected weak)

    without_success : holds initial log cell expected (newest log cell) ≡ false → choices rule initial log thread cell (Compare success failure expected weak) ≡ map (chosen_at initial log cell false) (reads rule initial log thread cell failure (excluded_by weak expected))
    without_success h = rw h at (choices-compare success failure expected weak)

    pub count-success : holds initial log cell expected (newest log cell) ≡ true → length (reads rule initial log thread cell failure (excluded_by weak expected)) + 1 ≡ length (choices rule initial log thread cell (Compare success failure expected weak))
    count-success h =
        let p = ap (λ (options : List Chosen). length options) (with_success h) in
        let q = length-map (reads rule initial log thread cell failure (excluded_by weak expected)) (chosen_at initial log cell false) in
        omega (arith, p, q)

    pub count-failure : holds initial log cell expected (newest log cell) ≡ false → length (reads rule initial log thread cell failure (excluded_by weak expected)) ≡ length (choices rule initial log thread cell (Compare success failure expected weak))
    count-failure h = sym (ap (λ (options : List Chosen). length options) (without_success h) ∙ length-map (reads rule initial log thread cell failure (excluded_by weak expected)) (chosen_at initial log cell false))

    -- which the n-th is
    pub nth-success : holds initial log cell expected (newest log cell) ≡ true → slice_get (choices rule initial log thread cell (Compare success failure expected weak)) 0 ≡ Some (chosen_at initial log cell true (newest log cell))
    nth-success h = ap (λ (options : List Chosen). slice_get options 0) (with_success h)

    pub nth-after : (n : ℕ) → holds initial log cell expected (newest log cell) ≡ true → 0 < n → slice_get (choices rule initial log thread cell (Compare success failure expected weak)) n ≡ slice_get (map (chosen_at initial log cell false) (reads rule initial log thread cell failure (excluded_by weak expected))) (n - 1)
    nth-after n h l = ap (λ (options : List Chosen). slice_get options n) (with_success h) ∙ one_on (chosen_at initial log cell true (newest log cell)) (map (chosen_at initial log cell false) (reads rule initial log thread cell failure (excluded_by weak expected))) n l

    pub nth-failure : (n : ℕ) → holds initial log cell expected (newest log cell) ≡ false → slice_get (choices rule initial log thread cell (Compare success failure expected weak)) n ≡ slice_get (map (chosen_at initial log cell false) (reads rule initial log thread cell failure (excluded_by weak expected))) n
    nth-failure n h = ap (λ (options : List Chosen). slice_get options n) (without_success h)
