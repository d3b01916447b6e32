-- What a load or a failing comparison may read, by the floor, and the values that it reads.
use Rattle.std.proofs.Common.{◌≡◌, ℕ, zero, suc, ◌+◌, ◌-◌, ◌<◌, ◌≤◌, Bool, true, false, not, ◌&&◌, leb, Some, None, List, [], ◌∷◌, length, filter, slice_get, refl, sym, ap, ◌∙◌, inl, inr, ◌⊎◌, ◌↔◌, arith}
use Rattle.std.proofs.lemmas.Bool.{false≢true, le-leb, lt-leb, cases_lt}
use Rattle.mu_base.specs.declared.order.Order.{Order}
use Rattle.mu_values.specs.declared.scalars.Scalar.{Scalar}
use Rattle.mu_values.specs.declared.cells.CellId.{CellId}
use Rattle.mem_axioms.specs.Logs.{newest}
use Rattle.mem_axioms.specs.Form.{value_at, has_form, fits_form, is_value_at}
use Rattle.mem_axioms.specs.Axioms.{meets_axioms}
use Rattle.mem_axioms.specs.Choices.{is_option, options, holds}
use Rattle.mem_axioms.specs.Reads.{reads, below}
use Rattle.mem_axioms.specs.Floor.{floor}
use Rattle.mem_axioms.specs.declared.types.Event.{Event}
use Rattle.mem_axioms.specs.declared.types.Rule.{Rule}
use Rattle.mem_axioms.specs.Lemmas.Positions.{form-parts, fits-next}
use Rattle.mem_axioms.specs.Lemmas.Values.{value-kept}
use Rattle.mem_axioms.specs.Lemmas.Downward.{below-same}
use Rattle.mem_axioms.specs.Lemmas.Offers.{may_take, reads-below}
use Rattle.mem_axioms.specs.Lemmas.Options.{floor-option, floor-below, options-number, options-nth}
use Rattle.mem_views.specs.Differing.{differs_from}
use Rattle.view_parts.specs.Holding.{CellHolds}
use Rattle.view_parts.specs.declared.cell.CellViews.{CellViews}
use Rattle.view_parts.specs.Lemmas.ValuesKept.{values-at}

-- no event makes position 0
pub value-initial : (initial : CellId → Scalar) (log : List Event) (c : CellId) → has_form initial log ≡ true → value_at initial log c 0 ≡ initial c
value-initial initial [] c h = refl
value-initial initial (e ∷ past) c h =
    value-kept initial past e c 0 (λ m z. (let q = fits-next (is_value_at initial) past e c parts.0 m in absurd (omega (arith, q, z))))
    ∙ value-initial initial past c parts.1
  where
    parts : (fits_form initial past e ≡ true) × (has_form initial past ≡ true)
    parts = form-parts (is_value_at initial) e past h

-- a later position has the value that is kept
pub value-found : (rule : Rule) (initial : CellId → Scalar) (log : List Event) (c : CellId) (kept : CellViews) (p : ℕ) (x : Scalar) → has_form initial log ≡ true → CellHolds log c kept → 0 < p → p ≤ newest log c
    → slice_get kept.history.values p ≡ Some x → x ≡ value_at initial log c p
value-found rule initial log c kept p x f h l n g =
    let a = values-at initial log c p f l n in
    let b = ap (λ (xs : List Scalar). slice_get xs p) h.values in
    some-one x (value_at initial log c p) (sym g ∙ (b ∙ a))
  where
    some-one : (x y : Scalar) → Some x ≡ Some y → x ≡ y
    some-one x y h = cc

filter-all : {X : Type 0} (xs : List X) → filter (λ x. true) xs ≡ xs
filter-all [] = refl
filter-all (x ∷ xs) = ap (λ ys. x ∷ ys) (filter-all xs)

pub below-none : (test : ℕ → Bool) (n : ℕ) → ((p : ℕ) → p < n → test p ≡ false) → below test n ≡ []
below-none test zero h = refl
below-none test (suc n) h = rw (h n (omega arith)) (below-none test n (λ p l. h p (omega (arith, l))))

-- below the floor nothing is read
pub below-floor : (initial : CellId → Scalar) (log : List Event) (cell : CellId) (f : ℕ) (scalar : Scalar) → below (differs_from initial log cell f scalar) f ≡ []
below-floor initial log cell f scalar = below-none (differs_from initial log cell f scalar) f (λ p l. rw (lt-leb f p l) refl)

pub below-under : (initial : CellId → Scalar) (log : List Event) (cell : CellId) (f : ℕ) (scalar : Scalar) (n : ℕ) → n ≤ f → below (differs_from initial log cell f scalar) n ≡ []
below-under initial log cell f scalar n h = below-none (differs_from initial log cell f scalar) n (λ p l. rw (lt-leb f p (omega (arith, l, h))) refl)

module _ (rule : Rule) (initial : CellId → Scalar) (log : List Event) (thread : ℕ) (cell : CellId) (order : Order) (m : meets_axioms rule initial log ≡ true) where
  option-test : (p : ℕ) → p ≤ newest log cell → is_option rule initial log thread cell order p ≡ leb (floor rule log thread cell order) p
  option-test p l = go (is_option rule initial log thread cell order p) refl (cases_lt p (floor rule log thread cell order))
    where
      iff : (is_option rule initial log thread cell order p ≡ true) ↔ (floor rule log thread cell order ≤ p)
      iff = floor-option rule initial log thread cell m order p l

      go : (b : Bool) → is_option rule initial log thread cell order p ≡ b → (p < floor rule log thread cell order) ⊎ (floor rule log thread cell order ≤ p) → is_option rule initial log thread cell order p ≡ leb (floor rule log thread cell order) p
      go true q c = q ∙ sym (le-leb (floor rule log thread cell order) p (iff.0 q))
      go false q (inl c) = q ∙ sym (lt-leb (floor rule log thread cell order) p c)
      go false q (inr c) = absurd (false≢true (sym q ∙ iff.1 c))

  -- a load
  reads-none : reads rule initial log thread cell order None ≡ options rule initial log thread cell order
  reads-none = filter-all (options rule initial log thread cell order)

  pub floor-low : floor rule log thread cell order ≤ newest log cell
  floor-low = floor-below rule initial log thread cell m order

  pub options-count : length (options rule initial log thread cell order) ≡ suc (newest log cell) - floor rule log thread cell order
  options-count = options-number rule initial log thread cell m order

  pub reads-count : length (reads rule initial log thread cell order None) ≡ suc (newest log cell) - floor rule log thread cell order
  reads-count = ap (λ (xs : List ℕ). length xs) reads-none ∙ options-count

  pub reads-nth : (n : ℕ) → n < length (reads rule initial log thread cell order None) → slice_get (reads rule initial log thread cell order None) n ≡ Some (newest log cell - n)
  reads-nth n l = let c = reads-count in let f = floor-low in ap (λ (xs : List ℕ). slice_get xs n) reads-none ∙ options-nth rule initial log thread cell m order n (omega (arith, c, f, l))

  -- a strong comparison that fails
  pub reads-differing : (scalar : Scalar) → reads rule initial log thread cell order (Some scalar) ≡ below (differs_from initial log cell (floor rule log thread cell order) scalar) (newest log cell + 1)
  reads-differing scalar =
      let s : newest log cell + 1 ≡ suc (newest log cell) = omega arith in
      reads-below rule initial log thread cell order (Some scalar)
      ∙ (below-same (may_take rule initial log thread cell order (Some scalar)) (differs_from initial log cell (floor rule log thread cell order) scalar) (suc (newest log cell))
      (λ p l. ap (λ (b : Bool). b && not (holds initial log cell scalar p)) (option-test p (omega (arith, l))))
      ∙ ap (below (differs_from initial log cell (floor rule log thread cell order) scalar)) (sym s))
