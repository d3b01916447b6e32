-- An access is offered exactly what the axioms and its comparison let it take: its choices are those.
use Rattle.std.specs.Prelude.{◌≡◌, ◌⊎◌, ◌<◌, ◌≤◌, not, ℕ, zero, suc, Bool, true, false, nat_le, List, [], ◌∷◌, ◌++◌, Option, Some, None, Result, Ok, ◌==◌, filter, find, length, map, option_map, slice_get, refl, if◌then◌else◌}
use Rattle.std.proofs.Common.{sym, ◌∙◌, ap, subst, inl, inr, arith}
use Rattle.std.proofs.Math.Nat.{mod-eq_of_lt}
use Rattle.std.proofs.lemmas.Bool.{and_from, and_parts, cases_lt, false≢true, leb-true}
use Rattle.std.proofs.lemmas.Option.{slice_get_within}
use Rattle.mu_base.specs.declared.order.Order.{Order}
use Rattle.mu_base.specs.declared.order.Order.TheVariants.{Relaxed}
use Rattle.mu_values.specs.declared.scalars.Scalar.{Scalar}
use Rattle.mu_values.specs.SameScalar.{same_scalar}
use Rattle.mu_values.specs.ScalarLaws.{same_scalar-refl, same_scalar-true}
use Rattle.mu_values.specs.declared.cells.CellId.{CellId}
use Rattle.mu_values.specs.CellLaws.{same_cell-refl}
use Rattle.typed_heap.specs.declared.faults.PlaceFault.{PlaceFault}
use Rattle.typed_heap.specs.Places.{cell_in, with_some}
use Rattle.frames.specs.Activations.{Activation}
use Rattle.mem_axioms.specs.Events.{modifies, position_of}
use Rattle.mem_axioms.specs.Logs.{newest}
use Rattle.mem_axioms.specs.Form.{is_value_at, value_at}
use Rattle.mem_axioms.specs.Axioms.{meets_axioms}
use Rattle.mem_axioms.specs.Races.{race}
use Rattle.mem_axioms.specs.Choices.{chosen_at, choices, holds, is_option}
use Rattle.mem_axioms.specs.Reads.{below, excluded_by, is_kept}
use Rattle.mem_axioms.specs.declared.types.Mode.TheVariants.{Read, Write, Update}
use Rattle.mem_axioms.specs.declared.types.Kind.TheVariants as kinds
use Rattle.mem_axioms.specs.declared.types.Kind.{Kind}
use Rattle.mem_axioms.specs.declared.types.Event.{Event}
use Rattle.mem_axioms.specs.declared.types.Chosen.{Chosen}
use Rattle.mem_axioms.specs.declared.types.Wanted.TheVariants.{Swap}
use Rattle.mem_axioms.specs.Lemmas.Added.{meets-newest}
use Rattle.mem_axioms.specs.Lemmas.Kept.{keeps-next}
use Rattle.mem_axioms.specs.Lemmas.Offers.{may_take, reads-below, choices-load, choices-swap, choices-compare, nth-success}
use Rattle.mem_axioms.specs.Lemmas.Options.{choices-some, newest-first-choice}
use Rattle.mem_axioms.specs.Lemmas.Positions.{fits-next}
use Rattle.mu_threads.specs.Picks.{pick, picked_from}
use Rattle.mu_model.specs.declared.endings.Ending.TheVariants.{Budget}
use Rattle.mu_model.specs.Configuration.{Configuration}
use Rattle.mu_model.specs.Acts as acts
use Rattle.mu_model.specs.Acts.{Access, Act, Loads, Stores, Compares, Updates, Program}
use Rattle.mu_model.specs.Turns.{Turn, turn_of}
use Rattle.mu_model.specs.Changes.{event}
use Rattle.mu_model.specs.Accesses.{access_results, accessed, initial, kind_of, picking_option, raced, takes_option, taking, updated, wanted}
use Rattle.mu_model.specs.Outcomes.{End, Outcome, on, onto, or_case, tried}
use Rattle.mu_model.specs.Frames.{passed}
use Rattle.futex.specs.Waiting.{is_of}
use Rattle.mu_model.specs.Waiting.{found_another, waited, waits_at}
use Rattle.mu_model.specs.Step.{ends_or_picks, is_blocked, performed, picked, picking_thread, runnable, step, threads_from, turned, turns}
use Rattle.model_laws.specs.Lemmas.Accessing.{pick_below}
use Rattle.model_laws.specs.Lemmas.Basics.{some_below}
use Rattle.text_programs.specs.Offers.{IsOffered, Logs, MayTake, OffersExactly, Succeeds, Takes}

-- ---- what stands in a list

abbrev Among : List Chosen → Chosen → Type 0
Among ks k = (n : ℕ) × (slice_get ks n ≡ Some k)

-- of positions that pass a test
below_passes : (f : ℕ → Chosen) (test : ℕ → Bool) (n : ℕ) (k : Chosen) (i : ℕ) → slice_get (map f (below test n)) i ≡ Some k → (q : ℕ) × (test q ≡ true) × (f q ≡ k)
below_passes f test zero k i e = absurd (cc)
below_passes f test (suc n) k i e = by (test n) refl (below_passes f test n k) i e
  where
    by : (b : Bool) → test n ≡ b → ((i : ℕ) → slice_get (map f (below test n)) i ≡ Some k → (q : ℕ) × (test q ≡ true) × (f q ≡ k)) → (i : ℕ) → slice_get (map f (if b then n ∷ below test n else below test n)) i ≡ Some k
        → (q : ℕ) × (test q ≡ true) × (f q ≡ k)
    by true h rest zero e = (n, h, cc)
    by true h rest (suc i) e = rest i e
    by false h rest i e = rest i e

passes_below : (f : ℕ → Chosen) (test : ℕ → Bool) (n q : ℕ) → q < n → test q ≡ true → Among (map f (below test n)) (f q)
passes_below f test zero q l h = absurd (omega arith)
passes_below f test (suc n) q l h = by (test n) refl (passes_below f test n q) (cases_lt q n)
  where
    by : (b : Bool) → test n ≡ b → (q < n → test q ≡ true → Among (map f (below test n)) (f q)) → (q < n) ⊎ (n ≤ q) → Among (map f (if b then n ∷ below test n else below test n)) (f q)
    by true e rest (inl less) = let r = rest less h in (suc r.0, r.1)
    by true e rest (inr more) = let same : n ≡ q = omega arith in (0, ap (λ (x : ℕ). Some (f x)) same)
    by false e rest (inl less) = rest less h
    by false e rest (inr more) = let same : q ≡ n = omega arith in absurd (false≢true (sym e ∙ subst (λ x. test x ≡ true) same h))

behind : (b : Bool) (first : Chosen) (ks : List Chosen) (k : Chosen) → Among ks k → Among ((if b then first ∷ [] else []) ++ ks) k
behind true first ks k h = (suc h.0, h.1)
behind false first ks k h = h

abbrev choice : ℕ → Scalar → Bool → Chosen
choice position value success = record { position = position; value = value; success = success }

module _ (c : Configuration) (thread : ℕ) (cell : CellId) (m : meets_axioms c.rule (initial c) c.log ≡ true) where
  abbrev chosen : Bool → ℕ → Chosen
  chosen success position = chosen_at (initial c) c.log cell success position

  abbrev allows : Order → Option Scalar → ℕ → Bool
  allows o excluded position = may_take c.rule (initial c) c.log thread cell o excluded position

  abbrev failing : Order → Option Scalar → List Chosen
  failing o excluded = map (chosen false) (below (allows o excluded) (suc (newest c.log cell)))

  abbrev offered : Access → List Chosen
  offered a = choices c.rule (initial c) c.log thread cell (wanted a)

  load_choices : (o : Order) → offered (Loads o) ≡ failing o None
  load_choices o = choices-load c.rule (initial c) c.log thread cell o ∙ ap (map (chosen false)) (reads-below c.rule (initial c) c.log thread cell o None)

  -- the success of a comparison, if it is one
  abbrev first_of_all : Scalar → List Chosen
  first_of_all expected = if holds (initial c) c.log cell expected (newest c.log cell) then chosen true (newest c.log cell) ∷ [] else []

  compare_choices : (weak : Bool) (o f : Order) (expected v : Scalar) → offered (Compares weak o f expected v) ≡ first_of_all expected ++ failing f (excluded_by weak expected)
  compare_choices weak o f expected v = choices-compare c.rule (initial c) c.log thread cell o f expected weak
      ∙ ap (λ qs. first_of_all expected ++ map (chosen false) qs) (reads-below c.rule (initial c) c.log thread cell f (excluded_by weak expected))

  -- ---- each choice may be taken

  -- a write or update behind the newest position
  next_allowed : (e : Event) → modifies cell e ≡ true → position_of e ≡ suc (newest c.log cell) → meets_axioms c.rule (initial c) (e ∷ c.log) ≡ true
  next_allowed e = keeps-next c.rule (initial c) c.log m e cell

  written : (o : Order) (w : Scalar) → meets_axioms c.rule (initial c) (event thread (kinds.Access Write cell o (suc (newest c.log cell)) w) ∷ c.log) ≡ true
  written o w = next_allowed (event thread (kinds.Access Write cell o (suc (newest c.log cell)) w)) (same_cell-refl cell) refl

  updated_there : (o : Order) (w : Scalar) → meets_axioms c.rule (initial c) (event thread (kinds.Access Update cell o (suc (newest c.log cell)) w) ∷ c.log) ≡ true
  updated_there o w = next_allowed (event thread (kinds.Access Update cell o (suc (newest c.log cell)) w)) (same_cell-refl cell) refl

  swap_is : (n : ℕ) (k : Chosen) → slice_get (choices c.rule (initial c) c.log thread cell Swap) n ≡ Some k → chosen true (newest c.log cell) ≡ k
  swap_is n k e = by n (subst (λ (ks : List Chosen). slice_get ks n ≡ Some k) (choices-swap c.rule (initial c) c.log thread cell) e)
    where
      by : (n : ℕ) → slice_get (chosen true (newest c.log cell) ∷ []) n ≡ Some k → chosen true (newest c.log cell) ≡ k
      by zero e = cc
      by (suc n) e = absurd (cc)

  load_may : (o : Order) (n : ℕ) (k : Chosen) → slice_get (offered (Loads o)) n ≡ Some k → MayTake c thread (Loads o) cell k
  load_may o n k e =
      let r = below_passes (chosen false) (allows o None) (suc (newest c.log cell)) k n (subst (λ (ks : List Chosen). slice_get ks n ≡ Some k) (load_choices o) e) in
      subst (MayTake c thread (Loads o) cell) r.2 (record { stands = refl; succeeds = refl; allowed = λ w. (and_parts (is_option c.rule (initial c) c.log thread cell o r.0) true r.1).0 })

  module _ (weak : Bool) (o f : Order) (expected v : Scalar) where
    abbrev comparison : Access
    comparison = Compares weak o f expected v

    won : holds (initial c) c.log cell expected (newest c.log cell) ≡ true → MayTake c thread comparison cell (chosen true (newest c.log cell))
    won h = record { stands = refl; succeeds = by weak; allowed = λ w. updated_there o v }
      where
        equal : value_at (initial c) c.log cell (newest c.log cell) ≡ expected
        equal = same_scalar-true (value_at (initial c) c.log cell (newest c.log cell)) expected h

        by : (weak : Bool) → Succeeds (Compares weak o f expected v) (chosen true (newest c.log cell))
        by true = λ s. equal
        by false = (λ s. equal, λ s. refl)

    lost : (q : ℕ) → allows f (excluded_by weak expected) q ≡ true → MayTake c thread comparison cell (chosen false q)
    lost q h = record { stands = refl; succeeds = by weak parts.1; allowed = λ w. parts.0 }
      where
        parts : (is_option c.rule (initial c) c.log thread cell f q ≡ true) × (is_kept (initial c) c.log cell (excluded_by weak expected) q ≡ true)
        parts = and_parts (is_option c.rule (initial c) c.log thread cell f q) (is_kept (initial c) c.log cell (excluded_by weak expected) q) h

        by : (weak : Bool) → is_kept (initial c) c.log cell (excluded_by weak expected) q ≡ true → Succeeds (Compares weak o f expected v) (chosen false q)
        by true k = λ s. absurd (false≢true s)
        by false k = (λ s. absurd (false≢true s), λ e. absurd (false≢true (sym (ap not (same_scalar-refl expected)) ∙ subst (λ (x : Scalar). not (same_scalar x expected) ≡ true) e k)))

    compare_may : (n : ℕ) (k : Chosen) → slice_get (offered comparison) n ≡ Some k → MayTake c thread comparison cell k
    compare_may n k e = by (holds (initial c) c.log cell expected (newest c.log cell)) refl n (subst (λ (ks : List Chosen). slice_get ks n ≡ Some k) (compare_choices weak o f expected v) e)
      where
        behind_it : (n : ℕ) → slice_get (failing f (excluded_by weak expected)) n ≡ Some k → MayTake c thread comparison cell k
        behind_it n e =
            let r = below_passes (chosen false) (allows f (excluded_by weak expected)) (suc (newest c.log cell)) k n e in
            subst (MayTake c thread comparison cell) r.2 (lost r.0 r.1)

        by : (b : Bool) → holds (initial c) c.log cell expected (newest c.log cell) ≡ b → (n : ℕ) → slice_get ((if b then chosen true (newest c.log cell) ∷ [] else []) ++ failing f (excluded_by weak expected)) n ≡ Some k
            → MayTake c thread comparison cell k
        by true h zero e = let same : chosen true (newest c.log cell) ≡ k = cc in subst (MayTake c thread comparison cell) same (won h)
        by true h (suc n) e = behind_it n e
        by false h n e = behind_it n e

  may : (a : Access) (n : ℕ) (k : Chosen) → slice_get (offered a) n ≡ Some k → MayTake c thread a cell k
  may (Loads o) n k e = load_may o n k e
  may (Stores o v) n k e = subst (MayTake c thread (Stores o v) cell) (swap_is n k e) (record { stands = refl; succeeds = refl; allowed = λ w. written o v })
  may (Compares weak o f expected v) n k e = compare_may weak o f expected v n k e
  may (Updates o op v) n k e = subst (MayTake c thread (Updates o op v) cell) (swap_is n k e) (record { stands = refl; succeeds = refl; allowed = λ w. updated_there o w })

  -- ---- what may be taken is a choice

  is_chosen : (k : Chosen) (success : Bool) → k.value ≡ value_at (initial c) c.log cell k.position → k.success ≡ success → chosen success k.position ≡ k
  is_chosen k success v s = sym (ap (λ (x : Scalar). choice k.position x k.success) v ∙ ap (λ (b : Bool). choice k.position (value_at (initial c) c.log cell k.position) b) s)

  -- a read that meets the axioms is of an option
  reads_option : (o : Order) (position : ℕ) (value : Scalar) → value ≡ value_at (initial c) c.log cell position → meets_axioms c.rule (initial c) (event thread (kinds.Access Read cell o position value) ∷ c.log) ≡ true
      → (position < suc (newest c.log cell)) × (is_option c.rule (initial c) c.log thread cell o position ≡ true)
  reads_option o position value v h =
      let fits = ((meets-newest c.rule (event thread (kinds.Access Read cell o position value)) c.log (initial c)).0 h).1 in
      let least = leb-true position (newest c.log cell) (and_parts (nat_le position (newest c.log cell)) (is_value_at (initial c) c.log cell position value) fits).0 in
      (omega (arith, least), subst (λ (x : Scalar). meets_axioms c.rule (initial c) (event thread (kinds.Access Read cell o position x) ∷ c.log) ≡ true) v h)

  -- a write or update that meets them stands behind the newest position
  stands_next : (e : Event) → modifies cell e ≡ true → meets_axioms c.rule (initial c) (e ∷ c.log) ≡ true → position_of e ≡ suc (newest c.log cell)
  stands_next e change h = fits-next (is_value_at (initial c)) c.log e cell ((meets-newest c.rule e c.log (initial c)).0 h).1 change

  is_newest : (k : Chosen) → k.value ≡ value_at (initial c) c.log cell k.position → k.success ≡ true → suc k.position ≡ suc (newest c.log cell) → chosen true (newest c.log cell) ≡ k
  is_newest k v s next = let same : newest c.log cell ≡ k.position = omega (arith, next) in ap (chosen true) same ∙ is_chosen k true v s

  swap_among : (k : Chosen) → chosen true (newest c.log cell) ≡ k → Among (choices c.rule (initial c) c.log thread cell Swap) k
  swap_among k e = (0, ap (λ (ks : List Chosen). slice_get ks 0) (choices-swap c.rule (initial c) c.log thread cell) ∙ ap Some e)

  failing_among : (o : Order) (excluded : Option Scalar) (k : Chosen) → k.value ≡ value_at (initial c) c.log cell k.position → k.success ≡ false → is_kept (initial c) c.log cell excluded k.position ≡ true
      → meets_axioms c.rule (initial c) (event thread (kinds.Access Read cell o k.position k.value) ∷ c.log) ≡ true → Among (failing o excluded) k
  failing_among o excluded k v s kept h =
      let r = reads_option o k.position k.value v h in
      let among = passes_below (chosen false) (allows o excluded) (suc (newest c.log cell)) k.position r.0
      (and_from (is_option c.rule (initial c) c.log thread cell o k.position) (is_kept (initial c) c.log cell excluded k.position) r.1 kept) in
      (among.0, among.1 ∙ ap Some (is_chosen k false v s))

  module _ (weak : Bool) (o f : Order) (expected v : Scalar) (k : Chosen) (h : MayTake c thread (Compares weak o f expected v) cell k) where
    equal_by : (weak : Bool) → Succeeds (Compares weak o f expected v) k → k.success ≡ true → k.value ≡ expected
    equal_by true s is = s is
    equal_by false s is = s.0 is

    kept_by : (weak : Bool) → Succeeds (Compares weak o f expected v) k → k.success ≡ false → is_kept (initial c) c.log cell (excluded_by weak expected) k.position ≡ true
    kept_by true s lost = refl
    kept_by false s lost = by (holds (initial c) c.log cell expected k.position) refl
      where
        by : (b : Bool) → holds (initial c) c.log cell expected k.position ≡ b → not b ≡ true
        by true e = absurd (false≢true (sym lost ∙ s.1 (h.stands ∙ same_scalar-true (value_at (initial c) c.log cell k.position) expected e)))
        by false e = refl

    abbrev logs_by : Bool → Type 0
    logs_by b = meets_axioms c.rule (initial c) (event thread (if b then kinds.Access Update cell o (suc k.position) v else kinds.Access Read cell f k.position k.value) ∷ c.log) ≡ true

    compare_among : Among (offered (Compares weak o f expected v)) k
    compare_among = by k.success refl
      where
        newest_won : k.success ≡ true → Among (offered (Compares weak o f expected v)) k
        newest_won s =
            let next = stands_next (event thread (kinds.Access Update cell o (suc k.position) v)) (same_cell-refl cell) (subst logs_by s (h.allowed v)) in
            let same = is_newest k h.stands s next in
            let value : value_at (initial c) c.log cell (newest c.log cell) ≡ expected = ap (λ (x : Chosen). x.value) same ∙ equal_by weak h.succeeds s in
            let there : holds (initial c) c.log cell expected (newest c.log cell) ≡ true = subst (λ (x : Scalar). same_scalar x expected ≡ true) (sym value) (same_scalar-refl expected) in
            (0, nth-success c.rule (initial c) c.log thread cell o f expected weak there ∙ ap Some same)

        older_lost : k.success ≡ false → Among (offered (Compares weak o f expected v)) k
        older_lost s =
            let among = failing_among f (excluded_by weak expected) k h.stands s (kept_by weak h.succeeds s) (subst logs_by s (h.allowed v)) in
            let all = behind (holds (initial c) c.log cell expected (newest c.log cell)) (chosen true (newest c.log cell)) (failing f (excluded_by weak expected)) k among in
            (all.0, ap (λ (ks : List Chosen). slice_get ks all.0) (compare_choices weak o f expected v) ∙ all.1)

        by : (b : Bool) → k.success ≡ b → Among (offered (Compares weak o f expected v)) k
        by true s = newest_won s
        by false s = older_lost s

  among : (a : Access) (k : Chosen) → MayTake c thread a cell k → Among (offered a) k
  among (Loads o) k h =
      let r = failing_among o None k h.stands h.succeeds refl (h.allowed k.value) in
      (r.0, ap (λ (ks : List Chosen). slice_get ks r.0) (load_choices o) ∙ r.1)
  among (Stores o v) k h = swap_among k (is_newest k h.stands h.succeeds (stands_next (event thread (kinds.Access Write cell o (suc k.position) v)) (same_cell-refl cell) (h.allowed v)))
  among (Compares weak o f expected v) k h = compare_among weak o f expected v k h
  among (Updates o op v) k h = swap_among k (is_newest k h.stands h.succeeds (stands_next (event thread (kinds.Access Update cell o (suc k.position) v)) (same_cell-refl cell) (h.allowed v)))

-- ---- picks

-- a schedule picks what one wants
picks_it : (many n : ℕ) → n < many → (pick many (n ∷ [])).0 ≡ n
picks_it many n l = by (nat_le many 1) refl
  where
    chosen_of : Bool → ℕ × List ℕ
    chosen_of b = if b then (0, n ∷ []) else picked_from many (n ∷ [])

    by : (b : Bool) → nat_le many 1 ≡ b → (chosen_of b).0 ≡ n
    by true e = let few = leb-true many 1 e in let first : 0 ≡ n = omega (arith, few) in first
    by false e = mod-eq_of_lt l

-- and leaves what stands behind
picks_leaving : (many n : ℕ) (rest : List ℕ) → n < many → (ps : List ℕ) × (pick many ps ≡ (n, rest))
picks_leaving many n rest l = by (nat_le many 1) refl
  where
    chosen_of : Bool → List ℕ → ℕ × List ℕ
    chosen_of b ps = if b then (0, ps) else picked_from many ps

    by : (b : Bool) → nat_le many 1 ≡ b → (ps : List ℕ) × (chosen_of b ps ≡ (n, rest))
    by true e = let few = leb-true many 1 e in let first : 0 ≡ n = omega (arith, few, l) in (rest, ap (λ (x : ℕ). (x, rest)) first)
    by false e = (n ∷ rest, ap (λ (x : ℕ). (x, rest)) (mod-eq_of_lt l))

-- ---- what is done

tried_at : (p : Program) (d : Configuration) (u : Turn) (o : Option (Result CellId PlaceFault)) (go : CellId → Outcome) (cell : CellId) → o ≡ Some (Ok cell) → tried p d u (option_map or_case o) go ≡ go cell
unfolding tried on
tried_at p d u o go cell e = subst (λ (x : Option (Result CellId PlaceFault)). tried p d u (option_map or_case x) go ≡ go cell) (sym e) refl

on_at : {A : Type 0} (o : Option A) (go : A → Outcome) (a : A) → o ≡ Some a → on o go ≡ go a
unfolding on
on_at {A} o go a e = subst (λ (x : Option A). on x go ≡ go a) (sym e) refl

-- ---- what is logged

-- it is of the choice
logged_so : (a : Access) (cell : CellId) (k : Chosen) (kind : Kind) → kind_of a cell k ≡ Some kind → (w : Scalar) × (kind ≡ taking a cell k w)
logged_so (Loads o) cell k kind e = (k.value, cc)
logged_so (Stores o v) cell k kind e = (v, cc)
logged_so (Compares weak o f expected v) cell k kind e = (v, cc)
logged_so (Updates o op v) cell k kind e = by (updated op k.value v) e
  where
    by : (s : Option Scalar) → with_some s (λ w. Some (kinds.Access Update cell o (suc k.position) w)) ≡ Some kind → (w : Scalar) × (kind ≡ kinds.Access Update cell o (suc k.position) w)
    by None e = cc
    by (Some w) e = (w, cc)

module _ (c : Configuration) (u : Turn) (a : Access) (cell : CellId) (k : Chosen) (d : Configuration) (same : d.log ≡ c.log) where
  race_logs : (kind : Kind) (w : Scalar) → kind ≡ taking a cell k w → (fs : List Activation) (n : Option ℕ) → Logs c u.thread a cell k (raced d u (event u.thread kind) fs n)
  unfolding on
  race_logs kind w e fs None = (w, ap (λ (log : List Event). event u.thread kind ∷ log) same ∙ ap (λ (x : Kind). event u.thread x ∷ c.log) e)
  race_logs kind w e fs (Some n) = (w, ap (event u.thread) e)

  kind_logs : (o : Option Kind) → kind_of a cell k ≡ o → (frames : Option (List Activation)) → Logs c u.thread a cell k (accessed d u o frames)
  unfolding on
  kind_logs None e frames = tt
  kind_logs (Some kind) e None = tt
  kind_logs (Some kind) e (Some fs) = let s = logged_so a cell k kind e in race_logs kind s.0 s.1 fs (race d.rule d.log (event u.thread kind))

  access_logs : (frames : Option (List Activation)) → Logs c u.thread a cell k (accessed d u (kind_of a cell k) frames)
  access_logs frames = kind_logs (kind_of a cell k) refl frames

-- where a thread may be picked and a step is left, one is
picks_one : (p : Program) (d : Configuration) (n i : ℕ) → (d.steps == d.budget) ≡ false → (ts : List ℕ) → slice_get (filter (λ i. not (is_blocked d.waiters i)) ts) n ≡ Some i
    → ends_or_picks p d ts (filter (λ i. not (is_blocked d.waiters i)) ts) ≡ picking_thread p d (filter (λ i. not (is_blocked d.waiters i)) ts)
picks_one p d n i more [] e = absurd (cc)
picks_one p d n i more (t ∷ ts) e = by (filter (λ i. not (is_blocked d.waiters i)) (t ∷ ts)) e
  where
    by : (is : List ℕ) → slice_get is n ≡ Some i → ends_or_picks p d (t ∷ ts) is ≡ picking_thread p d is
    by [] e = absurd (cc)
    by (x ∷ is) e = ap (λ b. if b then End [] (Budget d.steps) else picking_thread p d (x ∷ is)) more

steps : (p : Program) (c : Configuration) (n i : ℕ) (rest : List ℕ) → slice_get (runnable c) n ≡ Some i → (c.steps == c.budget) ≡ false
    → (ps : List ℕ) × (step p (record c { picks = ps }) ≡ turns p (picked c rest) i)
steps p c n i rest e more =
    let k = picks_leaving (length (runnable c)) n rest (slice_get_within (runnable c) n i e) in (
      k.0,
      picks_one p (record c { picks = k.0 }) n i more (threads_from 0 c.threads) e
          ∙ ap (λ (x : ℕ × List ℕ). on (slice_get (runnable c) x.0) (turns p (picked c x.1))) k.1
          ∙ on_at (slice_get (runnable c) n) (turns p (picked c rest)) i e,
    )

module _ (p : Program) (c : Configuration) (m : meets_axioms c.rule (initial c) c.log ≡ true) (u : Turn) (cell : CellId) (there : cell_in c.objects cell ≡ Some (Ok cell)) where
  abbrev ones : Access → List Chosen
  ones a = choices c.rule (initial c) c.log u.thread cell (wanted a)

  takes_picked : (a : Access) (ps : List ℕ) (k : Chosen) → slice_get (ones a) (pick (length (ones a)) ps).0 ≡ Some k → Takes p c u a cell ps k (pick (length (ones a)) ps).1
  takes_picked a ps k e =
      tried_at p (picked c ps) u (cell_in c.objects cell) (λ d. picking_option p (picked c ps) u a d (choices c.rule (initial c) c.log u.thread d (wanted a))) cell there
      ∙ on_at (slice_get (ones a) (pick (length (ones a)) ps).0) (takes_option p (picked c (pick (length (ones a)) ps).1) u a cell) k e

  only : (a : Access) (ps : List ℕ) → (k : Chosen) × (rest : List ℕ) × MayTake c u.thread a cell k × Takes p c u a cell ps k rest
  only a ps =
      let x = some_below (ones a) (pick (length (ones a)) ps).0 (pick_below (length (ones a)) ps (choices-some c.rule (initial c) c.log u.thread cell m (wanted a))) in
      (x.0, (pick (length (ones a)) ps).1, may c u.thread cell m a (pick (length (ones a)) ps).0 x.0 x.1, takes_picked a ps x.0 x.1)

  all : (a : Access) (k : Chosen) → MayTake c u.thread a cell k → (ps : List ℕ) × (rest : List ℕ) × Takes p c u a cell ps k rest
  all a k h =
      let n = among c u.thread cell m a k h in
      let same = picks_it (length (ones a)) n.0 (slice_get_within (ones a) n.0 k n.1) in
      (n.0 ∷ [], (pick (length (ones a)) (n.0 ∷ [])).1, takes_picked a (n.0 ∷ []) k (ap (slice_get (ones a)) same ∙ n.1))

  logs : (a : Access) (k : Chosen) (rest : List ℕ) → Logs c u.thread a cell k (takes_option p (picked c rest) u a cell k)
  logs a k rest = access_logs c u a cell k (picked c rest) refl (with_some (passed p u.top (access_results a k)) (onto u))

  wait_logs : (timed : Bool) (v : Scalar) (ps : List ℕ) (k : Chosen) → Logs c u.thread (Loads Relaxed) cell k (waited p (picked c ps) u timed v cell k)
  wait_logs timed v ps k = by (same_scalar k.value v)
    where
      waits_there : Configuration
      waits_there = waits_at u timed cell (picked c ps)

      stays : Outcome
      stays = accessed waits_there u (kind_of (Loads Relaxed) cell k) (onto u u.top)

      goes_on : Outcome
      goes_on = accessed (picked c ps) u (kind_of (Loads Relaxed) cell k) (with_some (passed p u.top ((found_another ∷ []) ∷ [])) (onto u))

      by : (b : Bool) → Logs c u.thread (Loads Relaxed) cell k (if b then stays else goes_on)
      by true = access_logs c u (Loads Relaxed) cell k waits_there refl (onto u u.top)
      by false = access_logs c u (Loads Relaxed) cell k (picked c ps) refl (with_some (passed p u.top ((found_another ∷ []) ∷ [])) (onto u))

  turn : (i : ℕ) (act : Act) (ps : List ℕ) → turn_of p c i ≡ Some u → find (is_of i) c.waiters ≡ None → u.doing.act ≡ Some act → turns p (picked c ps) i ≡ performed p (picked c ps) u act
  turn i act ps t free e =
      on_at (turn_of p c i) (turned p (picked c ps) (find (is_of i) c.waiters)) u t
      ∙ ap (λ w. turned p (picked c ps) w u) free
      ∙ on_at u.doing.act (performed p (picked c ps) u) act e

  waits : (timed : Bool) (v : Scalar) (ps : List ℕ) → (k : Chosen) × MayTake c u.thread (Loads Relaxed) cell k × (k.position ≡ newest c.log cell)
      × (performed p (picked c ps) u (acts.Waits timed v cell) ≡ waited p (picked c ps) u timed v cell k)
      × Logs c u.thread (Loads Relaxed) cell k (waited p (picked c ps) u timed v cell k)
  waits timed v ps =
      let k = chosen_at (initial c) c.log cell false (newest c.log cell) in
      let first = newest-first-choice c.rule (initial c) c.log u.thread cell m Relaxed in (
        k,
        may c u.thread cell m (Loads Relaxed) 0 k first,
        refl,
        tried_at p (picked c ps) u (cell_in c.objects cell) (λ d. on (slice_get (choices c.rule (initial c) c.log u.thread d (wanted (Loads Relaxed))) 0) (waited p (picked c ps) u timed v d)) cell there
            ∙ on_at (slice_get (ones (Loads Relaxed)) 0) (waited p (picked c ps) u timed v cell) k first,
        wait_logs timed v ps k,
      )

  is_offered : IsOffered p c u cell
  is_offered = record { only = only; all = all; logs = logs; waits = waits; turn = turn; steps = steps p c }

pub offers_exactly : (p : Program) (c : Configuration) → meets_axioms c.rule (initial c) c.log ≡ true → OffersExactly p c
offers_exactly p c m = λ u cell there. is_offered p c m u cell there
