-- What a new position and the sequences of its cell release, by the numbers under which their clocks are kept.
use Rattle.std.proofs.Common.{◌≡◌, ℕ, ◌-◌, ◌≤◌, Bool, true, false, cond, ◌&&◌, eqb, List, [], ◌∷◌, ◌++◌, length, length-append, slice_index, refl, sym, ap, ◌∙◌, inl, inr, ◌⊎◌, arith}
use Rattle.std.specs.Prelude.{max}
use Rattle.std.proofs.Math.Seq.{get_or-append_seam}
use Rattle.std.proofs.lemmas.List.{get_or_past, get_or_append_left}
use Rattle.std.proofs.lemmas.Bool.{eq-eqb, ne_eqb, cases_eq, cases_order}
use Rattle.mem_axioms.specs.Events.{is_update}
use Rattle.mem_axioms.specs.Synchronizes.{continues}
use Rattle.mem_axioms.specs.declared.types.Event.{Event}
use Rattle.mem_axioms.specs.declared.types.Rule.{Rule}
use Rattle.clocks.specs.Spans.{Spans}
use Rattle.clocks.specs.KeptClocks.{kept_at, Grown}
use Rattle.view_parts.proofs.GoingOn.{gone-on, released-on}

-- a list with one number more
appended : (numbers : List ℕ) (n p : ℕ) → slice_index (numbers ++ n ∷ []) p ≡ cond (eqb p (length numbers)) n (slice_index numbers p)
appended numbers n p = elim (cases_order p (length numbers)) [
  | inl last ↦ rw (last, eq-eqb (length numbers) (length numbers) refl) (get_or-append_seam numbers n [] 0)
  | inr (inl below) ↦ rw (ne_eqb p (length numbers) (λ z. omega (arith, z, below))) (get_or_append_left numbers (n ∷ []) 0 p below)
  | inr (inr above) ↦
      rw (ne_eqb p (length numbers) (λ z. omega (arith, z, above)))
      (get_or_past (numbers ++ n ∷ []) p 0 (omega (arith, length-append numbers (n ∷ []))) ∙ sym (get_or_past numbers p 0 (omega arith)))
]

module _ (before between after : Spans) (more : Grown before between) (most : Grown between after) (u : ℕ) where
  -- a number that was there from the start
  kept-same : (n : ℕ) → n ≤ length before.ends → kept_at after n u ≡ kept_at before n u
  kept-same n l = (let m = more.more in most.same n u (omega (arith, l, m))) ∙ more.same n u l

  -- the new position q, and the others
  pub released-put : (old : List ℕ) (own number given sequence q p : ℕ) (made change : Bool) → ((p : ℕ) → slice_index old p ≤ length before.ends) → made ≡ true → q ≡ length old → kept_at between own u ≡ max given sequence
      → kept_at after number u ≡ cond change (max given (kept_at between (slice_index old (q - 1)) u)) (kept_at between own u)
      → kept_at after (slice_index (old ++ number ∷ []) p) u ≡ cond (made && eqb q p) (max given (cond change (kept_at before (slice_index old (p - 1)) u) sequence)) (kept_at before (slice_index old p) u)
  released-put old own number given sequence q p made change named m at o k = rw (m, appended old number p, sym at) (go (cases_eq p q))
    where
      go : (p ≡ q) ⊎ (p ≡ q → ⊥) → kept_at after (cond (eqb p q) number (slice_index old p)) u ≡ cond (true && eqb q p) (max given (cond change (kept_at before (slice_index old (p - 1)) u) sequence)) (kept_at before (slice_index old p) u)
      go (inl e) = rw (e, eq-eqb q q refl) (k ∙ rw (o, more.same (slice_index old (q - 1)) u (named (q - 1))) (released-on change given (kept_at before (slice_index old (q - 1)) u) sequence))
      go (inr n) = rw (ne_eqb p q n, ne_eqb q p (λ z. n (sym z))) (kept-same (slice_index old p) (named p))

  -- the sequences of the event's own thread, and those of others
  pub sequence-put : (rule : Rule) (e : Event) (old new : List ℕ) (own given t : ℕ) → ((t : ℕ) → slice_index old t ≤ length before.ends) → own ≤ length between.ends
      → slice_index new t ≡ cond (eqb t e.thread) own (cond (is_update e) (slice_index old t) 0) → kept_at between own u ≡ max given (cond (continues rule e e.thread) (kept_at before (slice_index old e.thread) u) 0)
      → kept_at after (slice_index new t) u ≡ max (cond (eqb t e.thread) given 0) (cond (continues rule e t) (kept_at before (slice_index old t) u) 0)
  sequence-put rule e old new own given t named there at o =
      let new-is : kept_at after (slice_index new t) u ≡ cond (eqb t e.thread) (kept_at between own u) (cond (is_update e) (kept_at before (slice_index old t) u) 0) = rw at (go (eqb t e.thread) (is_update e)) in
      new-is ∙ (ap (λ (k : ℕ). cond (eqb t e.thread) k (cond (is_update e) (kept_at before (slice_index old t) u) 0)) o ∙ gone-on rule e t given (λ k. kept_at before (slice_index old k) u))
    where
      go : (b change : Bool) → kept_at after (cond b own (cond change (slice_index old t) 0)) u ≡ cond b (kept_at between own u) (cond change (kept_at before (slice_index old t) u) 0)
      go true change = most.same own u there
      go false true = kept-same (slice_index old t) (named t)
      go false false = refl
