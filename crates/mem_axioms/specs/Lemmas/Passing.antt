-- A read that comes next meets the axioms exactly where it passes over no access against one.
use Rattle.std.proofs.Common.{◌≡◌, ℕ, ◌<◌, ◌≤◌, Bool, true, false, not, ◌&&◌, ltb, leb, eqb, List, ◌∷◌, length, Some, refl, sym, ap, ◌∙◌, inl, inr, ◌⊎◌, arith}
use Rattle.std.proofs.lemmas.Bool.{cases_lt, or_cases, or_left, or_right, and_from, and_parts, false≢true, lt-ltb, ltb-true, le-leb, leb-true, eq-eqb, eqb-true}
use Rattle.mu_values.specs.declared.scalars.Scalar.{Scalar}
use Rattle.mu_values.specs.declared.cells.CellId.{CellId}
use Rattle.mem_axioms.specs.Events.{position_of, order_of, is_seq_cst, is_seq_cst_fence, is_fence, is_read, on_one_cell}
use Rattle.mem_axioms.specs.Logs.{event_at, any_event}
use Rattle.mem_axioms.specs.HappensBefore.{happens_before}
use Rattle.mem_axioms.specs.Form.{fits_form}
use Rattle.mem_axioms.specs.Axioms.{meets_axioms, reads_older, has_seq_cst, is_or_is_fenced}
use Rattle.mem_axioms.specs.PassedOver.{has_seq_cst_from, is_bound, is_passed, may_read}
use Rattle.mem_axioms.specs.declared.types.Event.{Event}
use Rattle.mem_axioms.specs.declared.types.Rule.{Rule}
use Rattle.mem_axioms.specs.Lemmas.Numbers.{event-newest, event-older, event-kept, event-below, any-from, any-some}
use Rattle.mem_axioms.specs.Lemmas.Steps.{before-older, before-less}
use Rattle.mem_axioms.specs.Lemmas.Relations.{Linked}
use Rattle.mem_axioms.specs.Lemmas.Added.{Allowed, read_alone, meets-newest}
use Rattle.mem_axioms.specs.Lemmas.Kept.{one_cell, on_one, first-cases}

not_true : (b : Bool) → not b ≡ true → b ≡ true → ⊥
not_true true h p = false≢true h
not_true false h p = false≢true p

not_false : (b : Bool) → not b ≡ false → b ≡ true
not_false true h = refl
not_false false h = absurd (false≢true (sym h))

pub same_cell_flip : (x y : Event) → on_one_cell x y ≡ true → on_one_cell y x ≡ true
same_cell_flip x y h = let q = one_cell x y h in on_one y x q.cell q.of_y q.of_x

module _ (rule : Rule) (log : List Event) (read : Event) (is : is_read read ≡ true) where
  n : ℕ
  n = length log

  older : (y : ℕ) (ey : Event) → on_one_cell ey read ≡ true → position_of read < position_of ey → reads_older read ey ≡ true
  older y ey c l = and_from (on_one_cell ey read && is_read read) (ltb (position_of read) (position_of ey)) (and_from (on_one_cell ey read) (is_read read) c is) (lt-ltb (position_of read) (position_of ey) l)

  -- a read that may come next is allowed
  module _ (may : may_read rule log read ≡ true) where
    none : (y : ℕ) (ey : Event) → event_at log y ≡ Some ey → is_passed rule log read y ey ≡ true → ⊥
    none y ey at p = not_true (any_event (λ y ey. is_passed rule log read y ey) log) may (any-from (λ y ey. is_passed rule log read y ey) log y ey at p)

    from_there : (a b y : ℕ) (ea eb ey : Event) → Linked rule (read ∷ log) a b (length log) y ea eb read ey → b ≤ a → has_seq_cst_from rule log read b ≡ true
    from_there a b y ea eb ey l h = elim l.from [
      | inl p ↦ (let q : event_at (read ∷ log) (length log) ≡ Some ea = rw p at l.at_a in
          let r = event-newest read log in
          let same : ea ≡ read = cc in
          or_left (is_seq_cst (order_of read)) _ (ap (λ e. is_seq_cst (order_of e)) (sym same) ∙ l.seq_a))
      | inr p ↦ (let less = before-less rule (read ∷ log) a (length log) p.1 in
          let at : event_at log a ≡ Some ea = sym (event-older read log a less.0) ∙ l.at_a in
          or_right (is_seq_cst (order_of read)) _ (any-from (λ a ea. is_seq_cst_fence ea && leb b a && happens_before rule (read ∷ log) a (length log)) log a ea at
          (and_from (is_seq_cst_fence ea && leb b a) _ (and_from (is_seq_cst_fence ea) (leb b a) (and_from (is_fence ea) (is_seq_cst (order_of ea)) p.0 l.seq_a) (le-leb b a h)) p.1)))
    ]

    fenced_there : (a b y : ℕ) (ea eb ey : Event) → Linked rule (read ∷ log) a b (length log) y ea eb read ey → b < length log → is_or_is_fenced rule log y b eb ≡ true
    fenced_there a b y ea eb ey l h = elim l.to [
      | inl p ↦ or_left (eqb b y) _ (eq-eqb b y p)
      | inr p ↦ or_right (eqb b y) _ (and_from (is_fence eb) (happens_before rule log y b) p.0 (sym (before-older rule read log y b h) ∙ p.1))
    ]

    bound_there : (a b y : ℕ) (ea eb ey : Event) → Linked rule (read ∷ log) a b (length log) y ea eb read ey → b < length log → b ≤ a → is_bound rule log read y ≡ true
    bound_there a b y ea eb ey l h k =
        any-from (λ b eb. has_seq_cst b eb && is_or_is_fenced rule log y b eb && has_seq_cst_from rule log read b) log b eb (sym (event-older read log b h) ∙ l.at_b)
        (and_from (has_seq_cst b eb && is_or_is_fenced rule log y b eb) (has_seq_cst_from rule log read b)
        (and_from (has_seq_cst b eb) (is_or_is_fenced rule log y b eb) l.seq_b (fenced_there a b y ea eb ey l h))
        (from_there a b y ea eb ey l k))

    pub allowed-from : Allowed rule log read
    allowed-from = record {
      newer = λ i ei at c r before. elim (cases_lt (position_of read) (position_of ei)) [
        | inl l ↦ absurd (none i ei at (and_from (reads_older read ei) _ (older i ei c l) (or_left (happens_before rule (read ∷ log) i (length log)) _ before)))
        | inr l ↦ l
      ];
      ordered = λ a b y ea eb ey l ly lb. elim (cases_lt a b) [
        | inl h ↦ h
        | inr h ↦ (let f = first-cases read ey l.first in elim f.1 [
          | inl less ↦ absurd (none y ey (sym (event-older read log y ly) ∙ l.at_y) (and_from (reads_older read ey) _ (older y ey (same_cell_flip read ey f.0) less) (or_right (happens_before rule (read ∷ log) y (length log)) _ (bound_there a b y ea eb ey l lb h))))
          | inr m ↦ absurd (read_alone read is m.0)
        ])
      ];
    }

  -- and only such a read is
  module _ (w : Allowed rule log read) where
    linked : (a b y : ℕ) (ea eb ey : Event) → event_at (read ∷ log) a ≡ Some ea → is_seq_cst (order_of ea) ≡ true → (a ≡ length log) ⊎ ((is_fence ea ≡ true) × (happens_before rule (read ∷ log) a (length log) ≡ true)) → event_at log y ≡ Some ey → reads_older read ey ≡ true → event_at log b ≡ Some eb → (has_seq_cst b eb && is_or_is_fenced rule log y b eb) ≡ true → Linked rule (read ∷ log) a b (length log) y ea eb read ey
    linked a b y ea eb ey at_a seq from at_y o at_b p =
        let q = and_parts (has_seq_cst b eb) (is_or_is_fenced rule log y b eb) p in
        let s = and_parts (on_one_cell ey read && is_read read) (ltb (position_of read) (position_of ey)) o in
        let t = and_parts (on_one_cell ey read) (is_read read) s.0 in
        record {
          at_a = at_a;
          at_b = event-kept read log b eb at_b;
          at_x = event-newest read log;
          at_y = event-kept read log y ey at_y;
          seq_a = seq;
          seq_b = q.0;
          first = and_from (on_one_cell read ey) _ (same_cell_flip ey read t.0) (or_left (ltb (position_of read) (position_of ey)) _ s.1);
          from = from;
          to = elim (or_cases (eqb b y) _ q.1) [
            | inl r ↦ inl (eqb-true b y r)
            | inr r ↦ (let u = and_parts (is_fence eb) (happens_before rule log y b) r in inr (u.0, before-older rule read log y b (event-below log b eb at_b) ∙ u.1))
          ];
        }

    not_bound : (y : ℕ) (ey : Event) → event_at log y ≡ Some ey → reads_older read ey ≡ true → is_bound rule log read y ≡ true → ⊥
    not_bound y ey at_y o h =
        let s = any-some (λ b eb. has_seq_cst b eb && is_or_is_fenced rule log y b eb && has_seq_cst_from rule log read b) log h in
        let p = and_parts (has_seq_cst s.0 s.1 && is_or_is_fenced rule log y s.0 s.1) (has_seq_cst_from rule log read s.0) s.3 in
        let below = event-below log s.0 s.1 s.2 in
        let below_y = event-below log y ey at_y in
        elim (or_cases (is_seq_cst (order_of read)) _ p.1) [
          | inl q ↦ (let k = w.ordered (length log) s.0 y read s.1 ey (linked (length log) s.0 y read s.1 ey (event-newest read log) q (inl refl) at_y o s.2 p.0) below_y below in omega arith)
          | inr q ↦ (let t = any-some (λ a ea. is_seq_cst_fence ea && leb s.0 a && happens_before rule (read ∷ log) a (length log)) log q in
              let u = and_parts (is_seq_cst_fence t.1 && leb s.0 t.0) (happens_before rule (read ∷ log) t.0 (length log)) t.3 in
              let v = and_parts (is_seq_cst_fence t.1) (leb s.0 t.0) u.0 in
              let x = and_parts (is_fence t.1) (is_seq_cst (order_of t.1)) v.0 in
              let le = leb-true s.0 t.0 v.1 in
              let k = w.ordered t.0 s.0 y t.1 s.1 ey (linked t.0 s.0 y t.1 s.1 ey (event-kept read log t.0 t.1 t.2) x.1 (inr (x.0, u.1)) at_y o s.2 p.0) below_y below in omega arith)
        ]

    pub not_passed : (y : ℕ) (ey : Event) → event_at log y ≡ Some ey → is_passed rule log read y ey ≡ true → ⊥
    not_passed y ey at h =
        let p = and_parts (reads_older read ey) _ h in
        let s = and_parts (on_one_cell ey read && is_read read) (ltb (position_of read) (position_of ey)) p.0 in
        let t = and_parts (on_one_cell ey read) (is_read read) s.0 in
        let less = ltb-true (position_of read) (position_of ey) s.1 in
        elim (or_cases (happens_before rule (read ∷ log) y (length log)) _ p.1) [
          | inl q ↦ (let k = w.newer y ey at t.0 is q in omega arith)
          | inr q ↦ not_bound y ey at p.0 q
        ]

pub may_read-is : (rule : Rule) (initial : CellId → Scalar) (log : List Event) (read : Event) → is_read read ≡ true → meets_axioms rule initial log ≡ true → fits_form initial log read ≡ true → may_read rule log read ≡ meets_axioms rule initial (read ∷ log)
may_read-is rule initial log read is m f = go (may_read rule log read) refl (meets_axioms rule initial (read ∷ log)) refl
  where
    go : (a : Bool) → may_read rule log read ≡ a → (b : Bool) → meets_axioms rule initial (read ∷ log) ≡ b → may_read rule log read ≡ meets_axioms rule initial (read ∷ log)
    go true p true q = p ∙ sym q
    go false p false q = p ∙ sym q
    go true p false q = let k = (meets-newest rule read log initial).1 (m, f, allowed-from rule log read is p) in absurd (false≢true (sym q ∙ k))
    go false p true q =
        let k = (meets-newest rule read log initial).0 q in
        let s = any-some (λ y ey. is_passed rule log read y ey) log (not_false (any_event (λ y ey. is_passed rule log read y ey) log) p) in
        absurd (not_passed rule log read is k.2 s.0 s.1 s.2 s.3)
