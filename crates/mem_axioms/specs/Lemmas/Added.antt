-- What the axioms ask of the newest event.
use Rattle.std.proofs.Common.{◌≡◌, ℕ, suc, ◌<◌, ◌≤◌, true, ◌&&◌, eqb, ltb, List, ◌∷◌, length, Some, sym, ◌∙◌, inl, inr, ◌⊎◌, ◌↔◌, arith}
use Rattle.std.proofs.lemmas.Bool.{cases_lt, or_cases, and_from, and_parts, false≢true, ltb-true}
use Rattle.mu_values.specs.declared.scalars.Scalar.{Scalar}
use Rattle.mu_values.specs.declared.cells.CellId.{CellId}
use Rattle.mu_values.specs.SameCell.{same_cell}
use Rattle.mem_axioms.specs.Events.{position_of, stores, is_fence, is_read, is_modification, on_one_cell}
use Rattle.mem_axioms.specs.Logs.{event_at}
use Rattle.mem_axioms.specs.HappensBefore.{happens_before}
use Rattle.mem_axioms.specs.Form.{fits_form, has_form}
use Rattle.mem_axioms.specs.Axioms.{is_coherent, is_seq_cst_ordered, meets_axioms, comes_first}
use Rattle.mem_axioms.specs.Lemmas.Numbers.{event-below, event-kept, event-cases, event-older, event-newest}
use Rattle.mem_axioms.specs.Lemmas.Steps.{before-older, before-less}
use Rattle.mem_axioms.specs.Lemmas.Relations.{Linked, Coherence, InOrder, coherence-is, coherence-from, in_order-is, in_order-from}
use Rattle.mem_axioms.specs.declared.types.Event.{Event}
use Rattle.mem_axioms.specs.declared.types.Rule.{Rule}
use Rattle.mem_axioms.specs.declared.types.Kind.{Kind}
use Rattle.mem_axioms.specs.declared.types.Kind.TheVariants.{Access, Fence, NewStack, NewThread, Leave, Enter, Wake, Woken}
use Rattle.mem_axioms.specs.declared.types.Mode.{Mode}
use Rattle.mem_axioms.specs.declared.types.Mode.TheVariants.{Read, Write, Update}

-- what the axioms ask of an event that comes after the past
pub record Allowed (rule : Rule) (past : List Event) (e : Event) : Type 0 where
  pub newer : (i : ℕ) (ei : Event) → event_at past i ≡ Some ei → on_one_cell ei e ≡ true → is_read e ≡ true → happens_before rule (e ∷ past) i (length past) ≡ true → position_of ei ≤ position_of e
  pub ordered : (a b y : ℕ) (ea eb ey : Event) → Linked rule (e ∷ past) a b (length past) y ea eb e ey → y < length past → b < length past → a < b

no_self-kind : (t : ℕ) (k : Kind) → comes_first (record { thread = t; kind = k }) (record { thread = t; kind = k }) ≡ true → ⊥
no_self-kind t (Access mode cell order position value) h = go mode (or_cases (ltb position position) _ (and_parts (same_cell cell cell) _ h).1)
  where
    go : (mode : Mode) → (ltb position position ≡ true) ⊎ ((stores mode && is_read (record { thread = t; kind = Access mode cell order position value }) && eqb position position) ≡ true) → ⊥
    go mode (inl p) = let q = ltb-true position position p in omega arith
    go Read (inr p) = false≢true p
    go Write (inr p) = false≢true p
    go Update (inr p) = false≢true p
no_self-kind t (Fence o) h = false≢true h
no_self-kind t (NewStack o) h = false≢true h
no_self-kind t (NewThread o) h = false≢true h
no_self-kind t (Leave o) h = false≢true h
no_self-kind t (Enter o) h = false≢true h
no_self-kind t (Wake o n) h = false≢true h
no_self-kind t (Woken o) h = false≢true h

pub no_self : (e : Event) → comes_first e e ≡ true → ⊥
no_self e = no_self-kind e.thread e.kind

not_both-kind : (t : ℕ) (k : Kind) (y : Event) → is_fence (record { thread = t; kind = k }) ≡ true → comes_first (record { thread = t; kind = k }) y ≡ true → ⊥
not_both-kind t (Access mode cell order position value) y f h = false≢true f
not_both-kind t (Fence o) y f h = false≢true h
not_both-kind t (NewStack o) y f h = false≢true h
not_both-kind t (NewThread o) y f h = false≢true h
not_both-kind t (Leave o) y f h = false≢true h
not_both-kind t (Enter o) y f h = false≢true h
not_both-kind t (Wake o n) y f h = false≢true h
not_both-kind t (Woken o) y f h = false≢true h

-- a fence is no access
pub not_both : (e y : Event) → is_fence e ≡ true → comes_first e y ≡ true → ⊥
not_both e y = not_both-kind e.thread e.kind y

read_alone-kind : (t : ℕ) (k : Kind) → is_read (record { thread = t; kind = k }) ≡ true → is_modification (record { thread = t; kind = k }) ≡ true → ⊥
read_alone-kind t (Access Read cell order position value) f h = false≢true h
read_alone-kind t (Access Write cell order position value) f h = false≢true f
read_alone-kind t (Access Update cell order position value) f h = false≢true f
read_alone-kind t (Fence o) f h = false≢true h
read_alone-kind t (NewStack o) f h = false≢true h
read_alone-kind t (NewThread o) f h = false≢true h
read_alone-kind t (Leave o) f h = false≢true h
read_alone-kind t (Enter o) f h = false≢true h
read_alone-kind t (Wake o n) f h = false≢true h
read_alone-kind t (Woken o) f h = false≢true h

pub read_alone : (e : Event) → is_read e ≡ true → is_modification e ≡ true → ⊥
read_alone e = read_alone-kind e.thread e.kind

module _ (rule : Rule) (e : Event) (past : List Event) where
  older_at : (i : ℕ) (ei : Event) → event_at (e ∷ past) i ≡ Some ei → i < length past → event_at past i ≡ Some ei
  older_at i ei h l = sym (event-older e past i l) ∙ h

  pub coherence-past : Coherence rule (e ∷ past) → Coherence rule past
  coherence-past h i j ei ej n = h i j ei ej (record {
    at_i = event-kept e past i ei n.at_i;
    at_j = event-kept e past j ej n.at_j;
    cell = n.cell;
    read = n.read;
    before = before-older rule e past i j (before-less rule past i j n.before).1 ∙ n.before;
  })

  kept_from : (a x : ℕ) (ea : Event) → (a ≡ x) ⊎ ((is_fence ea ≡ true) × (happens_before rule past a x ≡ true)) → (a ≡ x) ⊎ ((is_fence ea ≡ true) × (happens_before rule (e ∷ past) a x ≡ true))
  kept_from a x ea s = elim s [ inl p ↦ inl p | inr p ↦ inr (p.0, before-older rule e past a x (before-less rule past a x p.1).1 ∙ p.1) ]

  back_from : (a x : ℕ) (ea : Event) → x < length past → (a ≡ x) ⊎ ((is_fence ea ≡ true) × (happens_before rule (e ∷ past) a x ≡ true)) → (a ≡ x) ⊎ ((is_fence ea ≡ true) × (happens_before rule past a x ≡ true))
  back_from a x ea l s = elim s [ inl p ↦ inl p | inr p ↦ inr (p.0, sym (before-older rule e past a x l) ∙ p.1) ]

  pub in_order-past : InOrder rule (e ∷ past) → InOrder rule past
  in_order-past h a b x y ea eb ex ey l = h a b x y ea eb ex ey (record {
    at_a = event-kept e past a ea l.at_a;
    at_b = event-kept e past b eb l.at_b;
    at_x = event-kept e past x ex l.at_x;
    at_y = event-kept e past y ey l.at_y;
    seq_a = l.seq_a;
    seq_b = l.seq_b;
    first = l.first;
    from = kept_from a x ea l.from;
    to = elim l.to [ inl p ↦ inl p | inr p ↦ inr (p.0, before-older rule e past y b (before-less rule past y b p.1).1 ∙ p.1) ];
  })

  pub allowed-is : Coherence rule (e ∷ past) → InOrder rule (e ∷ past) → Allowed rule past e
  allowed-is h1 h3 = record {
    newer = λ i ei at c r b. h1 i (length past) ei e (record { at_i = event-kept e past i ei at; at_j = event-newest e past; cell = c; read = r; before = b });
    ordered = λ a b y ea eb ey l ly lb. h3 a b (length past) y ea eb e ey l;
  }

  pub coherence-more : Coherence rule past → Allowed rule past e → Coherence rule (e ∷ past)
  coherence-more h w i j ei ej n = go (event-cases e past j ej n.at_j)
    where
      less : (i < j) × (j < suc (length past))
      less = before-less rule (e ∷ past) i j n.before

      older : event_at past i ≡ Some ei
      older = older_at i ei n.at_i (let l = less in omega arith)

      go : ((j ≡ length past) × (ej ≡ e)) ⊎ ((j < length past) × (event_at past j ≡ Some ej)) → position_of ei ≤ position_of ej
      go (inl p) = rw p.1 (w.newer i ei older (rw p.1 at n.cell) (rw p.1 at n.read) (rw p.0 at n.before))
      go (inr p) = h i j ei ej (record { at_i = older; at_j = p.1; cell = n.cell; read = n.read; before = sym (before-older rule e past i j p.0) ∙ n.before })

  pub in_order-more : InOrder rule past → Allowed rule past e → InOrder rule (e ∷ past)
  in_order-more h w a b x y ea eb ex ey l = go (cases_lt a b)
    where
      ax : a ≤ x
      ax = elim l.from [ inl p ↦ omega arith | inr p ↦ (let q = before-less rule (e ∷ past) a x p.1 in omega arith) ]

      yb : y ≤ b
      yb = elim l.to [ inl p ↦ omega arith | inr p ↦ (let q = before-less rule (e ∷ past) y b p.1 in omega arith) ]

      below_x : x < suc (length past)
      below_x = event-below (e ∷ past) x ex l.at_x

      -- where b is x, the two are one event, and it is an access that comes before itself
      same : b ≡ x → a ≡ x → ⊥
      same p q = elim l.to [
        | inl r ↦ (let s : event_at (e ∷ past) x ≡ Some ey = rw (sym r ∙ p) at l.at_y in let u = l.at_x in let v : ey ≡ ex = cc in no_self ex (rw v at l.first))
        | inr r ↦ (let s : event_at (e ∷ past) x ≡ Some eb = rw p at l.at_b in let u = l.at_x in let v : eb ≡ ex = cc in not_both ex ey (rw v at r.0) l.first)
      ]

      go : (a < b) ⊎ (b ≤ a) → a < b
      go (inl p) = p
      go (inr p) = last (event-cases e past x ex l.at_x)
        where
          last : ((x ≡ length past) × (ex ≡ e)) ⊎ ((x < length past) × (event_at past x ≡ Some ex)) → a < b
          last (inl q) = deep (cases_lt b x)
            where
              deep : (b < x) ⊎ (x ≤ b) → a < b
              deep (inl r) =
                  let u = yb in
                  let k : Linked rule (e ∷ past) a b (length past) y ea eb e ey = rw (q.0, q.1) at l in
                  w.ordered a b y ea eb ey k (let z = q.0 in omega arith) (let z = q.0 in omega arith)
              deep (inr r) = let u = ax in absurd (same (omega arith) (omega arith))
          last (inr q) =
              let u = ax in let v = yb in
              h a b x y ea eb ex ey (record {
                at_a = older_at a ea l.at_a (omega arith);
                at_b = older_at b eb l.at_b (omega arith);
                at_x = q.1;
                at_y = older_at y ey l.at_y (omega arith);
                seq_a = l.seq_a;
                seq_b = l.seq_b;
                first = l.first;
                from = back_from a x ea q.0 l.from;
                to = elim l.to [ inl r ↦ inl r | inr r ↦ inr (r.0, sym (before-older rule e past y b (omega arith)) ∙ r.1) ];
              })

module _ (rule : Rule) (e : Event) (past : List Event) where
  -- the two axioms that do not speak of values
  pub axioms-newest : (Coherence rule (e ∷ past) × InOrder rule (e ∷ past)) ↔ (Coherence rule past × InOrder rule past × Allowed rule past e)
  axioms-newest = (
    λ h. (coherence-past rule e past h.0, in_order-past rule e past h.1, allowed-is rule e past h.0 h.1),
    λ h. (coherence-more rule e past h.0 h.2, in_order-more rule e past h.1 h.2),
  )

  pub meets-newest : (initial : CellId → Scalar) → (meets_axioms rule initial (e ∷ past) ≡ true) ↔ ((meets_axioms rule initial past ≡ true) × (fits_form initial past e ≡ true) × Allowed rule past e)
  unfolding meets_axioms
  meets-newest initial = (there, back)
    where
      there : meets_axioms rule initial (e ∷ past) ≡ true → (meets_axioms rule initial past ≡ true) × (fits_form initial past e ≡ true) × Allowed rule past e
      there h =
          let p = and_parts (has_form initial (e ∷ past) && is_coherent rule (e ∷ past)) (is_seq_cst_ordered rule (e ∷ past)) h in
          let q = and_parts (has_form initial (e ∷ past)) (is_coherent rule (e ∷ past)) p.0 in
          let f = and_parts (fits_form initial past e) (has_form initial past) q.0 in
          let n = axioms-newest.0 (coherence-is rule (e ∷ past) q.1, in_order-is rule (e ∷ past) p.1) in (
            and_from (has_form initial past && is_coherent rule past) (is_seq_cst_ordered rule past) (and_from (has_form initial past) (is_coherent rule past) f.1 (coherence-from rule past n.0)) (in_order-from rule past n.1),
            f.0,
            n.2,
          )

      back : (meets_axioms rule initial past ≡ true) × (fits_form initial past e ≡ true) × Allowed rule past e → meets_axioms rule initial (e ∷ past) ≡ true
      back h =
          let p = and_parts (has_form initial past && is_coherent rule past) (is_seq_cst_ordered rule past) h.0 in
          let q = and_parts (has_form initial past) (is_coherent rule past) p.0 in
          let n = axioms-newest.1 (coherence-is rule past q.1, in_order-is rule past p.1, h.2) in
          and_from (has_form initial (e ∷ past) && is_coherent rule (e ∷ past)) (is_seq_cst_ordered rule (e ∷ past))
          (and_from (has_form initial (e ∷ past)) (is_coherent rule (e ∷ past)) (and_from (fits_form initial past e) (has_form initial past) h.1 q.0) (coherence-from rule (e ∷ past) n.0))
          (in_order-from rule (e ∷ past) n.1)
