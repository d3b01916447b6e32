-- What look-ups for each thread find, over the log.
use Rattle.std.proofs.Common.{◌≡◌, ℕ, ◌<◌, ◌≤◌, Bool, true, false, ◌&&◌, ltb, List, [], ◌∷◌, length, Some, slice_index, refl, sym, ◌∙◌, inl, inr, ◌⊎◌, arith}
use Rattle.std.proofs.lemmas.Bool.{false≢true, ltb-true, lt-ltb, and_from, and_parts}
use Rattle.mu_values.specs.declared.scalars.Scalar.{Scalar}
use Rattle.mu_values.specs.declared.cells.CellId.{CellId}
use Rattle.mem_axioms.specs.Events.{accesses, modifies, is_read, position_of}
use Rattle.mem_axioms.specs.Logs.{event_at}
use Rattle.mem_axioms.specs.Form.{has_form_by}
use Rattle.mem_axioms.specs.declared.types.Event.{Event}
use Rattle.mem_axioms.specs.declared.types.Rule.{Rule}
use Rattle.mem_axioms.specs.declared.types.Mode.TheVariants.{Read, Write, Update}
use Rattle.mem_axioms.specs.declared.types.Kind.{Kind}
use Rattle.mem_axioms.specs.declared.types.Kind.TheVariants.{Access, Fence, NewStack, NewThread, Leave, Enter, Wake, Woken}
use Rattle.mem_axioms.specs.Lemmas.Numbers.{event-kept, event-cases, event-newest}
use Rattle.mem_axioms.specs.Lemmas.Steps.{in-order}
use Rattle.mem_axioms.specs.Lemmas.Positions.{form-less}
use Rattle.mem_axioms.specs.Lemmas.Relations.{Coherence}
use Rattle.mem_axioms.specs.Lemmas.Kept.{on_one}
use Rattle.write_history.specs.declared.access_index.Entry.{Entry}
use Rattle.view_parts.specs.Indexed.{entries_by}
use Rattle.view_parts.specs.LookUps.{position_known}
use Rattle.view_parts.specs.FloorLooks.{IsFound}
use Rattle.view_parts.specs.Lemmas.Entries.{last_below, entries-floor}

mode-kind : (t : ℕ) (k : Kind) (c : CellId) → accesses c (record { thread = t; kind = k }) ≡ true → (is_read (record { thread = t; kind = k }) ≡ true) ⊎ (modifies c (record { thread = t; kind = k }) ≡ true)
mode-kind t (Access Read cell o p x) c h = inl refl
mode-kind t (Access Write cell o p x) c h = inr h
mode-kind t (Access Update cell o p x) c h = inr h
mode-kind t (Fence o) c h = absurd (false≢true h)
mode-kind t (NewStack o) c h = absurd (false≢true h)
mode-kind t (NewThread o) c h = absurd (false≢true h)
mode-kind t (Leave o) c h = absurd (false≢true h)
mode-kind t (Enter o) c h = absurd (false≢true h)
mode-kind t (Wake o n) c h = absurd (false≢true h)
mode-kind t (Woken o) c h = absurd (false≢true h)

-- the accesses of one cell by one thread have rising positions
pub rising : (rule : Rule) (right : List Event → CellId → ℕ → Scalar → Bool) (log : List Event) (c : CellId) (i j : ℕ) (ei ej : Event) → has_form_by right log ≡ true → Coherence rule log → event_at log i ≡ Some ei → event_at log j ≡ Some ej → i < j → ei.thread ≡ ej.thread
    → accesses c ei ≡ true → accesses c ej ≡ true → position_of ei ≤ position_of ej
rising rule right log c i j ei ej f a hi hj l t ci cj = elim (mode-kind ej.thread ej.kind c cj) [
  | inl r ↦ a i j ei ej (record { at_i = hi; at_j = hj; cell = on_one ei ej c ci cj; read = r; before = in-order rule log i j ei ej hi hj l t })
  | inr m ↦ (let x = form-less right log i j ei ej c f hi hj l ci m in omega arith)
]

-- positions that rise along the events that pass
abbrev pub Rises : (ℕ → Event → ℕ) → (Event → Bool) → List Event → Type 0
Rises position test log = (i j : ℕ) (ei ej : Event) → event_at log i ≡ Some ei → event_at log j ≡ Some ej → i < j → test ei ≡ true → test ej ≡ true → position i ei ≤ position j ej

module _ (position : ℕ → Event → ℕ) (test : Event → Bool) (bound : ℕ) where
  -- of events whose positions rise, the last has the greatest
  last-greatest : (log : List Event) → Rises position test log → (y : ℕ) (ey : Event) → event_at log y ≡ Some ey → test ey ≡ true → y < bound → position y ey ≤ last_below position test bound log
  last-greatest [] up y ey at t l = absurd (cc)
  last-greatest (e ∷ past) up y ey at t l = go (last-greatest past (λ i j ei ej hi hj. up i j ei ej (event-kept e past i ei hi) (event-kept e past j ej hj)) y ey) (test e && ltb (length past) bound) refl (event-cases e past y ey at)
    where
      go : (event_at past y ≡ Some ey → test ey ≡ true → y < bound → position y ey ≤ last_below position test bound past) → (b : Bool) → (test e && ltb (length past) bound) ≡ b → ((y ≡ length past) × (ey ≡ e)) ⊎ ((y < length past) × (event_at past y ≡ Some ey)) → position y ey ≤ last_below position test bound (e ∷ past)
      go ih true p (inl q) = rw (p, last_below) (rw (q.0, q.1) (omega arith))
      go ih true p (inr q) = rw (p, last_below) (up y (length past) ey e at (event-newest e past) q.0 t (and_parts (test e) _ p).0)
      go ih false p (inl q) = absurd (false≢true (sym p ∙ and_from (test e) _ (rw q.1 at t) (lt-ltb (length past) bound (rw q.0 at l))))
      go ih false p (inr q) = rw (p, last_below) (ih q.1 t l)

  -- what is found is the position of such an event, or 0
  last-found : (log : List Event) → (last_below position test bound log ≡ 0) ⊎ ((y : ℕ) × (ey : Event) × (event_at log y ≡ Some ey) × (test ey ≡ true) × (y < bound) × (last_below position test bound log ≡ position y ey))
  last-found [] = inl refl
  last-found (e ∷ past) = go (last-found past) (test e && ltb (length past) bound) refl
    where
      go : (last_below position test bound past ≡ 0) ⊎ ((y : ℕ) × (ey : Event) × (event_at past y ≡ Some ey) × (test ey ≡ true) × (y < bound) × (last_below position test bound past ≡ position y ey)) → (b : Bool) → (test e && ltb (length past) bound) ≡ b
          → (last_below position test bound (e ∷ past) ≡ 0) ⊎ ((y : ℕ) × (ey : Event) × (event_at (e ∷ past) y ≡ Some ey) × (test ey ≡ true) × (y < bound) × (last_below position test bound (e ∷ past) ≡ position y ey))
      go ih true p = let q = and_parts (test e) _ p in inr (length past, e, event-newest e past, q.0, ltb-true (length past) bound q.1, rw (p, last_below) refl)
      go (inl z) false p = inl (rw (p, last_below) z)
      go (inr z) false p = inr (z.0, z.1, event-kept e past z.0 z.1 z.2, z.3, z.4, rw (p, last_below) z.5)

-- it is at most p exactly where the positions of the events that the clock knows are
module _ (position : ℕ → Event → ℕ) (test : ℕ → Event → Bool) (log : List Event) (entries : ℕ → List Entry) (clock : List ℕ) (found : ℕ)
    (ix : (u : ℕ) → entries u ≡ entries_by position (test u) log)
    (own : (u : ℕ) (e : Event) → test u e ≡ true → u ≡ e.thread)
    (up : (u : ℕ) → Rises position (test u) log)
    (f : IsFound entries clock found) where
  known-at : (u : ℕ) → position_known entries clock u ≡ last_below position (test u) (slice_index clock u) log
  known-at u = rw (ix u) (entries-floor position (test u) (slice_index clock u) log)

  pub found-above : (p : ℕ) → found ≤ p → (y : ℕ) (ey : Event) → event_at log y ≡ Some ey → test ey.thread ey ≡ true → y < slice_index clock ey.thread → position y ey ≤ p
  found-above p l y ey at t k =
      let q = last-greatest position (test ey.thread) (slice_index clock ey.thread) log (up ey.thread) y ey at t k in
      let a = f.above ey.thread in
      let e = known-at ey.thread in
      omega (arith, l, q, a, e)

  pub found-below : (p : ℕ) → ((y : ℕ) (ey : Event) → event_at log y ≡ Some ey → test ey.thread ey ≡ true → y < slice_index clock ey.thread → position y ey ≤ p) → found ≤ p
  found-below p h = f.least p (λ u. let e = known-at u in elim (last-found position (test u) (slice_index clock u) log) [
    | inl z ↦ omega (arith, z, e)
    | inr z ↦ (let o = own u z.1 z.3 in let q = h z.0 z.1 z.2 (rw o at z.3) (rw o at z.4) in omega (arith, z.5, q, e))
  ])
