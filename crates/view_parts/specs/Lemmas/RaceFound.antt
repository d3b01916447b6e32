-- The least of what look-ups for each thread find is the race.
use Rattle.std.proofs.Common.{◌≡◌, ◌≢◌, ℕ, suc, ◌≤◌, Bool, true, false, cond, not, ◌&&◌, ◌||◌, eqb, ltb, leb, ◌-◌, List, ◌∷◌, length, Option, Some, None, slice_index, refl, sym, ap, ◌∙◌, inl, inr, arith}
use Rattle.std.proofs.lemmas.Bool.{false≢true, le-leb, lt-ltb, le-ltb, leb-true, eqb-true, eq-eqb, cases_lt, and_from, and_parts}
use Rattle.mu_values.specs.declared.scalars.Scalar.{Scalar}
use Rattle.mu_values.specs.declared.cells.CellId.{CellId}
use Rattle.mem_axioms.specs.Events.{accesses, is_atomic, order_of, is_modification, on_one_cell}
use Rattle.mem_axioms.specs.Logs.{event_at, least_event}
use Rattle.mem_axioms.specs.HappensBefore.{happens_before}
use Rattle.mem_axioms.specs.Races.{may_race, races, race}
use Rattle.mem_axioms.specs.declared.types.Event.{Event}
use Rattle.mem_axioms.specs.declared.types.Rule.{Rule}
use Rattle.mem_axioms.specs.Lemmas.Racings.{LeastOr, least-is}
use Rattle.mem_axioms.specs.Lemmas.Kept.{on_one, one_cell}
use Rattle.clock_laws.specs.Clocks.{views, knew}
use Rattle.clock_laws.specs.Lemmas.Tests.{next-test}
use Rattle.write_history.specs.Indexes.{first_after}
use Rattle.view_parts.specs.declared.families.Family.TheVariants.{Any, Modifications, NotAtomic, NotAtomicModifications}
use Rattle.view_parts.specs.Families.{is_not_atomic, race_family}
use Rattle.view_parts.specs.Touched.{entries_at}
use Rattle.view_parts.specs.Indexed.{entries_of, by_thread}
use Rattle.view_parts.specs.LookUps.{FirstAfter, LeastOf}
use Rattle.view_parts.specs.Racing.{IsFirstUnknown}
use Rattle.view_parts.specs.Answers.{one_higher, RaceFacts}
use Rattle.view_parts.specs.Holding.{CellHolds, IsUntouched}
use Rattle.view_parts.specs.declared.cell.CellViews.{CellViews}
use Rattle.mem_axioms.specs.Events.{position_of}
use Rattle.view_parts.specs.Lemmas.Entries.{entries-after}
use Rattle.view_parts.specs.Lemmas.CellsKept.{one-access}

-- of the accesses of its cell, those that may race with e
abbrev family_of : Event → Event → Bool
family_of e ei = cond (is_not_atomic e) (cond (is_modification e) true (is_modification ei)) (cond (is_modification e) (is_not_atomic ei) (is_not_atomic ei && is_modification ei))

clash : (a b m n s t : Bool) → (((a && not b) && (m || n)) && not (s && t)) ≡ ((a && not b) && cond (not t) (cond n true m) (cond n (not s) (not s && m)))
clash false b m n s t = refl
clash true true m n s t = refl
clash true false true true true true = refl
clash true false true true true false = refl
clash true false true true false true = refl
clash true false true true false false = refl
clash true false true false true true = refl
clash true false true false true false = refl
clash true false true false false true = refl
clash true false true false false false = refl
clash true false false true true true = refl
clash true false false true true false = refl
clash true false false true false true = refl
clash true false false true false false = refl
clash true false false false true true = refl
clash true false false false true false = refl
clash true false false false false true = refl
clash true false false false false false = refl

not-is : (b : Bool) → (b ≡ true → ⊥) → not b ≡ true
not-is true h = absurd (h refl)
not-is false h = refl

is-not : (b : Bool) → not b ≡ true → b ≡ false
is-not true h = absurd (false≢true h)
is-not false h = refl

module _ (rule : Rule) (right : List Event → CellId → ℕ → Scalar → Bool) (log : List Event) (cell : CellId) (e : Event) (kept : CellViews) (clock : List ℕ) (f : RaceFacts rule right log cell e kept clock) where
  abbrev test : ℕ → Event → Bool
  test u = by_thread (family_of e) cell u

  indexed : (u : ℕ) → entries_at kept.accesses (race_family e) u ≡ entries_of (test u) log
  indexed u = go (is_not_atomic e) (is_modification e)
    where
      go : (a b : Bool) → entries_at kept.accesses (cond a (cond b Any Modifications) (cond b NotAtomic NotAtomicModifications)) u
          ≡ entries_of (by_thread (λ ei. cond a (cond b true (is_modification ei)) (cond b (is_not_atomic ei) (is_not_atomic ei && is_modification ei))) cell u) log
      go true true = f.holds.accesses Any u
      go true false = f.holds.accesses Modifications u
      go false true = f.holds.accesses NotAtomic u
      go false false = f.holds.accesses NotAtomicModifications u

  before-is : (i : ℕ) (ei : Event) → event_at log i ≡ Some ei → happens_before rule (e ∷ log) i (length log) ≡ ltb i (slice_index clock ei.thread)
  before-is i ei at = next-test rule right log f.form e f.fits i ei at ∙ ap (λ (k : ℕ). ltb i k) (sym (f.knows ei.thread))

  -- it races exactly where it is of the family, by another thread, and not known
  races-are : (i : ℕ) (ei : Event) → event_at log i ≡ Some ei → races rule log e i ei ≡ true → (ei.thread ≢ e.thread) × (test ei.thread ei ≡ true) × (slice_index clock ei.thread ≤ i)
  races-are i ei at h =
      let p = and_parts (may_race ei e) (not (happens_before rule (e ∷ log) i (length log))) h in
      let q = and_parts (on_one_cell ei e && not (eqb ei.thread e.thread)) (family_of e ei) (sym (clash (on_one_cell ei e) (eqb ei.thread e.thread) (is_modification ei) (is_modification e) (is_atomic (order_of ei)) (is_atomic (order_of e))) ∙ p.0) in
      let r = and_parts (on_one_cell ei e) (not (eqb ei.thread e.thread)) q.0 in
      let c = one_cell ei e r.0 in
      let same = one-access e c.cell cell c.of_y f.access in
      let a : accesses cell ei ≡ true = rw same at c.of_x in
      let n = is-not (happens_before rule (e ∷ log) i (length log)) p.1 in (
        λ z. false≢true (sym (is-not (eqb ei.thread e.thread) r.1) ∙ eq-eqb ei.thread e.thread z),
        and_from (accesses cell ei && family_of e ei) (eqb ei.thread ei.thread) (and_from (accesses cell ei) (family_of e ei) a q.1) (eq-eqb ei.thread ei.thread refl),
        unknown i (slice_index clock ei.thread) (sym (before-is i ei at) ∙ n),
      )
    where
      unknown : (i k : ℕ) → ltb i k ≡ false → k ≤ i
      unknown i k h = elim (cases_lt i k) [ inl l ↦ absurd (false≢true (sym h ∙ lt-ltb i k l)) | inr l ↦ l ]

  are-races : (i : ℕ) (ei : Event) (u : ℕ) → event_at log i ≡ Some ei → (u ≢ e.thread) → test u ei ≡ true → slice_index clock u ≤ i → races rule log e i ei ≡ true
  are-races i ei u at n t l =
      let p = and_parts (accesses cell ei && family_of e ei) (eqb u ei.thread) t in
      let q = and_parts (accesses cell ei) (family_of e ei) p.0 in
      let own = eqb-true u ei.thread p.1 in
      let apart : not (eqb ei.thread e.thread) ≡ true = not-is (eqb ei.thread e.thread) (λ z. n (own ∙ eqb-true ei.thread e.thread z)) in
      let c : may_race ei e ≡ true = clash (on_one_cell ei e) (eqb ei.thread e.thread) (is_modification ei) (is_modification e) (is_atomic (order_of ei)) (is_atomic (order_of e))
      ∙ and_from (on_one_cell ei e && not (eqb ei.thread e.thread)) (family_of e ei) (and_from (on_one_cell ei e) (not (eqb ei.thread e.thread)) (on_one ei e cell q.0 f.access) apart) q.1 in
      let k : slice_index clock ei.thread ≤ i = rw own at l in
      let b : happens_before rule (e ∷ log) i (length log) ≡ false = before-is i ei at ∙ le-ltb i (slice_index clock ei.thread) k in
      and_from (may_race ei e) (not (happens_before rule (e ∷ log) i (length log))) c (rw b refl)

  found-races : (x : ℕ) → (u : ℕ) × FirstAfter (entries_at kept.accesses (race_family e)) clock e.thread u x → (i : ℕ) × (ei : Event) × (x ≡ suc i) × (event_at log i ≡ Some ei) × (races rule log e i ei ≡ true)
  found-races x h = go (least_event (λ k ek. test h.0 ek && leb (slice_index clock h.0) k) log) (least-is (λ k ek. test h.0 ek && leb (slice_index clock h.0) k) log)
      (sym (entries-after (λ n ek. position_of ek) (test h.0) (slice_index clock h.0) log) ∙ (rw (indexed h.0) at h.1.1))
    where
      go : (o : Option ℕ) → LeastOr (λ k ek. test h.0 ek && leb (slice_index clock h.0) k) log o → one_higher o ≡ Some x → (i : ℕ) × (ei : Event) × (x ≡ suc i) × (event_at log i ≡ Some ei) × (races rule log e i ei ≡ true)
      go None w q = absurd (cc)
      go (Some i) w q =
          let p = and_parts (test h.0 w.ei) (leb (slice_index clock h.0) i) w.passes in
          (i, w.ei, cc, w.there, are-races i w.ei h.0 w.there h.1.0 p.0 (leb-true (slice_index clock h.0) i p.1))

  race-is-found : (i : ℕ) (ei : Event) → event_at log i ≡ Some ei → races rule log e i ei ≡ true → (x : ℕ) × ((u : ℕ) × FirstAfter (entries_at kept.accesses (race_family e)) clock e.thread u x) × (x ≤ suc i)
  race-is-found i ei at r = go (least_event (λ k ek. test ei.thread ek && leb (slice_index clock ei.thread) k) log) (least-is (λ k ek. test ei.thread ek && leb (slice_index clock ei.thread) k) log)
      (rw (indexed ei.thread) (entries-after (λ n ek. position_of ek) (test ei.thread) (slice_index clock ei.thread) log))
    where
      parts : (ei.thread ≢ e.thread) × (test ei.thread ei ≡ true) × (slice_index clock ei.thread ≤ i)
      parts = races-are i ei at r

      passes : (test ei.thread ei && leb (slice_index clock ei.thread) i) ≡ true
      passes = and_from (test ei.thread ei) (leb (slice_index clock ei.thread) i) parts.1 (le-leb (slice_index clock ei.thread) i parts.2)

      go : (o : Option ℕ) → LeastOr (λ k ek. test ei.thread ek && leb (slice_index clock ei.thread) k) log o → first_after (slice_index clock ei.thread) (entries_at kept.accesses (race_family e) ei.thread) ≡ one_higher o
          → (x : ℕ) × ((u : ℕ) × FirstAfter (entries_at kept.accesses (race_family e)) clock e.thread u x) × (x ≤ suc i)
      go None w h = absurd (w i ei at passes)
      go (Some k) w h = let l = w.least i ei at passes in (suc k, (ei.thread, (parts.0, h)), omega (arith, l))

  pub race-found : (r : Option ℕ) → IsFirstUnknown (entries_at kept.accesses (race_family e)) clock e.thread r → r ≡ one_higher (race rule log e)
  unfolding race
  race-found r h = go r h.least (race rule log e) (least-is (races rule log e) log)
    where
      go : (r : Option ℕ) → LeastOf (λ i. (u : ℕ) × FirstAfter (entries_at kept.accesses (race_family e)) clock e.thread u i) r → (o : Option ℕ) → LeastOr (races rule log e) log o → r ≡ one_higher o
      go None h None w = refl
      go None h (Some i) w = let c = race-is-found i w.ei w.there w.passes in absurd (h c.0 c.1)
      go (Some x) h None w = let c = found-races x h.0 in absurd (w c.0 c.1 c.3 c.4)
      go (Some x) h (Some i) w =
          let c = found-races x h.0 in
          let d = race-is-found i w.ei w.there w.passes in
          let l = w.least c.0 c.1 c.3 c.4 in
          let m = h.1 d.0 d.1 in
          let p = c.2 in
          let q = d.2 in
          let z : x ≡ suc i = omega (arith, l, m, p, q) in
          ap Some z

-- nothing races with what it does not access
module _ (rule : Rule) (log : List Event) (e : Event) where
  pub no-race : ((i : ℕ) (ei : Event) → event_at log i ≡ Some ei → on_one_cell ei e ≡ true → ⊥) → None ≡ race rule log e
  unfolding race
  no-race h = go (race rule log e) refl (least-is (races rule log e) log)
    where
      go : (o : Option ℕ) → race rule log e ≡ o → LeastOr (races rule log e) log o → None ≡ race rule log e
      go None q w = sym q
      go (Some i) q w =
          let p = and_parts (may_race w.ei e) (not (happens_before rule (e ∷ log) i (length log))) w.passes in
          let a = and_parts ((on_one_cell w.ei e && not (eqb w.ei.thread e.thread)) && (is_modification w.ei || is_modification e)) (not (is_atomic (order_of w.ei) && is_atomic (order_of e))) p.0 in
          let b = and_parts (on_one_cell w.ei e && not (eqb w.ei.thread e.thread)) (is_modification w.ei || is_modification e) a.0 in
          let c = and_parts (on_one_cell w.ei e) (not (eqb w.ei.thread e.thread)) b.0 in
          absurd (h i w.ei w.there c.0)

  pub untouched-no-race : (cell : CellId) → accesses cell e ≡ true → IsUntouched log cell → None ≡ race rule log e
  untouched-no-race cell a h = no-race (λ i ei at o. (let c = one_cell ei e o in let z : accesses cell ei ≡ true = rw (one-access e c.cell cell c.of_y a) at c.of_x in false≢true (sym (h i ei at) ∙ z)))

  pub other-no-race : ((c : CellId) → accesses c e ≡ false) → None ≡ race rule log e
  other-no-race h = no-race (λ i ei at o. (let c = one_cell ei e o in false≢true (sym (h c.cell) ∙ c.of_y)))

-- an index has the event one higher
pub one-lower : (o : Option ℕ) (x : ℕ) → Some x ≡ one_higher o → Some (x - 1) ≡ o
one-lower None x h = absurd (cc)
one-lower (Some i) x h = let p : x ≡ suc i = cc in let q : x - 1 ≡ i = omega (arith, p) in ap Some q

pub one-positive : (o : Option ℕ) (x : ℕ) → Some x ≡ one_higher o → 1 ≤ x
one-positive None x h = absurd (cc)
one-positive (Some i) x h = let p : x ≡ suc i = cc in omega (arith, p)

pub none-lower : (o : Option ℕ) → None ≡ one_higher o → None ≡ o
none-lower None h = refl
none-lower (Some i) h = absurd (cc)
