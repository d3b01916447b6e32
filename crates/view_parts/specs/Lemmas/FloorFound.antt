-- The floor of a load is the greatest of what three look-ups find.
use Rattle.std.proofs.Common.{◌≡◌, ℕ, ◌<◌, ◌≤◌, Bool, true, false, cond, ◌&&◌, ◌||◌, eqb, ltb, List, [], ◌∷◌, length, Some, slice_index, refl, sym, ap, ◌∙◌, inl, inr, ◌⊎◌, arith}
use Rattle.std.proofs.lemmas.Bool.{false≢true, ltb-true, lt-ltb, and_from, and_parts, or_cases, cases_eq, ne_eqb, eq-eqb, eqb-true}
use Rattle.mu_base.specs.declared.order.Order.{Order}
use Rattle.mu_values.specs.declared.scalars.Scalar.{Scalar}
use Rattle.mu_values.specs.declared.cells.CellId.{CellId}
use Rattle.mem_axioms.specs.Events.{accesses, position_of, order_of, is_seq_cst, is_seq_cst_fence}
use Rattle.mem_axioms.specs.Logs.{event_at, newest, last_number, greatest_position}
use Rattle.mem_axioms.specs.Form.{has_form, has_form_by}
use Rattle.mem_axioms.specs.Axioms.{is_coherent, is_seq_cst_ordered, meets_axioms}
use Rattle.mem_axioms.specs.Floor.{seq_cst_limit, first_kind, second_kind, raises_floor, floor}
use Rattle.mem_axioms.specs.declared.types.Event.{Event}
use Rattle.mem_axioms.specs.declared.types.Rule.{Rule}
use Rattle.mem_axioms.specs.Lemmas.Numbers.{event-kept, event-cases, event-newest}
use Rattle.mem_axioms.specs.Lemmas.Relations.{Coherence, coherence-is}
use Rattle.mem_axioms.specs.Lemmas.Floors.{greatest-at, greatest-below}
use Rattle.mem_axioms.specs.Lemmas.Positions.{form-position}
use Rattle.clock_laws.specs.Clocks.{views}
use Rattle.clock_laws.specs.ViewFloor.{known_access, view_limit, fences_knew, raises_view_floor, view_floor}
use Rattle.clock_laws.specs.Lemmas.FloorTests.{view_floor-is}
use Rattle.clocks.specs.Tables.{table_at}
use Rattle.view_parts.specs.Families.{is_any, has_seq_cst_order}
use Rattle.view_parts.specs.declared.families.Family.TheVariants.{Any, SeqCst}
use Rattle.view_parts.specs.Indexed.{by_thread, accesses_at}
use Rattle.view_parts.specs.Touched.{entries_at}
use Rattle.view_parts.specs.Holding.{RowsHold, CellHolds, IsUntouched, fence_by}
use Rattle.view_parts.specs.Answers.{IsKnown}
use Rattle.view_parts.specs.FloorLooks.{IsFound, FoundFloor}
use Rattle.view_parts.specs.declared.cell.CellViews.{CellViews}
use Rattle.view_parts.specs.declared.rows.Rows.{Rows}
use Rattle.view_parts.specs.Lemmas.Found.{rising, Rises, found-above, found-below}

or_left : (a b : Bool) → a ≡ true → (a || b) ≡ true
or_left true b h = refl
or_left false b h = absurd (false≢true h)

or_right : (a b : Bool) → b ≡ true → (a || b) ≡ true
or_right true b h = refl
or_right false b h = h

-- the greatest number of an event that passes
number-at : (test : ℕ → Event → Bool) (log : List Event) (i : ℕ) (e : Event) → event_at log i ≡ Some e → test i e ≡ true → i ≤ last_number test log
number-at test [] i e h t = absurd (cc)
number-at test (f ∷ past) i e h t = go (test (length past) f) refl (number-at test past i e) (event-cases f past i e h)
  where
    go : (b : Bool) → test (length past) f ≡ b → (event_at past i ≡ Some e → test i e ≡ true → i ≤ last_number test past) → ((i ≡ length past) × (e ≡ f)) ⊎ ((i < length past) × (event_at past i ≡ Some e)) → i ≤ last_number test (f ∷ past)
    go true q ih (inl p) = rw (q, last_number) (let z = p.0 in omega (arith, z))
    go true q ih (inr p) = rw (q, last_number) (let z = p.0 in omega (arith, z))
    go false q ih (inl p) = absurd (false≢true (sym q ∙ (rw (p.0, p.1) at t)))
    go false q ih (inr p) = rw (q, last_number) (ih p.1 t)

pub number-there : (test : ℕ → Event → Bool) (log : List Event) → (last_number test log ≡ 0) ⊎ ((e : Event) × (event_at log (last_number test log) ≡ Some e) × (test (last_number test log) e ≡ true))
number-there test [] = inl refl
number-there test (f ∷ past) = go (test (length past) f) refl (number-there test past)
  where
    go : (b : Bool) → test (length past) f ≡ b → (last_number test past ≡ 0) ⊎ ((e : Event) × (event_at past (last_number test past) ≡ Some e) × (test (last_number test past) e ≡ true))
        → (last_number test (f ∷ past) ≡ 0) ⊎ ((e : Event) × (event_at (f ∷ past) (last_number test (f ∷ past)) ≡ Some e) × (test (last_number test (f ∷ past)) e ≡ true))
    go true q ih = rw (q, last_number) (inr (f, event-newest f past, q))
    go false q (inl z) = rw (q, last_number) (inl z)
    go false q (inr w) = rw (q, last_number) (inr (w.0, event-kept f past (last_number test past) w.0 w.1, w.2))

-- the accesses of a cell by a thread
pub by-parts : (family : Event → Bool) (cell : CellId) (u : ℕ) (e : Event) → by_thread family cell u e ≡ true → (accesses cell e ≡ true) × (family e ≡ true) × (u ≡ e.thread)
by-parts family cell u e h =
    let p = and_parts (accesses cell e && family e) (eqb u e.thread) h in
    let q = and_parts (accesses cell e) (family e) p.0 in
    (q.0, q.1, eqb-true u e.thread p.1)

by-from : (family : Event → Bool) (cell : CellId) (e : Event) → accesses cell e ≡ true → family e ≡ true → by_thread family cell e.thread e ≡ true
by-from family cell e a f = and_from (accesses cell e && family e) (eqb e.thread e.thread) (and_from (accesses cell e) (family e) a f) (eq-eqb e.thread e.thread refl)

pub coherent-of : (rule : Rule) (initial : CellId → Scalar) (log : List Event) → meets_axioms rule initial log ≡ true → Coherence rule log
unfolding meets_axioms
coherent-of rule initial log h = coherence-is rule log (and_parts (has_form initial log) (is_coherent rule log) (and_parts (has_form initial log && is_coherent rule log) (is_seq_cst_ordered rule log) h).0).1

pub form-of : (rule : Rule) (initial : CellId → Scalar) (log : List Event) → meets_axioms rule initial log ≡ true → has_form initial log ≡ true
unfolding meets_axioms
form-of rule initial log h = (and_parts (has_form initial log) (is_coherent rule log) (and_parts (has_form initial log && is_coherent rule log) (is_seq_cst_ordered rule log) h).0).0

family-rises : (rule : Rule) (right : List Event → CellId → ℕ → Scalar → Bool) (log : List Event) (family : Event → Bool) (cell : CellId) → has_form_by right log ≡ true → Coherence rule log → (u : ℕ) → Rises (λ n e. position_of e) (by_thread family cell u) log
family-rises rule right log family cell f a u i j ei ej hi hj l ti tj =
    let p = by-parts family cell u ei ti in
    let q = by-parts family cell u ej tj in
    rising rule right log cell i j ei ej f a hi hj l (sym p.2 ∙ q.2) p.0 q.0

-- the last SEQ_CST fence that a thread knows
module _ (rule : Rule) (log : List Event) (thread : ℕ) where
  abbrev pub is_known_fence : ℕ → Event → Bool
  is_known_fence a ea = is_seq_cst_fence ea && ltb a ((views rule log).thread thread ea.thread)

  pub fence-parts : (u : ℕ) (e : Event) → fence_by u e ≡ true → (is_seq_cst_fence e ≡ true) × (u ≡ e.thread)
  fence-parts u e h = let p = and_parts (is_seq_cst_fence e) (eqb u e.thread) h in (p.0, eqb-true u e.thread p.1)

  fences-rise : (u : ℕ) → Rises (λ n e. n) (fence_by u) log
  fences-rise u i j ei ej hi hj l ti tj = omega arith

  pub limit-found : (rows : Rows) (known : List ℕ) (found : ℕ) → RowsHold rule log rows → IsKnown rule log thread known → IsFound (accesses_at rows.fences.items) known found → found ≡ last_number is_known_fence log
  limit-found rows known found h k f =
      let low : found ≤ last_number is_known_fence log = found-below (λ n e. n) fence_by log (accesses_at rows.fences.items) known found h.fences (λ u e t. (fence-parts u e t).1) fences-rise f (last_number is_known_fence log)
      (λ y ey at t l. number-at is_known_fence log y ey at (and_from (is_seq_cst_fence ey) (ltb y ((views rule log).thread thread ey.thread)) (fence-parts ey.thread ey t).0 (lt-ltb y ((views rule log).thread thread ey.thread) (let z = k ey.thread in omega (arith, l, z))))) in
      let high : last_number is_known_fence log ≤ found = up (number-there is_known_fence log) in
      omega (arith, low, high)
    where
      up : (last_number is_known_fence log ≡ 0) ⊎ ((e : Event) × (event_at log (last_number is_known_fence log) ≡ Some e) × (is_known_fence (last_number is_known_fence log) e ≡ true)) → last_number is_known_fence log ≤ found
      up (inl z) = omega (arith, z)
      up (inr w) =
          let p = and_parts (is_seq_cst_fence w.0) (ltb (last_number is_known_fence log) ((views rule log).thread thread w.0.thread)) w.2 in
          let l = ltb-true (last_number is_known_fence log) ((views rule log).thread thread w.0.thread) p.1 in
          found-above (λ n e. n) fence_by log (accesses_at rows.fences.items) known found h.fences (λ u e t. (fence-parts u e t).1) fences-rise f found (omega arith) (last_number is_known_fence log) w.0 w.1
          (and_from (is_seq_cst_fence w.0) (eqb w.0.thread w.0.thread) p.0 (eq-eqb w.0.thread w.0.thread refl)) (let z = k w.0.thread in omega (arith, l, z))

  pub limit-is : (order : Order) → is_seq_cst order ≡ false → view_limit (views rule log) log thread order ≡ last_number is_known_fence log
  limit-is order h = rw h refl

  pub limit-newest : (order : Order) → is_seq_cst order ≡ true → view_limit (views rule log) log thread order ≡ length log
  limit-newest order h = rw h refl

-- nothing is before number 0
before-zero : (rule : Rule) (log : List Event) (u : ℕ) → (views rule log).before 0 u ≡ 0
before-zero rule [] u = refl
before-zero rule (e ∷ []) u = refl
before-zero rule (e ∷ (f ∷ past)) u = rw (ne_eqb 0 (length (f ∷ past)) (λ z. absurd (omega (arith, z)))) (before-zero rule (f ∷ past) u)

-- what the SEQ_CST fences before the limit knew
pub before-known : (rule : Rule) (log : List Event) (thread : ℕ) (order : Order) (rows : Rows) (limit : ℕ) → RowsHold rule log rows → limit ≡ view_limit (views rule log) log thread order → (u : ℕ)
    → cond (is_seq_cst order) (slice_index rows.joined u) (cond (eqb limit 0) 0 (table_at rows.before limit u)) ≡ fences_knew (views rule log) (view_limit (views rule log) log thread order) order u
before-known rule log thread order rows limit h e u = go (is_seq_cst order) refl
  where
    old : is_seq_cst order ≡ false → (limit ≡ 0) ⊎ (limit ≡ 0 → ⊥) → cond (eqb limit 0) 0 (table_at rows.before limit u) ≡ (views rule log).before limit u
    old q (inl z) = rw z (sym (before-zero rule log u))
    old q (inr n) = rw (ne_eqb limit 0 n) (there (number-there (is_known_fence rule log thread) log))
      where
        is : limit ≡ last_number (is_known_fence rule log thread) log
        is = e ∙ limit-is rule log thread order q

        there : (last_number (is_known_fence rule log thread) log ≡ 0) ⊎ ((f : Event) × (event_at log (last_number (is_known_fence rule log thread) log) ≡ Some f) × (is_known_fence rule log thread (last_number (is_known_fence rule log thread) log) f ≡ true))
            → table_at rows.before limit u ≡ (views rule log).before limit u
        there (inl z) = absurd (n (is ∙ z))
        there (inr w) =
            let p = and_parts (is_seq_cst_fence w.0) _ w.2 in
            h.before limit w.0 (ap (λ (i : ℕ). event_at log i) is ∙ w.1) p.0 u

    go : (b : Bool) → is_seq_cst order ≡ b → cond (is_seq_cst order) (slice_index rows.joined u) (cond (eqb limit 0) 0 (table_at rows.before limit u)) ≡ fences_knew (views rule log) (view_limit (views rule log) log thread order) order u
    go true q = rw q (h.joined u)
    go false q = pick (view_limit (views rule log) log thread order) e (old q (cases_eq limit 0))
      where
        pick : (l : ℕ) → limit ≡ l → cond (eqb limit 0) 0 (table_at rows.before limit u) ≡ (views rule log).before limit u
            → cond (is_seq_cst order) (slice_index rows.joined u) (cond (eqb limit 0) 0 (table_at rows.before limit u)) ≡ fences_knew (views rule log) l order u
        pick l z x = rw q (x ∙ ap (λ (i : ℕ). (views rule log).before i u) z)

-- the floor
module _ (rule : Rule) (right : List Event → CellId → ℕ → Scalar → Bool) (log : List Event) (thread : ℕ) (cell : CellId) (order : Order) (kept : CellViews) (known below before : List ℕ) (found limit : ℕ)
    (m : has_form_by right log ≡ true) (coherent : Coherence rule log) (h : CellHolds log cell kept)
    (small : (y : ℕ) (ey : Event) → event_at log y ≡ Some ey → ey.thread < 64)
    (k : IsKnown rule log thread known)
    (lim : limit ≡ view_limit (views rule log) log thread order)
    (b : (u : ℕ) → u < 64 → slice_index below u ≡ limit)
    (s : (u : ℕ) → slice_index before u ≡ fences_knew (views rule log) (view_limit (views rule log) log thread order) order u)
    (f : FoundFloor kept known below before found) where
  abbrev kinds : ℕ → Event → Bool
  kinds = raises_view_floor (views rule log) (view_limit (views rule log) log thread order) thread cell order

  own : (family : Event → Bool) (u : ℕ) (e : Event) → by_thread family cell u e ≡ true → u ≡ e.thread
  own family u e t = (by-parts family cell u e t).2

  first-below : f.first ≤ greatest_position kinds log
  first-below = found-below (λ n e. position_of e) (λ u. by_thread is_any cell u) log (entries_at kept.accesses Any) known f.first (h.accesses Any) (own is_any) (family-rises rule right log is_any cell m coherent) f.of_first (greatest_position kinds log)
      (λ y ey at t l. greatest-at kinds log y ey at (or_left (known_access ((views rule log).thread thread) cell y ey) _
      (and_from (accesses cell ey) (ltb y ((views rule log).thread thread ey.thread)) (by-parts is_any cell ey.thread ey t).0 (lt-ltb y ((views rule log).thread thread ey.thread) (let z = k ey.thread in omega (arith, l, z))))))

  second-below : f.second ≤ greatest_position kinds log
  second-below = found-below (λ n e. position_of e) (λ u. by_thread has_seq_cst_order cell u) log (entries_at kept.accesses SeqCst) below f.second (h.accesses SeqCst) (own has_seq_cst_order) (family-rises rule right log has_seq_cst_order cell m coherent) f.of_second (greatest_position kinds log)
      (λ y ey at t l. greatest-at kinds log y ey at (or_right (known_access ((views rule log).thread thread) cell y ey) _
      (or_left (second_kind (view_limit (views rule log) log thread order) cell y ey) _
      (let p = by-parts has_seq_cst_order cell ey.thread ey t in
      and_from (accesses cell ey && is_seq_cst (order_of ey)) (ltb y (view_limit (views rule log) log thread order)) (and_from (accesses cell ey) (is_seq_cst (order_of ey)) p.0 p.1)
      (lt-ltb y (view_limit (views rule log) log thread order) (let z = b ey.thread (small y ey at) in omega (arith, l, z, lim)))))))

  third-below : f.third ≤ greatest_position kinds log
  third-below = found-below (λ n e. position_of e) (λ u. by_thread is_any cell u) log (entries_at kept.accesses Any) before f.third (h.accesses Any) (own is_any) (family-rises rule right log is_any cell m coherent) f.of_third (greatest_position kinds log)
      (λ y ey at t l. greatest-at kinds log y ey at (or_right (known_access ((views rule log).thread thread) cell y ey) _
      (or_right (second_kind (view_limit (views rule log) log thread order) cell y ey) _
      (and_from (accesses cell ey) (ltb y (fences_knew (views rule log) (view_limit (views rule log) log thread order) order ey.thread)) (by-parts is_any cell ey.thread ey t).0
      (lt-ltb y (fences_knew (views rule log) (view_limit (views rule log) log thread order) order ey.thread) (let z = s ey.thread in omega (arith, l, z)))))))

  raised : (y : ℕ) (ey : Event) → event_at log y ≡ Some ey → kinds y ey ≡ true → position_of ey ≤ found
  raised y ey at t = let is = f.is in elim (or_cases (known_access ((views rule log).thread thread) cell y ey) _ t) [
    | inl p ↦ (let q = and_parts (accesses cell ey) (ltb y ((views rule log).thread thread ey.thread)) p in
        let l = ltb-true y ((views rule log).thread thread ey.thread) q.1 in
        let z = k ey.thread in
        found-above (λ n e. position_of e) (λ u. by_thread is_any cell u) log (entries_at kept.accesses Any) known f.first (h.accesses Any) (own is_any) (family-rises rule right log is_any cell m coherent) f.of_first found (omega (arith, is)) y ey at (by-from is_any cell ey q.0 refl) (omega (arith, l, z)))
    | inr r ↦ elim (or_cases (second_kind (view_limit (views rule log) log thread order) cell y ey) _ r) [
      | inl p ↦ (let q = and_parts (accesses cell ey && is_seq_cst (order_of ey)) (ltb y (view_limit (views rule log) log thread order)) p in
          let a = and_parts (accesses cell ey) (is_seq_cst (order_of ey)) q.0 in
          let l = ltb-true y (view_limit (views rule log) log thread order) q.1 in
          let z = b ey.thread (small y ey at) in
          found-above (λ n e. position_of e) (λ u. by_thread has_seq_cst_order cell u) log (entries_at kept.accesses SeqCst) below f.second (h.accesses SeqCst) (own has_seq_cst_order) (family-rises rule right log has_seq_cst_order cell m coherent) f.of_second found (omega (arith, is)) y ey at
          (by-from has_seq_cst_order cell ey a.0 a.1) (omega (arith, l, z, lim)))
      | inr p ↦ (let q = and_parts (accesses cell ey) (ltb y (fences_knew (views rule log) (view_limit (views rule log) log thread order) order ey.thread)) p in
          let l = ltb-true y (fences_knew (views rule log) (view_limit (views rule log) log thread order) order ey.thread) q.1 in
          let z = s ey.thread in
          found-above (λ n e. position_of e) (λ u. by_thread is_any cell u) log (entries_at kept.accesses Any) before f.third (h.accesses Any) (own is_any) (family-rises rule right log is_any cell m coherent) f.of_third found (omega (arith, is)) y ey at (by-from is_any cell ey q.0 refl) (omega (arith, l, z)))
    ]
  ]

  found-view : found ≡ view_floor rule log thread cell order
  unfolding view_floor
  found-view =
      let is = f.is in
      let a = first-below in
      let c = second-below in
      let d = third-below in
      let u = greatest-below kinds log found raised in
      omega (arith, is, a, c, d, u)

  pub floor-found : found ≡ floor rule log thread cell order
  floor-found = found-view ∙ view_floor-is rule right log m thread cell order

-- only accesses of the cell raise its floor
raises-access : (rule : Rule) (log : List Event) (limit thread : ℕ) (cell : CellId) (i : ℕ) (e : Event) → raises_floor rule log limit thread cell i e ≡ true → accesses cell e ≡ true
raises-access rule log limit thread cell i e t = elim (or_cases (first_kind rule log thread cell i e) _ t) [
  | inl p ↦ (and_parts (accesses cell e) _ p).0
  | inr r ↦ elim (or_cases (second_kind limit cell i e) _ r) [
    | inl p ↦ (and_parts (accesses cell e) _ (and_parts (accesses cell e && is_seq_cst (order_of e)) _ p).0).0
    | inr p ↦ (and_parts (accesses cell e) _ p).0
  ]
]

-- an untouched cell has floor 0
pub untouched-floor : (rule : Rule) (log : List Event) (thread : ℕ) (cell : CellId) (order : Order) → IsUntouched log cell → 0 ≡ floor rule log thread cell order
unfolding floor
untouched-floor rule log thread cell order h =
    let limit = seq_cst_limit rule log thread order in
    let z = greatest-below (raises_floor rule log limit thread cell) log 0 (λ i e at t. absurd (false≢true (sym (h i e at) ∙ raises-access rule log limit thread cell i e t))) in
    omega (arith, z)

-- no floor is above the newest position
pub floor-newest : (rule : Rule) (right : List Event → CellId → ℕ → Scalar → Bool) (log : List Event) (thread : ℕ) (cell : CellId) (order : Order) → has_form_by right log ≡ true → floor rule log thread cell order ≤ newest log cell
unfolding floor
floor-newest rule right log thread cell order f =
    let limit = seq_cst_limit rule log thread order in
    greatest-below (raises_floor rule log limit thread cell) log (newest log cell) (λ i e at t. form-position right log i e cell f at (raises-access rule log limit thread cell i e t))
