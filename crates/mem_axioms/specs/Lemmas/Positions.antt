-- What the form of a log says of positions, whatever the values.
use Rattle.std.proofs.Common.{◌≡◌, ℕ, suc, ◌-◌, ◌<◌, ◌≤◌, Bool, true, false, cond, ◌&&◌, ◌||◌, eqb, ltb, leb, List, [], ◌∷◌, length, Some, refl, sym, ◌∙◌, inl, inr, ◌⊎◌, arith}
use Rattle.std.proofs.lemmas.Bool.{eqb-true, cases_eq, or_cases, and_parts, false≢true, leb-true, ltb-true}
use Rattle.mem_axioms.specs.Events.{accesses, modifies, position_of, order_of, is_atomic, is_fence}
use Rattle.mem_axioms.specs.Logs.{event_at, count_events, newest}
use Rattle.mem_axioms.specs.Synchronizes.{heads, released, continues, fences, releases}
use Rattle.mem_axioms.specs.Form.{fits_form_by, has_form_by}
use Rattle.mu_values.specs.CellLaws.{same_cell-true}
use Rattle.mem_axioms.specs.Lemmas.Numbers.{any-some, event-below, event-cases, event-older, event-newest}
use Rattle.mem_axioms.specs.declared.types.Event.{Event}
use Rattle.mem_axioms.specs.declared.types.Rule.{Rule}
use Rattle.mu_values.specs.declared.cells.CellId.{CellId}
use Rattle.mu_values.specs.declared.scalars.Scalar.{Scalar}
use Rattle.mem_axioms.specs.declared.types.Kind.{Kind}
use Rattle.mem_axioms.specs.declared.types.Kind.TheVariants.{Access, Fence, NewStack, NewThread, Leave, Enter, Wake, Woken}
use Rattle.mem_axioms.specs.declared.types.Mode.TheVariants.{Read, Write, Update}

-- one more event moves the newest position by one or not at all
pub newest-grows : (e : Event) (past : List Event) (c : CellId) → newest past c ≤ newest (e ∷ past) c
newest-grows e past c = elim (modifies c e) as (λ b. newest past c ≤ cond b (suc (newest past c)) (newest past c)) [ true ↦ omega arith | false ↦ omega arith ]

pub newest-changed : (e : Event) (past : List Event) (c : CellId) → modifies c e ≡ true → newest (e ∷ past) c ≡ suc (newest past c)
newest-changed e past c h = rw (h, newest, count_events)

pub newest-same : (e : Event) (past : List Event) (c : CellId) → modifies c e ≡ false → newest (e ∷ past) c ≡ newest past c
newest-same e past c h = rw (h, newest, count_events)

module _ (right : List Event → CellId → ℕ → Scalar → Bool) where
  -- an access that fits has no position above the newest, itself counted
  fits-position-kind : (past : List Event) (t : ℕ) (k : Kind) (c : CellId) → fits_form_by right past (record { thread = t; kind = k }) ≡ true → accesses c (record { thread = t; kind = k }) ≡ true
      → position_of (record { thread = t; kind = k }) ≤ newest (record { thread = t; kind = k } ∷ past) c
  fits-position-kind past t (Access Read cell order position value) c f a =
      let p = leb-true position (newest past cell) (and_parts (leb position (newest past cell)) (right past cell position value) f).0 in
      rw (same_cell-true cell c a) at p
  fits-position-kind past t (Access Write cell order position value) c f a =
      let e : Event = record { thread = t; kind = Access Write cell order position value } in
      let p : position ≡ suc (newest past c) = rw (same_cell-true cell c a) at (eqb-true position (suc (newest past cell)) f) in
      let q : newest (e ∷ past) c ≡ suc (newest past c) = newest-changed e past c a in
      omega (arith, p, q)
  fits-position-kind past t (Access Update cell order position value) c f a =
      let e : Event = record { thread = t; kind = Access Update cell order position value } in
      let p : position ≡ suc (newest past c) = rw (same_cell-true cell c a) at (eqb-true position (suc (newest past cell)) f) in
      let q : newest (e ∷ past) c ≡ suc (newest past c) = newest-changed e past c a in
      omega (arith, p, q)
  fits-position-kind past t (Fence o) c f a = absurd (false≢true a)
  fits-position-kind past t (NewStack o) c f a = absurd (false≢true a)
  fits-position-kind past t (NewThread o) c f a = absurd (false≢true a)
  fits-position-kind past t (Leave o) c f a = absurd (false≢true a)
  fits-position-kind past t (Enter o) c f a = absurd (false≢true a)
  fits-position-kind past t (Wake o n) c f a = absurd (false≢true a)
  fits-position-kind past t (Woken o) c f a = absurd (false≢true a)

  -- a write or update that fits makes the next position
  fits-next-kind : (past : List Event) (t : ℕ) (k : Kind) (c : CellId) → fits_form_by right past (record { thread = t; kind = k }) ≡ true → modifies c (record { thread = t; kind = k }) ≡ true
      → position_of (record { thread = t; kind = k }) ≡ suc (newest past c)
  fits-next-kind past t (Access Read cell order position value) c f a = absurd (false≢true a)
  fits-next-kind past t (Access Write cell order position value) c f a = rw (same_cell-true cell c a) at (eqb-true position (suc (newest past cell)) f)
  fits-next-kind past t (Access Update cell order position value) c f a = rw (same_cell-true cell c a) at (eqb-true position (suc (newest past cell)) f)
  fits-next-kind past t (Fence o) c f a = absurd (false≢true a)
  fits-next-kind past t (NewStack o) c f a = absurd (false≢true a)
  fits-next-kind past t (NewThread o) c f a = absurd (false≢true a)
  fits-next-kind past t (Leave o) c f a = absurd (false≢true a)
  fits-next-kind past t (Enter o) c f a = absurd (false≢true a)
  fits-next-kind past t (Wake o n) c f a = absurd (false≢true a)
  fits-next-kind past t (Woken o) c f a = absurd (false≢true a)

  pub fits-position : (past : List Event) (e : Event) (c : CellId) → fits_form_by right past e ≡ true → accesses c e ≡ true → position_of e ≤ newest (e ∷ past) c
  fits-position past e c = fits-position-kind past e.thread e.kind c

  pub fits-next : (past : List Event) (e : Event) (c : CellId) → fits_form_by right past e ≡ true → modifies c e ≡ true → position_of e ≡ suc (newest past c)
  fits-next past e c = fits-next-kind past e.thread e.kind c

  pub form-parts : (e : Event) (past : List Event) → has_form_by right (e ∷ past) ≡ true → (fits_form_by right past e ≡ true) × (has_form_by right past ≡ true)
  form-parts e past h = and_parts (fits_form_by right past e) (has_form_by right past) h

  -- no access has a position above the newest
  pub form-position : (log : List Event) (i : ℕ) (ei : Event) (c : CellId) → has_form_by right log ≡ true → event_at log i ≡ Some ei → accesses c ei ≡ true → position_of ei ≤ newest log c
  form-position [] i ei c f h a = absurd (cc)
  form-position (e ∷ past) i ei c f h a = go (form-position past i ei c (form-parts e past f).1) (event-cases e past i ei h)
    where
      go : (event_at past i ≡ Some ei → accesses c ei ≡ true → position_of ei ≤ newest past c) → ((i ≡ length past) × (ei ≡ e)) ⊎ ((i < length past) × (event_at past i ≡ Some ei)) → position_of ei ≤ newest (e ∷ past) c
      go ih (inl p) = let r : position_of e ≤ newest (e ∷ past) c = fits-position past e c (form-parts e past f).0 (rw p.1 at a) in rw p.1 r
      go ih (inr p) = let r = ih p.1 a in let g = newest-grows e past c in omega (arith, r, g)

  -- what accesses the cell before a write or update of it has a smaller position
  pub form-less : (log : List Event) (i w : ℕ) (ei ew : Event) (c : CellId) → has_form_by right log ≡ true → event_at log i ≡ Some ei → event_at log w ≡ Some ew → i < w → accesses c ei ≡ true → modifies c ew ≡ true → position_of ei < position_of ew
  form-less [] i w ei ew c f hi hw l a m = absurd (cc)
  form-less (e ∷ past) i w ei ew c f hi hw l a m = go (form-less past i w ei ew c (form-parts e past f).1) (event-cases e past w ew hw)
    where
      below : w < suc (length past)
      below = event-below (e ∷ past) w ew hw

      older : event_at past i ≡ Some ei
      older = let b = below in sym (event-older e past i (omega arith)) ∙ hi

      go : (event_at past i ≡ Some ei → event_at past w ≡ Some ew → i < w → accesses c ei ≡ true → modifies c ew ≡ true → position_of ei < position_of ew) → ((w ≡ length past) × (ew ≡ e)) ⊎ ((w < length past) × (event_at past w ≡ Some ew)) → position_of ei < position_of ew
      go ih (inl p) =
          let x = form-position past i ei c (form-parts e past f).1 older a in
          let y = fits-next past ew c (rw (← p.1) at (form-parts e past f).0) m in
          omega (arith, x, y)
      go ih (inr p) = ih older p.1 l a m

module _ (rule : Rule) where
  pub heads-below : (log : List Event) (c : CellId) (q h : ℕ) (head : Event) → heads rule log c q h head ≡ true → h < length log
  heads-below [] c q h head t = absurd (false≢true t)
  heads-below (e ∷ past) c q h head t = go (heads-below past c) (modifies c e && eqb (position_of e) q) refl
    where
      go : ((q h : ℕ) (head : Event) → heads rule past c q h head ≡ true → h < length past) → (b : Bool) → (modifies c e && eqb (position_of e) q) ≡ b → h < suc (length past)
      go ih false p = let k = ih q h head (rw (p, heads) at t) in omega arith
      go ih true p = last (or_cases (is_atomic (order_of e) && eqb h (length past)) (continues rule e head.thread && heads rule past c (q - 1) h head) (rw (p, heads) at t))
        where
          last : ((is_atomic (order_of e) && eqb h (length past)) ≡ true) ⊎ ((continues rule e head.thread && heads rule past c (q - 1) h head) ≡ true) → h < suc (length past)
          last (inl x) = let y = eqb-true h (length past) (and_parts (is_atomic (order_of e)) _ x).1 in omega arith
          last (inr x) = let y = ih (q - 1) h head (and_parts (continues rule e head.thread) (heads rule past c (q - 1) h head) x).1 in omega arith

  -- a head is a write or update of the cell, at the position or below it
  pub heads-are : (log : List Event) (c : CellId) (q h : ℕ) (head : Event) → event_at log h ≡ Some head → heads rule log c q h head ≡ true → (modifies c head ≡ true) × (position_of head ≤ q)
  heads-are [] c q h head e t = absurd (false≢true t)
  heads-are (e ∷ past) c q h head at t = go (λ q. heads-are past c q h head) (modifies c e && eqb (position_of e) q) refl
    where
      older : (q : ℕ) → heads rule past c q h head ≡ true → event_at past h ≡ Some head
      older q x = let y = heads-below past c q h head x in sym (event-older e past h y) ∙ at

      go : ((q : ℕ) → event_at past h ≡ Some head → heads rule past c q h head ≡ true → (modifies c head ≡ true) × (position_of head ≤ q)) → (b : Bool) → (modifies c e && eqb (position_of e) q) ≡ b → (modifies c head ≡ true) × (position_of head ≤ q)
      go ih false p = let x : heads rule past c q h head ≡ true = rw (p, heads) at t in ih q (older q x) x
      go ih true p = last (or_cases (is_atomic (order_of e) && eqb h (length past)) (continues rule e head.thread && heads rule past c (q - 1) h head) (rw (p, heads) at t))
        where
          parts : (modifies c e ≡ true) × (eqb (position_of e) q ≡ true)
          parts = and_parts (modifies c e) (eqb (position_of e) q) p

          last : ((is_atomic (order_of e) && eqb h (length past)) ≡ true) ⊎ ((continues rule e head.thread && heads rule past c (q - 1) h head) ≡ true) → (modifies c head ≡ true) × (position_of head ≤ q)
          last (inl x) =
              let y = eqb-true h (length past) (and_parts (is_atomic (order_of e)) _ x).1 in
              let n : event_at (e ∷ past) h ≡ Some e = rw y (event-newest e past) in
              let s : e ≡ head = cc in
              let k = eqb-true (position_of e) q parts.1 in
              (rw s at parts.0, (let z : position_of head ≡ q = rw s at k in omega arith))
          last (inr x) =
              let y : heads rule past c (q - 1) h head ≡ true = (and_parts (continues rule e head.thread) (heads rule past c (q - 1) h head) x).1 in
              let z = ih (q - 1) (older (q - 1) y) y in
              (z.0, omega (arith, z.1))

  fence-first : (i h : ℕ) (ei head : Event) → fences i ei h head ≡ true → i < h
  fence-first i h ei head x = ltb-true i h (and_parts (ltb i h) _ (and_parts (ltb i h && eqb ei.thread head.thread) _ (and_parts (ltb i h && eqb ei.thread head.thread && is_fence ei) _ x).0).0).0

  module _ (right : List Event → CellId → ℕ → Scalar → Bool) where
    -- whatever accesses the cell before a head has a smaller position than the head
    pub before-head : (log : List Event) (c : CellId) (q h k : ℕ) (head ek : Event) → has_form_by right log ≡ true → event_at log h ≡ Some head → heads rule log c q h head ≡ true
        → k < h → event_at log k ≡ Some ek → accesses c ek ≡ true → position_of ek < position_of head
    before-head log c q h k head ek f eh t l at a = form-less right log k h ek head c f at eh l a (heads-are log c q h head eh t).0

    -- whatever accesses the cell up to a release has no greater position than what was released
    pub released-allows : (log : List Event) (c : CellId) (q i k : ℕ) (ei ek : Event) → has_form_by right log ≡ true → released rule log c q i ei ≡ true → k ≤ i → event_at log k ≡ Some ek → accesses c ek ≡ true → position_of ek ≤ q
    released-allows log c q i k ei ek f r l at a =
        let s = any-some (λ h head. heads rule log c q h head && ((eqb i h && releases (order_of head)) || fences i ei h head)) log r in
        let t = and_parts (heads rule log c q s.0 s.1) _ s.3 in
        let hd = heads-are log c q s.0 s.1 s.2 t.0 in
        go s.0 s.1 s.2 hd (or_cases (eqb i s.0 && releases (order_of s.1)) _ t.1)
      where
        go : (h : ℕ) (head : Event) → event_at log h ≡ Some head → (modifies c head ≡ true) × (position_of head ≤ q) → ((eqb i h && releases (order_of head)) ≡ true) ⊎ (fences i ei h head ≡ true) → position_of ek ≤ q
        go h head eh hd w = last (cases_eq k h)
          where
            upto : i ≤ h
            upto = elim w [ inl x ↦ (let y = eqb-true i h (and_parts (eqb i h) _ x).0 in omega arith) | inr x ↦ (let y = fence-first i h ei head x in omega arith) ]

            last : (k ≡ h) ⊎ (k ≡ h → ⊥) → position_of ek ≤ q
            last (inl x) = let y : event_at log h ≡ Some ek = rw x at at in let z : ek ≡ head = cc in rw z hd.1
            last (inr n) = let u = upto in let y = form-less right log k h ek head c f at eh (omega arith) a hd.0 in omega (arith, y, hd.1)
