-- What is kept of all cells with one more event, one more place, or more room.
use Rattle.std.proofs.Common.{◌≡◌, ℕ, zero, suc, ◌+◌, ◌<◌, true, false, cond, List, [], ◌∷◌, ◌++◌, length, Some, sym, ap, ◌∙◌, inl, inr, ◌⊎◌, arith}
use Rattle.std.specs.Prelude.{slice_get, slice_index_or, slice_set, Option}
use Rattle.std.proofs.lemmas.Bool.{false≢true, cases_eq, cases_Bool}
use Rattle.std.proofs.lemmas.List.{get_or_default, get_or_append_left, get_or_push, get_or-set_same, get_or-set_other, length-set}
use Rattle.mu_values.specs.declared.scalars.Scalar.{Scalar}
use Rattle.mu_values.specs.declared.cells.CellId.{CellId}
use Rattle.mu_values.specs.SameCell.{same_cell}
use Rattle.mu_values.specs.CellLaws.{same_cell-true}
use Rattle.mem_axioms.specs.Events.{accesses, is_modification, position_of}
use Rattle.mem_axioms.specs.Logs.{newest}
use Rattle.mem_axioms.specs.declared.types.Event.{Event}
use Rattle.mem_axioms.specs.declared.types.Rule.{Rule}
use Rattle.mem_axioms.specs.declared.types.Kind.{Kind}
use Rattle.mem_axioms.specs.declared.types.Kind.TheVariants.{Access, Fence, NewStack, NewThread, Leave, Enter, Wake, Woken}
use Rattle.mem_axioms.specs.Lemmas.Numbers.{event-cases}
use Rattle.clock_laws.specs.Clocks.{views, gives}
use Rattle.clocks.specs.Knowing.{known_by}
use Rattle.clocks.specs.Spans.{Spans}
use Rattle.clocks.specs.KeptClocks.{Grown}
use Rattle.view_parts.specs.Placing.{Owned}
use Rattle.view_parts.specs.CellAdded.{CellAdded, CellRoom, SameCell, IsFresh}
use Rattle.view_parts.specs.CellRooms.{CellRoomAt}
use Rattle.view_parts.specs.AddedAt.{AddedAt, CanAdd}
use Rattle.view_parts.specs.Holding.{CellHolds, ClocksHold, CellsHold, IsUntouched}
use Rattle.view_parts.specs.declared.cell.CellViews.{CellViews}
use Rattle.view_parts.specs.Lemmas.CellKept.{cell-more, cell-same, cell-kept, cell-fresh, cell-below, clocks-more, clocks-same, clocks-grown, clocks-kept, clocks-fresh}
use Rattle.view_parts.specs.Lemmas.ValuesKept.{values-length}

one-kind : (t : ℕ) (k : Kind) (c cell : CellId) → accesses c (record { thread = t; kind = k }) ≡ true → accesses cell (record { thread = t; kind = k }) ≡ true → c ≡ cell
one-kind t (Access mode of o p x) c cell h a = sym (same_cell-true of c h) ∙ same_cell-true of cell a
one-kind t (Fence o) c cell h a = absurd (false≢true h)
one-kind t (NewStack o) c cell h a = absurd (false≢true h)
one-kind t (NewThread o) c cell h a = absurd (false≢true h)
one-kind t (Leave o) c cell h a = absurd (false≢true h)
one-kind t (Enter o) c cell h a = absurd (false≢true h)
one-kind t (Wake o n) c cell h a = absurd (false≢true h)
one-kind t (Woken o) c cell h a = absurd (false≢true h)

-- an event accesses one cell
pub one-access : (e : Event) (c cell : CellId) → accesses c e ≡ true → accesses cell e ≡ true → c ≡ cell
one-access e = one-kind e.thread e.kind

get-below : (xs : List CellId) (p : ℕ) (x : CellId) → slice_get xs p ≡ Some x → p < length xs
get-below [] p x h = absurd (cc)
get-below (y ∷ ys) zero x h = omega arith
get-below (y ∷ ys) (suc p) x h = let q = get-below ys p x h in omega arith

-- a place is one of those that are kept
pub place-below : (numbers : CellId → ℕ) (owners : List CellId) (n : ℕ) (cell : CellId) (p : ℕ) → Owned numbers owners → length owners ≡ n → numbers cell ≡ suc p → p < n
place-below numbers owners n cell p o l h = let q = get-below owners p cell (o cell p h) in omega (arith, q, l)

-- two cells of one place are one
one-owner : (numbers : CellId → ℕ) (owners : List CellId) (c cell : CellId) (p : ℕ) → Owned numbers owners → numbers c ≡ suc p → numbers cell ≡ suc p → c ≡ cell
one-owner numbers owners c cell p o h k = let x = o c p h in let y = o cell p k in cc

module _ (rule : Rule) (log : List Event) (e : Event) (numbers : CellId → ℕ) (owners : List CellId) (o : Owned numbers owners) where
  others-untouched : (c : CellId) → accesses c e ≡ false → IsUntouched log c → IsUntouched (e ∷ log) c
  others-untouched c h u i ei at = elim (event-cases e log i ei at) [
    | inl p ↦ ap (λ (x : Event). accesses c x) p.1 ∙ h
    | inr p ↦ u i ei p.1
  ]

  pub cells-more : (before after : Spans) (old new : List CellViews) (cell : CellId) (place : ℕ) (given : Option (List ℕ)) → AddedAt rule before after old new place (length log) e given → numbers cell ≡ suc place → accesses cell e ≡ true
      → ((u : ℕ) → known_by given u ≡ gives (views rule log) (length log) e u) → CellsHold rule log before numbers old → CellsHold rule (e ∷ log) after numbers new
  cells-more before after old new cell place given a at s g h = record {
    touched = λ c p d q l. go c p d q (let n = a.size in omega (arith, n, l)) (cases_eq p place);
    clocked = λ c p d q l. known c p d q (let n = a.size in omega (arith, n, l)) (cases_eq p place);
    untouched = λ c z. others-untouched c (stranger c z (cases_Bool (accesses c e))) (h.untouched c z);
  }
    where
      stranger : (c : CellId) → numbers c ≡ 0 → (accesses c e ≡ true) ⊎ (accesses c e ≡ false) → accesses c e ≡ false
      stranger c z (inr f) = f
      stranger c z (inl t) = let q = ap (λ (x : CellId). numbers x) (one-access e c cell t s) in absurd (omega (arith, z, q, at))

      other : (c : CellId) (p : ℕ) → numbers c ≡ suc p → (p ≡ place → ⊥) → (accesses c e ≡ true) ⊎ (accesses c e ≡ false) → accesses c e ≡ false
      other c p q n (inr f) = f
      other c p q n (inl t) = let z = ap (λ (x : CellId). numbers x) (one-access e c cell t s) in absurd (n (omega (arith, z, q, at)))

      go : (c : CellId) (p : ℕ) (d : CellViews) → numbers c ≡ suc p → p < length old → (p ≡ place) ⊎ (p ≡ place → ⊥) → CellHolds (e ∷ log) c (slice_index_or new p d)
      go c p d q l (inl r) =
          let z : numbers c ≡ suc place = q ∙ ap suc r in
          let w : c ≡ cell = one-owner numbers owners c cell place o z at in
          let x : CellHolds log cell (slice_index_or old place d) = h.touched cell place d at (omega (arith, l, r)) in
          rw (w, r) (cell-more rule log cell e before after (slice_index_or old place d) (slice_index_or new place d) given (a.here d) x s)
      go c p d q l (inr n) = rw (a.others p d n) (cell-same rule log c e (slice_index_or old p d) (h.touched c p d q l) (other c p q n (cases_Bool (accesses c e))))

      known : (c : CellId) (p : ℕ) (d : CellViews) → numbers c ≡ suc p → p < length old → (p ≡ place) ⊎ (p ≡ place → ⊥) → ClocksHold rule (e ∷ log) after c (slice_index_or new p d)
      known c p d q l (inl r) =
          let z : numbers c ≡ suc place = q ∙ ap suc r in
          let w : c ≡ cell = one-owner numbers owners c cell place o z at in
          let x : ClocksHold rule log before cell (slice_index_or old place d) = h.clocked cell place d at (omega (arith, l, r)) in
          rw (w, r) (clocks-more rule log cell e before after (slice_index_or old place d) (slice_index_or new place d) given (a.here d) x s g)
      known c p d q l (inr n) =
          rw (a.others p d n)
          (clocks-same rule log c e after (slice_index_or old p d) (clocks-grown rule log c before after (slice_index_or old p d) (a.here d).grown (h.clocked c p d q l)) (other c p q n (cases_Bool (accesses c e))))

  pub cells-same : (clocks : Spans) (kept : List CellViews) → ((c : CellId) → accesses c e ≡ false) → CellsHold rule log clocks numbers kept → CellsHold rule (e ∷ log) clocks numbers kept
  cells-same clocks kept s h = record {
    touched = λ c p d q l. cell-same rule log c e (slice_index_or kept p d) (h.touched c p d q l) (s c);
    clocked = λ c p d q l. clocks-same rule log c e clocks (slice_index_or kept p d) (h.clocked c p d q l) (s c);
    untouched = λ c z. others-untouched c (s c) (h.untouched c z);
  }

-- one access takes one from the room of its cell
pub room-less : (rule : Rule) (before after : Spans) (old new : List CellViews) (place n : ℕ) (e : Event) (given : Option (List ℕ)) (numbers : CellId → ℕ) (cell : CellId) (count : ℕ) → AddedAt rule before after old new place n e given → numbers cell ≡ suc place
    → CellRoomAt (count + 1) e.thread numbers old cell → CellRoomAt count e.thread numbers new cell
room-less rule before after old new place n e given numbers cell count a at r = record {
  placed = r.placed;
  room = λ p d q l. (let z : p ≡ place = omega (arith, q, at) in let s = a.size in rw z (a.room count d (r.room place d at (omega (arith, l, z, s)))));
}

-- what the memory holds lets an event be added
pub can-add : (rule : Rule) (log : List Event) (e : Event) (clocks : Spans) (numbers : CellId → ℕ) (owners : List CellId) (kept : List CellViews) (cell : CellId) (count : ℕ) → Owned numbers owners → length owners ≡ length kept
    → CellsHold rule log clocks numbers kept → newest log cell + 1 < 4294967295 → (is_modification e ≡ true → position_of e ≡ suc (newest log cell)) → CellRoomAt (count + 1) e.thread numbers kept cell → CanAdd (length log) e clocks numbers kept cell
can-add rule log e clocks numbers owners kept cell count o s h l x r = record {
  placed = r.placed;
  room = λ p d q. one (slice_index_or kept p d) (r.room p d q (place-below numbers owners (length kept) cell p o s q));
  below = λ p d q. cell-below rule log cell (slice_index_or kept p d) e.thread (holds p d q);
  next = λ p d q m. x m ∙ sym (known p d q).positions;
  named = λ p d q. (known p d q).named;
  few = λ p d q. (let v = ap (λ (xs : List Scalar). length xs) ((holds p d q).values) in let n = values-length log cell in omega (arith, v, n, l));
  there = λ p q. place-below numbers owners (length kept) cell p o s q;
}
  where
    holds : (p : ℕ) (d : CellViews) → numbers cell ≡ suc p → CellHolds log cell (slice_index_or kept p d)
    holds p d q = h.touched cell p d q (place-below numbers owners (length kept) cell p o s q)

    known : (p : ℕ) (d : CellViews) → numbers cell ≡ suc p → ClocksHold rule log clocks cell (slice_index_or kept p d)
    known p d q = h.clocked cell p d q (place-below numbers owners (length kept) cell p o s q)

    one : (x : CellViews) → CellRoom (count + 1) e.thread x → CellRoom 1 e.thread x
    one x c = record {
      history = (let q = c.history in omega arith);
      released = (let q = c.released in omega arith);
      sequence = c.sequence;
      there = c.there;
      room = λ family. (let q = c.room family in omega arith);
    }

-- less room is there too
pub cell-room-less : (count t : ℕ) (numbers : CellId → ℕ) (kept : List CellViews) (cell : CellId) → CellRoomAt (count + 1) t numbers kept cell → CellRoomAt count t numbers kept cell
cell-room-less count t numbers kept cell r = record { placed = r.placed; room = λ p d q l. less (slice_index_or kept p d) (r.room p d q l) }
  where
    less : (x : CellViews) → CellRoom (count + 1) t x → CellRoom count t x
    less x c = record {
      history = (let q = c.history in omega arith);
      released = (let q = c.released in omega arith);
      sequence = c.sequence;
      there = c.there;
      room = λ family. (let q = c.room family in omega arith);
    }

-- a new place
pub cells-touched : (rule : Rule) (log : List Event) (clocks : Spans) (numbers numbers' : CellId → ℕ) (kept : List CellViews) (fresh : CellViews) (cell : CellId) → numbers cell ≡ 0
    → ((c : CellId) → numbers' c ≡ cond (same_cell c cell) (length kept + 1) (numbers c)) → ((c : CellId) (p : ℕ) → numbers c ≡ suc p → p < length kept) → IsFresh fresh
    → CellsHold rule log clocks numbers kept → CellsHold rule log clocks numbers' (kept ++ fresh ∷ [])
cells-touched rule log clocks numbers numbers' kept fresh cell z m b f h = record {
  touched = λ c p d q l. go c p d (cases_Bool (same_cell c cell)) (sym (m c) ∙ q);
  clocked = λ c p d q l. known c p d (cases_Bool (same_cell c cell)) (sym (m c) ∙ q);
  untouched = λ c q. none c (cases_Bool (same_cell c cell)) (sym (m c) ∙ q);
}
  where
    go : (c : CellId) (p : ℕ) (d : CellViews) → (same_cell c cell ≡ true) ⊎ (same_cell c cell ≡ false) → cond (same_cell c cell) (length kept + 1) (numbers c) ≡ suc p → CellHolds log c (slice_index_or (kept ++ fresh ∷ []) p d)
    go c p d (inl t) q =
        let r : length kept + 1 ≡ suc p = rw t at q in
        rw (same_cell-true c cell t, get_or_push kept fresh d p (omega (arith, r))) (cell-fresh log cell fresh f (h.untouched cell z))
    go c p d (inr n) q =
        let r : numbers c ≡ suc p = rw n at q in
        rw (get_or_append_left kept (fresh ∷ []) d p (b c p r)) (h.touched c p d r (b c p r))

    known : (c : CellId) (p : ℕ) (d : CellViews) → (same_cell c cell ≡ true) ⊎ (same_cell c cell ≡ false) → cond (same_cell c cell) (length kept + 1) (numbers c) ≡ suc p → ClocksHold rule log clocks c (slice_index_or (kept ++ fresh ∷ []) p d)
    known c p d (inl t) q =
        let r : length kept + 1 ≡ suc p = rw t at q in
        rw (same_cell-true c cell t, get_or_push kept fresh d p (omega (arith, r))) (clocks-fresh rule log clocks cell fresh f (h.untouched cell z))
    known c p d (inr n) q =
        let r : numbers c ≡ suc p = rw n at q in
        rw (get_or_append_left kept (fresh ∷ []) d p (b c p r)) (h.clocked c p d r (b c p r))

    none : (c : CellId) → (same_cell c cell ≡ true) ⊎ (same_cell c cell ≡ false) → cond (same_cell c cell) (length kept + 1) (numbers c) ≡ 0 → IsUntouched log c
    none c (inl t) q = let r : length kept + 1 ≡ 0 = rw t at q in absurd (omega (arith, r))
    none c (inr n) q = let r : numbers c ≡ 0 = rw n at q in h.untouched c r

-- places stand, though their table grew
pub cells-moved : (rule : Rule) (log : List Event) (clocks : Spans) (numbers numbers' : CellId → ℕ) (kept : List CellViews) → ((c : CellId) → numbers' c ≡ numbers c) → CellsHold rule log clocks numbers kept → CellsHold rule log clocks numbers' kept
cells-moved rule log clocks numbers numbers' kept m h = record {
  touched = λ c p d q l. h.touched c p d (sym (m c) ∙ q) l;
  clocked = λ c p d q l. h.clocked c p d (sym (m c) ∙ q) l;
  untouched = λ c q. h.untouched c (sym (m c) ∙ q);
}

-- there is room for more clocks, or there are more
pub cells-grown : (rule : Rule) (log : List Event) (before after : Spans) (numbers : CellId → ℕ) (kept : List CellViews) → Grown before after → CellsHold rule log before numbers kept → CellsHold rule log after numbers kept
cells-grown rule log before after numbers kept g h = record {
  touched = h.touched;
  clocked = λ c p d q l. clocks-grown rule log c before after (slice_index_or kept p d) g (h.clocked c p d q l);
  untouched = h.untouched;
}

pub cells-none : (rule : Rule) (clocks : Spans) (numbers : CellId → ℕ) → ((c : CellId) → numbers c ≡ 0) → CellsHold rule [] clocks numbers []
cells-none rule clocks numbers z = record {
  touched = λ c p d q l. absurd (omega (arith, l));
  clocked = λ c p d q l. absurd (omega (arith, l));
  untouched = λ c q i e at. absurd (cc);
}

-- what one access does, of a list with what stands at the place replaced
pub added-at : (rule : Rule) (clocks more : Spans) (old : List CellViews) (place n : ℕ) (e : Event) (given : Option (List ℕ)) (before after : CellViews) → place < length old → before ≡ slice_index_or old place before
    → CellAdded rule clocks more before after n e given → ((count : ℕ) → CellRoom (count + 1) e.thread before → CellRoom count e.thread after) → AddedAt rule clocks more old (slice_set old place after) place n e given
added-at rule clocks more old place n e given before after l b a r = record {
  size = length-set old place after;
  here = λ d. rw (get_or-set_same old place after d l, was d) a;
  others = λ p d q. get_or-set_other old place p after d q;
  room = λ count d w. rw (get_or-set_same old place after d l) (r count (rw (was d) at w));
}
  where
    was : (d : CellViews) → slice_index_or old place d ≡ before
    was d = get_or_default old place d before l ∙ sym b

-- an access whose cell has a place
pub cells-added : (rule : Rule) (log : List Event) (e : Event) (numbers : CellId → ℕ) (owners : List CellId) → Owned numbers owners → (before after : Spans) (old new : List CellViews) (cell : CellId) (place n : ℕ) (given : Option (List ℕ)) → n ≡ length log
    → AddedAt rule before after old new place n e given → numbers cell ≡ suc place → accesses cell e ≡ true
    → ((u : ℕ) → known_by given u ≡ gives (views rule log) n e u) → CellsHold rule log before numbers old → CellsHold rule (e ∷ log) after numbers new
cells-added rule log e numbers owners o before after old new cell place n given q a at s g h =
    cells-more rule log e numbers owners o before after old new cell place given (rw q at a) at s (λ u. g u ∙ ap (λ (i : ℕ). gives (views rule log) i e u) q) h

-- more room for what stands at the place
pub cells-set : (rule : Rule) (log : List Event) (clocks : Spans) (numbers : CellId → ℕ) (kept : List CellViews) (place : ℕ) (before after : CellViews) → place < length kept → before ≡ slice_index_or kept place before → SameCell before after
    → CellsHold rule log clocks numbers kept → CellsHold rule log clocks numbers (slice_set kept place after)
cells-set rule log clocks numbers kept place before after l b s h = record {
  touched = λ c p d q k. (let n = length-set kept place after in go c p d q (omega (arith, n, k)) (cases_eq p place));
  clocked = λ c p d q k. (let n = length-set kept place after in known c p d q (omega (arith, n, k)) (cases_eq p place));
  untouched = h.untouched;
}
  where
    go : (c : CellId) (p : ℕ) (d : CellViews) → numbers c ≡ suc p → p < length kept → (p ≡ place) ⊎ (p ≡ place → ⊥) → CellHolds log c (slice_index_or (slice_set kept place after) p d)
    go c p d q k (inl r) =
        let x : CellHolds log c (slice_index_or kept place before) = rw r at (h.touched c p before q k) in
        rw (r, get_or-set_same kept place after d l) (cell-kept rule log c before after s (rw (sym b) at x))
    go c p d q k (inr n) = rw (get_or-set_other kept place p after d n) (h.touched c p d q k)

    known : (c : CellId) (p : ℕ) (d : CellViews) → numbers c ≡ suc p → p < length kept → (p ≡ place) ⊎ (p ≡ place → ⊥) → ClocksHold rule log clocks c (slice_index_or (slice_set kept place after) p d)
    known c p d q k (inl r) =
        let x : ClocksHold rule log clocks c (slice_index_or kept place before) = rw r at (h.clocked c p before q k) in
        rw (r, get_or-set_same kept place after d l) (clocks-kept rule log c clocks before after s (rw (sym b) at x))
    known c p d q k (inr n) = rw (get_or-set_other kept place p after d n) (h.clocked c p d q k)
