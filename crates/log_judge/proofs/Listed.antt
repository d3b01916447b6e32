-- What is kept of threads, fences and initial values, with one more event.
use Rattle.std.proofs.Common.{◌≡◌, ℕ, ◌+◌, ◌<◌, ◌≤◌, Bool, true, false, cond, ◌&&◌, eqb, List, [], ◌∷◌, ◌++◌, length, length-append, Option, Some, None, refl, sym, ap, subst, ◌∙◌, inl, inr, ◌⊎◌, arith, slice_index}
use Rattle.std.specs.Prelude.{All, Contains, MatchOption}
use Rattle.std.proofs.lemmas.Bool.{eq-eqb, ne_eqb, cases_lt, false≢true}
use Rattle.std.proofs.lemmas.List.{get_or_push, get_or_append_left, get_or_default}
use Rattle.std.specs.Ordering.{nat_cmp}
use Rattle.std.specs.BTreeMap.{get, is_at, BTreeMap}
use Rattle.mu_base.specs.declared.order.Order.{Order}
use Rattle.mu_values.specs.declared.scalars.Scalar.{Scalar}
use Rattle.mu_values.specs.declared.cells.CellId.{CellId}
use Rattle.mu_values.specs.SameCell.{same_cell}
use Rattle.mu_values.specs.CellLaws.{same_cell-true, same_cell-refl}
use Rattle.mem_axioms.specs.Events.{accesses, position_of, value_of, is_seq_cst_fence}
use Rattle.mem_axioms.specs.Logs.{event_at}
use Rattle.mem_axioms.specs.Lemmas.Numbers.{event-cases}
use Rattle.mem_axioms.specs.declared.types.Rule.{Rule}
use Rattle.mem_axioms.specs.declared.types.Mode.{Mode}
use Rattle.mem_axioms.specs.declared.types.Kind.{Kind}
use Rattle.mem_axioms.specs.declared.types.Kind.TheVariants.{Access}
use Rattle.mem_axioms.specs.declared.types.Event.{Event}
use Rattle.clocks.specs.Tables.{Table, table_at}
use Rattle.clock_laws.specs.Clocks.{views, knows}
use Rattle.write_history.specs.declared.access_index.Entry.{Entry}
use Rattle.view_parts.specs.Indexed.{entries_by, by_thread}
use Rattle.view_parts.specs.Families.{belongs}
use Rattle.view_parts.specs.Touched.{entries_at}
use Rattle.view_parts.specs.Looks.{IsMade, AllMade}
use Rattle.view_parts.specs.Holding.{CellHolds}
use Rattle.view_parts.specs.CellRooms.{CellRoomAt}
use Rattle.view_parts.specs.Roominess.{CellFits}
use Rattle.view_parts.specs.Lemmas.CellsKept.{one-access}
use Rattle.view_parts.specs.declared.cell.CellViews.{CellViews}
use Rattle.view_parts.specs.Lemmas.Entries.{entries-none}
use Rattle.view_parts.specs.Lemmas.FloorFound.{by-parts}
use Rattle.verdicts.specs.Searches.{Extends}
use Rattle.verdicts.specs.Newer.{event_there}
use Rattle.log_judge.specs.CellKeys.{cell_key}
use Rattle.log_judge.specs.Kept.{InitialsHold, ThreadsHold, FencesHold}
use Rattle.log_judge.proofs.Keyed.{is_at-key}

-- ---- threads

-- one more thread is on the list
pub thread-more : (threads : List ℕ) (log : List Event) (t : ℕ) → length threads ≤ t → t < 64 → ThreadsHold threads log → ThreadsHold (threads ++ length threads ∷ []) log
thread-more threads log t l m h = record {
  listed = λ i e at. (let n = h.listed i e at in let k = size in omega (arith, n, k));
  counted = λ i k. elim (cases_lt i (length threads)) [
    | inl q ↦ get_or_append_left threads (length threads ∷ []) 0 i q ∙ h.counted i q
    | inr q ↦ (let n : length threads ≡ i = (let s = size in omega (arith, s, k, q)) in get_or_push threads (length threads) 0 i n ∙ n)
  ];
  few = (let k = size in omega (arith, k, l, m));
}
  where
    size : length (threads ++ length threads ∷ []) ≡ length threads + 1
    size = length-append threads (length threads ∷ [])

pub threads-none : ThreadsHold [] []
threads-none = record { listed = λ i e at. absurd (cc); counted = λ t l. absurd (omega arith); few = omega arith }

-- the thread of the newest event is on the list
pub threads-more : (threads : List ℕ) (e : Event) (log : List Event) → e.thread < length threads → ThreadsHold threads log → ThreadsHold threads (e ∷ log)
threads-more threads e log l h = record {
  listed = λ i ei at. elim (event-cases e log i ei at) [ inl p ↦ (let s = ap (λ (x : Event). x.thread) p.1 in omega (arith, s, l)) | inr p ↦ h.listed i ei p.1 ];
  counted = h.counted;
  few = h.few;
}

pub threads-small : (threads : List ℕ) (log : List Event) → ThreadsHold threads log → All (λ t. t < 64) threads
threads-small threads log h i d l = let f = h.few in let e = get_or_default threads i d 0 l ∙ h.counted i l in omega (arith, e, l, f)

pub thread-small : (threads : List ℕ) (log : List Event) → ThreadsHold threads log → (i : ℕ) (e : Event) → event_at log i ≡ Some e → e.thread < 64
thread-small threads log h i e at = let n = h.listed i e at in let f = h.few in omega (arith, n, f)

-- so is that of an event of a log that goes on after these
pub small-in : (threads : List ℕ) (past whole : List Event) (i : ℕ) (e : Event) → ThreadsHold threads past → Extends whole past → i < length past → event_at whole i ≡ Some e → e.thread < 64
small-in threads past whole i e h x l at = thread-small threads past h i e (event_there whole past i e x l at)

-- only threads on the list have entries
entries-listed : (position : ℕ → Event → ℕ) (test : ℕ → Event → Bool) (threads : List ℕ) (log : List Event) (entries : ℕ → List Entry) → ThreadsHold threads log
    → ((u : ℕ) (e : Event) → test u e ≡ true → u ≡ e.thread) → ((u : ℕ) → entries u ≡ entries_by position (test u) log) → IsMade threads entries
entries-listed position test threads log entries h own ix u = go (cases_lt u (length threads))
  where
    stranger : length threads ≤ u → (i : ℕ) (e : Event) → event_at log i ≡ Some e → test u e ≡ false
    stranger l i e at = pick (test u e) refl
      where
        pick : (b : Bool) → test u e ≡ b → test u e ≡ false
        pick false p = p
        pick true p = absurd (let o = own u e p in let n = h.listed i e at in omega (arith, o, n, l))

    go : (u < length threads) ⊎ (length threads ≤ u) → Contains threads u ⊎ (entries u ≡ [])
    go (inl l) = inl (u, l, get_or_default threads u u 0 l ∙ h.counted u l)
    go (inr l) = inr (ix u ∙ entries-none position (test u) log (stranger l))

pub fences-listed : (test : ℕ → Event → Bool) (threads : List ℕ) (log : List Event) (entries : ℕ → List Entry) → ThreadsHold threads log
    → ((u : ℕ) (e : Event) → test u e ≡ true → u ≡ e.thread) → ((u : ℕ) → entries u ≡ entries_by (λ n e. n) (test u) log) → IsMade threads entries
fences-listed = entries-listed (λ n e. n)

pub cell-listed : (threads : List ℕ) (log : List Event) (cell : CellId) (kept : CellViews) → ThreadsHold threads log → CellHolds log cell kept → AllMade threads kept
cell-listed threads log cell kept h c family = entries-listed (λ n e. position_of e) (λ u. by_thread (belongs family) cell u) threads log (entries_at kept.accesses family) h (λ u e t. (by-parts (belongs family) cell u e t).2) (c.accesses family)

-- ---- fences

and-false : (b : Bool) → (b && false) ≡ false
and-false true = refl
and-false false = refl

pub fences-more : (rule : Rule) (log : List Event) (e : Event) (old new : Table) (clock : List ℕ) → ((a u : ℕ) → table_at new a u ≡ cond (is_seq_cst_fence e && eqb a (length log)) (slice_index clock u) (table_at old a u))
    → ((u : ℕ) → slice_index clock u ≡ knows (views rule log) (length log) e u) → FencesHold rule log old → FencesHold rule (e ∷ log) new
fences-more rule log e old new clock p k h a ea at f u = p a u ∙ go (event-cases e log a ea at)
  where
    go : ((a ≡ length log) × (ea ≡ e)) ⊎ ((a < length log) × (event_at log a ≡ Some ea)) → cond (is_seq_cst_fence e && eqb a (length log)) (slice_index clock u) (table_at old a u) ≡ (views rule (e ∷ log)).at a u
    go (inl q) = let x : is_seq_cst_fence e ≡ true = rw q.1 at f in rw (x, eq-eqb a (length log) q.0, k u) refl
    go (inr q) = rw (ne_eqb a (length log) (λ z. let l = q.0 in omega (arith, z, l)), and-false (is_seq_cst_fence e)) (h a ea q.1 f u)

pub fences-none : (rule : Rule) (fences : Table) → FencesHold rule [] fences
fences-none rule fences a e at = absurd (cc)

-- ---- initial values

pub initials-put : (log : List Event) (e : Event) (cell : CellId) (old new : BTreeMap ℕ Scalar) → cell.at < 4294967296 → ((c : CellId) → (accesses c e && eqb (position_of e) 0) ≡ same_cell c cell)
    → ((q : ℕ) → get nat_cmp new q ≡ cond (is_at (nat_cmp (cell_key cell)) q) (Some (value_of e)) (get nat_cmp old q)) → InitialsHold log old → InitialsHold (e ∷ log) new
initials-put log e cell old new l a p h c m = p (cell_key c) ∙ rw (is_at-key cell c l m, a c, h c m) refl

pub initials-same : (log : List Event) (e : Event) (old : BTreeMap ℕ Scalar) → ((c : CellId) → (accesses c e && eqb (position_of e) 0) ≡ false) → InitialsHold log old → InitialsHold (e ∷ log) old
initials-same log e old a h c m = h c m ∙ rw (a c) refl

pub initials-none : (initials : BTreeMap ℕ Scalar) → initials.entries ≡ [] → InitialsHold [] initials
initials-none initials e cell l = rw e refl

pub initials-kept : (log : List Event) (old new : BTreeMap ℕ Scalar) → new.entries ≡ old.entries → InitialsHold log old → InitialsHold log new
initials-kept log old new e h c m = rw e (h c m)

swapped : (a b : CellId) → same_cell a b ≡ same_cell b a
swapped a b = go (same_cell a b) refl (same_cell b a) refl
  where
    go : (x : Bool) → same_cell a b ≡ x → (y : Bool) → same_cell b a ≡ y → same_cell a b ≡ same_cell b a
    go true p true q = p ∙ sym q
    go false p false q = p ∙ sym q
    go true p false q = absurd (false≢true (sym q ∙ rw (same_cell-true a b p) (same_cell-refl b)))
    go false p true q = absurd (false≢true (sym p ∙ rw (same_cell-true b a q) (same_cell-refl a)))

and-true : (b : Bool) → (b && true) ≡ b
and-true true = refl
and-true false = refl

-- an access of position 0, of another position, and what is no access
pub at-start : (t : ℕ) (mode : Mode) (cell : CellId) (o : Order) (p : ℕ) (v : Scalar) → p ≡ 0 → (c : CellId) → (accesses c (record { thread = t; kind = Access mode cell o p v }) && eqb p 0) ≡ same_cell c cell
at-start t mode cell o p v z c = rw (eq-eqb p 0 z) (and-true (same_cell cell c) ∙ swapped cell c)

pub past-start : (t : ℕ) (mode : Mode) (cell : CellId) (o : Order) (p : ℕ) (v : Scalar) → (p ≡ 0 → ⊥) → (c : CellId) → (accesses c (record { thread = t; kind = Access mode cell o p v }) && eqb p 0) ≡ false
past-start t mode cell o p v n c = rw (ne_eqb p 0 n) (and-false (same_cell cell c))

-- an access of position 0 keeps its value
pub initials-access : (log : List Event) (e : Event) (mode : Mode) (cell : CellId) (o : Order) (p : ℕ) (v : Scalar) (old new : BTreeMap ℕ Scalar) → e.kind ≡ Access mode cell o p v → p ≡ 0 → cell.at < 4294967296
    → ((q : ℕ) → get nat_cmp new q ≡ cond (is_at (nat_cmp (cell_key cell)) q) (Some v) (get nat_cmp old q)) → InitialsHold log old → InitialsHold (e ∷ log) new
initials-access log e mode cell o p v old new k z l u h =
    subst (λ (x : Kind). InitialsHold (record { thread = e.thread; kind = x } ∷ log) new) (sym k)
    (initials-put log (record { thread = e.thread; kind = Access mode cell o p v }) cell old new l (at-start e.thread mode cell o p v z) u h)

-- ---- room

-- room for the cell that the event accesses, if it accesses one
pub room-for : (e : Event) (o : Option CellId) (numbers : CellId → ℕ) (kept : List CellViews) → CellFits (record { thread = e.thread; cell = o; events = 1 }) numbers kept
    → MatchOption o ((cell : CellId) → accesses cell e ≡ false) (λ c. accesses c e ≡ true) → e.thread < 64 → (cell : CellId) → accesses cell e ≡ true → CellRoomAt 1 e.thread numbers kept cell
room-for e None numbers kept f m l cell a = absurd (false≢true (sym (m cell) ∙ a))
room-for e (Some c) numbers kept f m l cell a = f cell (ap (λ (x : CellId). Some x) (sym (one-access e cell c a m))) l
