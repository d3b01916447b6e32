-- What is kept of a cell with one more event.
use Rattle.std.proofs.Common.{◌≡◌, ℕ, zero, suc, slice_index, ◌+◌, ◌-◌, ◌<◌, Bool, true, false, cond, List, [], ◌∷◌, length, refl, sym, ap, ◌∙◌, arith}
use Rattle.std.specs.Prelude.{◌^◌, Option}
use Rattle.mu_values.specs.declared.scalars.Scalar.TheVariants.{Null}
use Rattle.mu_values.specs.declared.cells.CellId.{CellId}
use Rattle.mem_axioms.specs.Events.{accesses, modifies, is_modification, position_of}
use Rattle.mem_axioms.specs.declared.types.Event.{Event}
use Rattle.mem_axioms.specs.declared.types.Rule.{Rule}
use Rattle.mem_axioms.specs.declared.types.Kind.{Kind}
use Rattle.mem_axioms.specs.declared.types.Kind.TheVariants.{Access, Fence, NewStack, NewThread, Leave, Enter, Wake, Woken}
use Rattle.mem_axioms.specs.declared.types.Mode.TheVariants.{Read, Write, Update}
use Rattle.clock_laws.specs.Clocks.{views, gives}
use Rattle.clocks.specs.Knowing.{known_by}
use Rattle.clocks.specs.Spans.{Spans}
use Rattle.clocks.specs.KeptClocks.{kept_at, Grown}
use Rattle.view_parts.specs.Indexed.{entries_of, by_thread}
use Rattle.view_parts.specs.Families.{belongs}
use Rattle.view_parts.specs.Touched.{entries_at}
use Rattle.view_parts.specs.CellAdded.{CellAdded, CellBelow, SameCell, IsFresh}
use Rattle.view_parts.specs.Looks.{AllFew}
use Rattle.view_parts.specs.Holding.{values_of, CellHolds, ClocksHold, IsUntouched}
use Rattle.view_parts.specs.declared.cell.CellViews.{CellViews}
use Rattle.mem_axioms.specs.Lemmas.Numbers.{event-newest}
use Rattle.mem_axioms.specs.Lemmas.Positions.{newest-changed, newest-same}
use Rattle.mem_axioms.specs.Logs.{newest}
use Rattle.std.proofs.lemmas.Bool.{false≢true}
use Rattle.view_parts.specs.Lemmas.Entries.{entries-few, entries-below, entries-none}
use Rattle.view_parts.specs.Lemmas.ValuesKept.{untouched-same, untouched-past}

-- an access of the cell changes it exactly where it is a write or update
of_cell-kind : (t : ℕ) (k : Kind) (c : CellId) → accesses c (record { thread = t; kind = k }) ≡ true → modifies c (record { thread = t; kind = k }) ≡ is_modification (record { thread = t; kind = k })
of_cell-kind t (Access Read cell o p x) c h = refl
of_cell-kind t (Access Write cell o p x) c h = h
of_cell-kind t (Access Update cell o p x) c h = h
of_cell-kind t (Fence o) c h = refl
of_cell-kind t (NewStack o) c h = refl
of_cell-kind t (NewThread o) c h = refl
of_cell-kind t (Leave o) c h = refl
of_cell-kind t (Enter o) c h = refl
of_cell-kind t (Wake o n) c h = refl
of_cell-kind t (Woken o) c h = refl

pub of_cell : (e : Event) (c : CellId) → accesses c e ≡ true → modifies c e ≡ is_modification e
of_cell e c = of_cell-kind e.thread e.kind c

module _ (rule : Rule) (log : List Event) (cell : CellId) (e : Event) where
  pub cell-more : (before after : Spans) (old new : CellViews) (given : Option (List ℕ)) → CellAdded rule before after old new (length log) e given → CellHolds log cell old → accesses cell e ≡ true → CellHolds (e ∷ log) cell new
  cell-more before after old new given a h s =
      let m = of_cell e cell s in
      record {
        values = a.values ∙ rw (m, h.values) refl;
        accesses = λ family u. a.accesses family u ∙ rw (h.accesses family u, s) refl;
      }

  -- one more position exactly where the cell is changed
  positions-more : (changes made : Bool) (n : ℕ) → changes ≡ made → modifies cell e ≡ changes → n ≡ suc (newest log cell) → cond made (n + 1) n ≡ suc (newest (e ∷ log) cell)
  positions-more true true n s m p = (let q = newest-changed e log cell m in omega (arith, p, q))
  positions-more false false n s m p = (let q = newest-same e log cell m in omega (arith, p, q))
  positions-more true false n s m p = absurd (false≢true (sym s))
  positions-more false true n s m p = absurd (false≢true s)

  pub clocks-more : (before after : Spans) (old new : CellViews) (given : Option (List ℕ)) → CellAdded rule before after old new (length log) e given → ClocksHold rule log before cell old → accesses cell e ≡ true
      → ((u : ℕ) → known_by given u ≡ gives (views rule log) (length log) e u) → ClocksHold rule (e ∷ log) after cell new
  clocks-more before after old new given a h s g =
      let m = of_cell e cell s in
      record {
        released = λ p u. a.released p u ∙ rw (m, g u, h.released p u, h.released (p - 1) u, h.sequence e.thread u) refl;
        positions = a.positions ∙ positions-more (modifies cell e) (is_modification e) (length old.released.items) m refl h.positions;
        sequence = λ t u. a.sequence t u ∙ rw (m, g u, h.sequence t u) refl;
        named = a.named;
      }

  pub cell-same : (kept : CellViews) → CellHolds log cell kept → accesses cell e ≡ false → CellHolds (e ∷ log) cell kept
  cell-same kept h s =
      let m = untouched-same e cell s in
      record {
        values = h.values ∙ rw m refl;
        accesses = λ family u. h.accesses family u ∙ rw s refl;
      }

  pub clocks-same : (clocks : Spans) (kept : CellViews) → ClocksHold rule log clocks cell kept → accesses cell e ≡ false → ClocksHold rule (e ∷ log) clocks cell kept
  clocks-same clocks kept h s =
      let m = untouched-same e cell s in
      record {
        released = λ p u. h.released p u ∙ rw m refl;
        positions = h.positions ∙ ap suc (sym (newest-same e log cell m));
        sequence = λ t u. h.sequence t u ∙ rw m refl;
        named = h.named;
      }

-- more clocks change none that the cell names
pub clocks-grown : (rule : Rule) (log : List Event) (cell : CellId) (before after : Spans) (kept : CellViews) → Grown before after → ClocksHold rule log before cell kept → ClocksHold rule log after cell kept
clocks-grown rule log cell before after kept g h = record {
  released = λ p u. g.same (slice_index kept.released.items p) u (h.named.released p) ∙ h.released p u;
  positions = h.positions;
  sequence = λ t u. g.same (slice_index kept.sequence.items t) u (h.named.sequence t) ∙ h.sequence t u;
  named = record {
    released = λ p. (let n = h.named.released p in let m = g.more in omega (arith, n, m));
    sequence = λ t. (let n = h.named.sequence t in let m = g.more in omega (arith, n, m));
  };
}

module _ (rule : Rule) (log : List Event) (cell : CellId) where
  -- nothing but room changed
  pub cell-kept : (old new : CellViews) → SameCell old new → CellHolds log cell old → CellHolds log cell new
  cell-kept old new s h = record {
    values = s.values ∙ h.values;
    accesses = λ family u. s.accesses family u ∙ h.accesses family u;
  }

  pub clocks-kept : (clocks : Spans) (old new : CellViews) → SameCell old new → ClocksHold rule log clocks cell old → ClocksHold rule log clocks cell new
  clocks-kept clocks old new s h = record {
    released = λ p u. ap (λ (numbers : List ℕ). kept_at clocks (slice_index numbers p) u) s.released ∙ h.released p u;
    positions = ap (λ (numbers : List ℕ). length numbers) s.released ∙ h.positions;
    sequence = λ t u. ap (λ (n : ℕ). kept_at clocks n u) (s.sequence t) ∙ h.sequence t u;
    named = record {
      released = λ p. rw s.released (h.named.released p);
      sequence = λ t. rw (s.sequence t) (h.named.sequence t);
    };
  }

  -- its entries have numbers of the log
  pub cell-below : (kept : CellViews) (t : ℕ) → CellHolds log cell kept → CellBelow (suc (length log)) t kept
  cell-below kept t h family = rw (h.accesses family t) (entries-below (λ n e. position_of e) (by_thread (belongs family) cell t) log)

  -- and are no more than those of the log
  pub cell-few : (kept : CellViews) (d : ℕ) → CellHolds log cell kept → length log < 2 ^ d → AllFew d kept
  cell-few kept d h l family u = rw (h.accesses family u) (let n = entries-few (λ n e. position_of e) (by_thread (belongs family) cell u) log in omega (arith, n, l))

-- what no event accesses is as it was made
untouched-newest : (log : List Event) (c : CellId) → IsUntouched log c → newest log c ≡ 0
untouched-newest [] c h = refl
untouched-newest (e ∷ past) c h = newest-same e past c (untouched-same e c (h (length past) e (event-newest e past))) ∙ untouched-newest past c (untouched-past e past c h)

untouched-values : (log : List Event) (c : CellId) → IsUntouched log c → values_of log c ≡ Null ∷ []
untouched-values [] c h = refl
untouched-values (e ∷ past) c h = rw (untouched-same e c (h (length past) e (event-newest e past))) (untouched-values past c (untouched-past e past c h))

pub untouched-released : (rule : Rule) (log : List Event) (c : CellId) (p u : ℕ) → IsUntouched log c → (views rule log).released c p u ≡ 0
untouched-released rule [] c p u h = refl
untouched-released rule (e ∷ past) c p u h = rw (untouched-same e c (h (length past) e (event-newest e past))) (untouched-released rule past c p u (untouched-past e past c h))

pub untouched-sequence : (rule : Rule) (log : List Event) (c : CellId) (t u : ℕ) → IsUntouched log c → (views rule log).sequence c t u ≡ 0
untouched-sequence rule [] c t u h = refl
untouched-sequence rule (e ∷ past) c t u h = rw (untouched-same e c (h (length past) e (event-newest e past))) (untouched-sequence rule past c t u (untouched-past e past c h))

untouched-entries : (family : Event → Bool) (log : List Event) (c : CellId) (u : ℕ) → IsUntouched log c → entries_of (by_thread family c u) log ≡ []
untouched-entries family log c u h = entries-none (λ n e. position_of e) (by_thread family c u) log (λ i e at. rw (h i e at) refl)

pub cell-fresh : (log : List Event) (cell : CellId) (kept : CellViews) → IsFresh kept → IsUntouched log cell → CellHolds log cell kept
cell-fresh log cell kept f h = record {
  values = f.values ∙ sym (untouched-values log cell h);
  accesses = λ family u. f.accesses family u ∙ sym (untouched-entries (belongs family) log cell u h);
}

-- no number but 0 in a list of one 0
zero-at : (p : ℕ) → slice_index (0 ∷ []) p ≡ 0
zero-at zero = refl
zero-at (suc p) = refl

pub clocks-fresh : (rule : Rule) (log : List Event) (clocks : Spans) (cell : CellId) (kept : CellViews) → IsFresh kept → IsUntouched log cell → ClocksHold rule log clocks cell kept
clocks-fresh rule log clocks cell kept f h = record {
  released = λ p u. ap (λ (n : ℕ). kept_at clocks n u) (none p) ∙ sym (untouched-released rule log cell p u h);
  positions = ap (λ (numbers : List ℕ). length numbers) f.released ∙ ap suc (sym (untouched-newest log cell h));
  sequence = λ t u. ap (λ (n : ℕ). kept_at clocks n u) (never t) ∙ sym (untouched-sequence rule log cell t u h);
  named = record { released = λ p. rw (none p) (omega arith); sequence = λ t. rw (never t) (omega arith) };
}
  where
    none : (p : ℕ) → slice_index kept.released.items p ≡ 0
    none p = ap (λ (numbers : List ℕ). slice_index numbers p) f.released ∙ zero-at p

    never : (t : ℕ) → slice_index kept.sequence.items t ≡ 0
    never t = ap (λ (numbers : List ℕ). slice_index numbers t) f.sequence
