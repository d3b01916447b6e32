-- The clocks of threads, stacks, wakes and fences with one more event.
use Rattle.std.proofs.Common.{◌≡◌, ℕ, ◌<◌, Bool, true, false, cond, ◌&&◌, eqb, suc, List, [], ◌∷◌, length, Some, refl, ◌∙◌, inl, inr, ◌⊎◌, slice_index, arith}
use Rattle.std.specs.Prelude.{◌^◌, All, Option}
use Rattle.std.proofs.lemmas.Bool.{eq-eqb, ne_eqb}
use Rattle.mem_axioms.specs.Events.{is_seq_cst_fence}
use Rattle.mem_axioms.specs.Logs.{event_at}
use Rattle.mem_axioms.specs.declared.types.Event.{Event}
use Rattle.mem_axioms.specs.declared.types.Rule.{Rule}
use Rattle.mem_axioms.specs.Lemmas.Numbers.{event-cases}
use Rattle.clock_laws.specs.Clocks.{views, knows, pends}
use Rattle.clocks.specs.Knowing.{known_by}
use Rattle.clocks.specs.Tables.{table_at, row_at}
use Rattle.view_parts.specs.RowsAdded.{RowsAdded}
use Rattle.view_parts.specs.Holding.{RowsHold, fence_by}
use Rattle.view_parts.specs.Indexed.{accesses_at}
use Rattle.view_parts.specs.Looks.{IsFew}
use Rattle.view_parts.specs.Lemmas.Entries.{entries-few, entries-below}
use Rattle.view_parts.specs.declared.rows.Rows.{Rows}

and-false : (b : Bool) → (b && false) ≡ false
and-false true = refl
and-false false = refl

module _ (rule : Rule) (log : List Event) (e : Event) (old new : Rows) (clock : List ℕ) (taken : Option (List ℕ))
    (a : RowsAdded old new (length log) e clock taken) (h : RowsHold rule log old)
    (k : (u : ℕ) → slice_index clock u ≡ knows (views rule log) (length log) e u)
    (p : (u : ℕ) → known_by taken u ≡ pends (views rule log) e u) where
  before-more : (i : ℕ) (ei : Event) → event_at (e ∷ log) i ≡ Some ei → is_seq_cst_fence ei ≡ true → (u : ℕ) → table_at new.before i u ≡ (views rule (e ∷ log)).before i u
  before-more i ei at w u = a.before i u ∙ go (event-cases e log i ei at)
    where
      go : ((i ≡ length log) × (ei ≡ e)) ⊎ ((i < length log) × (event_at log i ≡ Some ei)) → cond (is_seq_cst_fence e && eqb i (length log)) (slice_index old.joined u) (table_at old.before i u) ≡ (views rule (e ∷ log)).before i u
      go (inl q) = let x : is_seq_cst_fence e ≡ true = rw q.1 at w in rw (x, eq-eqb i (length log) q.0, h.joined u) refl
      go (inr q) = rw (ne_eqb i (length log) (λ z. let l = q.0 in omega arith), and-false (is_seq_cst_fence e)) (h.before i ei q.1 w u)

  pub rows-more : RowsHold rule (e ∷ log) new
  rows-more = record {
    threads = λ t u. a.threads t u ∙ rw (k u, h.threads t u) refl;
    left = λ s u. a.left s u ∙ rw (k u, h.left s u) refl;
    fenced = λ t u. a.fenced t u ∙ rw (k u, h.fenced t u) refl;
    pending = λ t u. a.pending t u ∙ rw (h.pending t u, p u) refl;
    joined = λ u. a.joined u ∙ rw (k u, h.joined u) refl;
    wakes = λ i u. a.wakes i u ∙ rw (k u, h.wakes i u) refl;
    before = before-more;
    fences = λ u. a.fences u ∙ rw (h.fences u) refl;
  }

-- the fences of a thread are no more than the events
pub rows-few : (rule : Rule) (log : List Event) (rows : Rows) (d : ℕ) → RowsHold rule log rows → length log < 2 ^ d → IsFew d (accesses_at rows.fences.items)
rows-few rule log rows d h l u = rw (h.fences u) (let n = entries-few (λ n e. n) (fence_by u) log in omega (arith, n, l))

-- and have numbers of the log
pub rows-below : (rule : Rule) (log : List Event) (rows : Rows) (t : ℕ) → RowsHold rule log rows → All (λ entry. entry.event < suc (length log)) (accesses_at rows.fences.items t)
rows-below rule log rows t h = rw (h.fences t) (entries-below (λ n e. n) (fence_by t) log)

pub rows-none : (rule : Rule) (rows : Rows) → ((t u : ℕ) → row_at rows.threads t u ≡ 0) → ((s u : ℕ) → table_at rows.left s u ≡ 0) → ((i u : ℕ) → table_at rows.wakes i u ≡ 0) → ((t u : ℕ) → row_at rows.fenced t u ≡ 0) → ((t u : ℕ) → row_at rows.pending t u ≡ 0)
    → ((u : ℕ) → slice_index rows.joined u ≡ 0) → ((u : ℕ) → accesses_at rows.fences.items u ≡ []) → RowsHold rule [] rows
rows-none rule rows t l w f p j i = record {
  threads = t;
  left = l;
  fenced = f;
  pending = p;
  joined = j;
  wakes = w;
  before = λ a e at. absurd (cc);
  fences = i;
}
