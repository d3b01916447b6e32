-- What an event takes, gains and gives, by what is kept.
use Rattle.std.proofs.Common.{◌≡◌, ℕ, Bool, true, false, cond, ◌&&◌, List, length, refl, sym, ◌∙◌, slice_index}
use Rattle.std.proofs.lemmas.Bool.{false≢true}
use Rattle.mu_values.specs.declared.cells.CellId.{CellId}
use Rattle.mu_values.specs.CellLaws.{same_cell-true, same_cell-refl}
use Rattle.mem_axioms.specs.Events.{accesses, position_taken, loads, is_atomic}
use Rattle.mem_axioms.specs.Synchronizes.{acquires}
use Rattle.mem_axioms.specs.declared.types.Event.{Event}
use Rattle.mem_axioms.specs.declared.types.Rule.{Rule}
use Rattle.mem_axioms.specs.declared.types.Kind.{Kind}
use Rattle.mem_axioms.specs.declared.types.Kind.TheVariants.{Access, Fence, NewStack, NewThread, Leave, Enter, Wake, Woken}
use Rattle.clock_laws.specs.Clocks.{Views, views, gains, knows, pends, gives}
use Rattle.std.specs.Prelude.{Option}
use Rattle.clocks.specs.Knowing.{known_by}
use Rattle.clocks.specs.Tables.{row_at}
use Rattle.clocks.specs.Spans.{Spans}
use Rattle.view_parts.specs.CellClocks.{released_at}
use Rattle.view_parts.specs.Gaining.{takes_atomic, given_of}
use Rattle.view_parts.specs.RowsAdded.{row_gains}
use Rattle.view_parts.specs.Holding.{RowsHold, ClocksHold, IsUntouched}
use Rattle.view_parts.specs.declared.cell.CellViews.{CellViews}
use Rattle.view_parts.specs.declared.rows.Rows.{Rows}
use Rattle.view_parts.specs.Lemmas.CellKept.{untouched-released}

taken-kind : (rule : Rule) (log : List Event) (clocks : Spans) (cell : CellId) (kept : CellViews) (t : ℕ) (k : Kind) → ClocksHold rule log clocks cell kept → accesses cell (record { thread = t; kind = k }) ≡ true → (u : ℕ)
    → cond (takes_atomic (record { thread = t; kind = k })) (released_at clocks kept (position_taken (record { thread = t; kind = k })) u) 0 ≡ pends (views rule log) (record { thread = t; kind = k }) u
taken-kind rule log clocks cell kept t (Access mode of o p x) h a u = rw (same_cell-true of cell a, h.released (position_taken (record { thread = t; kind = Access mode cell o p x })) u) refl
taken-kind rule log clocks cell kept t (Fence o) h a u = refl
taken-kind rule log clocks cell kept t (NewStack o) h a u = refl
taken-kind rule log clocks cell kept t (NewThread o) h a u = refl
taken-kind rule log clocks cell kept t (Leave o) h a u = refl
taken-kind rule log clocks cell kept t (Enter o) h a u = refl
taken-kind rule log clocks cell kept t (Wake o n) h a u = refl
taken-kind rule log clocks cell kept t (Woken o) h a u = refl

-- what is kept of the cell
pub taken-are : (rule : Rule) (log : List Event) (clocks : Spans) (cell : CellId) (kept : CellViews) (e : Event) → ClocksHold rule log clocks cell kept → accesses cell e ≡ true → (u : ℕ)
    → cond (takes_atomic e) (released_at clocks kept (position_taken e) u) 0 ≡ pends (views rule log) e u
taken-are rule log clocks cell kept e h a u = taken-kind rule log clocks cell kept e.thread e.kind h a u

untaken-kind : (rule : Rule) (log : List Event) (cell : CellId) (t : ℕ) (k : Kind) → IsUntouched log cell → accesses cell (record { thread = t; kind = k }) ≡ true → (u : ℕ) → pends (views rule log) (record { thread = t; kind = k }) u ≡ 0
untaken-kind rule log cell t (Access mode of o p x) h a u = rw (same_cell-true of cell a) (go (loads mode && is_atomic o))
  where
    go : (b : Bool) → cond b ((views rule log).released cell (position_taken (record { thread = t; kind = Access mode cell o p x })) u) 0 ≡ 0
    go true = untouched-released rule log cell (position_taken (record { thread = t; kind = Access mode cell o p x })) u h
    go false = refl
untaken-kind rule log cell t (Fence o) h a u = refl
untaken-kind rule log cell t (NewStack o) h a u = refl
untaken-kind rule log cell t (NewThread o) h a u = refl
untaken-kind rule log cell t (Leave o) h a u = refl
untaken-kind rule log cell t (Enter o) h a u = refl
untaken-kind rule log cell t (Wake o n) h a u = refl
untaken-kind rule log cell t (Woken o) h a u = refl

-- nothing of an untouched one
pub untaken-are : (rule : Rule) (log : List Event) (cell : CellId) (e : Event) → IsUntouched log cell → accesses cell e ≡ true → (u : ℕ) → pends (views rule log) e u ≡ 0
untaken-are rule log cell e h a u = untaken-kind rule log cell e.thread e.kind h a u

none-kind : (v : Views) (t : ℕ) (k : Kind) → ((cell : CellId) → accesses cell (record { thread = t; kind = k }) ≡ false) → (u : ℕ) → pends v (record { thread = t; kind = k }) u ≡ 0
none-kind v t (Access mode of o p x) h u = absurd (false≢true (sym (h of) ∙ same_cell-refl of))
none-kind v t (Fence o) h u = refl
none-kind v t (NewStack o) h u = refl
none-kind v t (NewThread o) h u = refl
none-kind v t (Leave o) h u = refl
none-kind v t (Enter o) h u = refl
none-kind v t (Wake o n) h u = refl
none-kind v t (Woken o) h u = refl

-- nothing by an event that is no access
pub none-taken : (v : Views) (e : Event) → ((cell : CellId) → accesses cell e ≡ false) → (u : ℕ) → pends v e u ≡ 0
none-taken v e = none-kind v e.thread e.kind

-- what an event gains
module _ (rule : Rule) (log : List Event) (rows : Rows) (taken : Option (List ℕ)) (h : RowsHold rule log rows) where
  gains-kind : (t : ℕ) (k : Kind) → ((u : ℕ) → known_by taken u ≡ pends (views rule log) (record { thread = t; kind = k }) u) → (u : ℕ)
      → row_gains rows taken (record { thread = t; kind = k }) u ≡ gains (views rule log) (record { thread = t; kind = k }) u
  gains-kind t (Access mode cell o p x) s u = rw (s u) (go (acquires o) (loads mode && is_atomic o))
    where
      go : (a b : Bool) → cond a (cond b ((views rule log).released cell (position_taken (record { thread = t; kind = Access mode cell o p x })) u) 0) 0 ≡ cond (a && b) ((views rule log).released cell (position_taken (record { thread = t; kind = Access mode cell o p x })) u) 0
      go true b = refl
      go false b = refl
  gains-kind t (Fence o) s u = rw (h.pending t u) refl
  gains-kind t (NewStack o) s u = refl
  gains-kind t (NewThread o) s u = refl
  gains-kind t (Leave o) s u = refl
  gains-kind t (Enter stack) s u = h.left stack u
  gains-kind t (Wake o n) s u = refl
  gains-kind t (Woken wake) s u = h.wakes wake u

  pub gains-are : (e : Event) → ((u : ℕ) → known_by taken u ≡ pends (views rule log) e u) → (u : ℕ) → row_gains rows taken e u ≡ gains (views rule log) e u
  gains-are e = gains-kind e.thread e.kind

-- what it gives
pub gives-are : (rule : Rule) (log : List Event) (e : Event) (rows : Rows) (clock fenced : List ℕ) (given : Option (List ℕ)) → RowsHold rule log rows
    → ((u : ℕ) → slice_index clock u ≡ knows (views rule log) (length log) e u)
    → ((u : ℕ) → slice_index fenced u ≡ row_at rows.fenced e.thread u) → ((u : ℕ) → known_by given u ≡ given_of e clock fenced u)
    → (u : ℕ) → known_by given u ≡ gives (views rule log) (length log) e u
gives-are rule log e rows clock fenced given h k f s u = s u ∙ rw (k u, f u, h.fenced e.thread u) refl
