-- A clock that knows nothing finds nothing, so that without fences the accesses that a thread knows make the floor.
use Rattle.std.proofs.Common.{◌≡◌, ℕ, ◌≤◌, Bool, true, false, cond, ◌&&◌, eqb, List, [], ◌∷◌, length, refl, ap, ◌∙◌, arith}
use Rattle.std.specs.Prelude.{◌+◌, ◌*◌, unwrap_or, replicate}
use Rattle.std.proofs.lemmas.Bool.{le-ltb}
use Rattle.mu_values.specs.declared.cells.CellId.{CellId}
use Rattle.mem_axioms.specs.Events.{position_of}
use Rattle.mem_axioms.specs.declared.types.Event.{Event}
use Rattle.mem_axioms.specs.declared.types.Rule.{Rule}
use Rattle.write_history.specs.declared.access_index.Entry.{Entry}
use Rattle.write_history.specs.Indexes.{last_position}
use Rattle.view_parts.specs.Families.{is_any, has_seq_cst_order}
use Rattle.view_parts.specs.Indexed.{entries_by, by_thread}
use Rattle.view_parts.specs.declared.families.Family.TheVariants.{Any, SeqCst}
use Rattle.view_parts.specs.Touched.{entries_at}
use Rattle.view_parts.specs.LookUps.{position_known}
use Rattle.view_parts.specs.FloorLooks.{IsFound, FoundFloor}
use Rattle.view_parts.specs.Holding.{CellHolds}
use Rattle.view_parts.specs.declared.cell.CellViews.{CellViews}
use Rattle.view_parts.specs.Lemmas.Entries.{last_below, entries-floor}
use Rattle.clocks.specs.Zeros.{zeros-at}

none-below : (position : ℕ → Event → ℕ) (test : Event → Bool) (log : List Event) → last_below position test 0 log ≡ 0
none-below position test [] = refl
none-below position test (e ∷ past) = rw (last_below, le-ltb (length past) 0 (omega arith)) (go (test e) (none-below position test past))
  where
    go : (b : Bool) → last_below position test 0 past ≡ 0 → cond (b && false) (position (length past) e) (last_below position test 0 past) ≡ 0
    go true h = h
    go false h = h

none-found : (position : ℕ → Event → ℕ) (test : ℕ → Event → Bool) (log : List Event) (entries : ℕ → List Entry) → ((u : ℕ) → entries u ≡ entries_by position (test u) log) → IsFound entries (replicate 64 0) 0
none-found position test log entries h = record { above = λ u. (let z = none u in omega (arith, z)); least = λ p l. omega arith }
  where
    none : (u : ℕ) → position_known entries (replicate 64 0) u ≡ 0
    none u =
        ap (λ (known : ℕ). unwrap_or (last_position known (entries u)) 0) (zeros-at 64 u)
        ∙ (ap (λ (found : List Entry). unwrap_or (last_position 0 found) 0) (h u)
        ∙ (entries-floor position (test u) 0 log ∙ none-below position (test u) log))

pub known-found : (rule : Rule) (log : List Event) (cell : CellId) (kept : CellViews) (known : List ℕ) (found : ℕ) → CellHolds log cell kept → IsFound (entries_at kept.accesses Any) known found
    → FoundFloor kept known (replicate 64 0) (replicate 64 0) found
known-found rule log cell kept known found h f = record {
  first = found;
  second = 0;
  third = 0;
  of_first = f;
  of_second = none-found (λ n e. position_of e) (λ u. by_thread has_seq_cst_order cell u) log (entries_at kept.accesses SeqCst) (h.accesses SeqCst);
  of_third = none-found (λ n e. position_of e) (λ u. by_thread is_any cell u) log (entries_at kept.accesses Any) (h.accesses Any);
  is = omega arith;
}

pub one-of-three : (a b x : ℕ) → b ≤ a + x → b ≤ a + 3 * x
one-of-three a b x l = omega (arith, l)

pub no-fence : (ordered : Bool) (limit joined before : ℕ) → ordered ≡ false → limit ≡ 0 → 0 ≡ cond ordered joined (cond (eqb limit 0) 0 before)
no-fence ordered limit joined before o l = rw (o, l) refl
