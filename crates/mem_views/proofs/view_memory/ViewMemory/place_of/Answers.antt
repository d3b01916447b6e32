use Rattle.std.proofs.Common.{◌≡◌, ◌∙◌, ◌+◌, ◌<◌, sym, ℕ, List, Option, Some, None, IfSome, MatchOption, length, arith}
use Rattle.std.proofs.lemmas.Bool.{false≢true}
use Rattle.mu_values.specs.declared.cells.CellId.{CellId}
use Rattle.mem_views.specs.Placing.{place_in}
use Rattle.view_parts.specs.Placing.{Owned}
use Rattle.view_parts.specs.Lemmas.CellsKept.{one-access, place-below}
use Rattle.mem_views.proofs.view_memory.ViewMemory.place_of.Goals as goal

-- a place that was found is one of those that are there
there_if : (numbers : CellId → ℕ) (owners : List CellId) (n : ℕ) (cell : CellId) (o : Option ℕ) → Owned numbers owners → length owners ≡ n → MatchOption o (numbers cell ≡ 0) (λ p. numbers cell ≡ p + 1) → IfSome o (λ p. p < n)
there_if numbers owners n cell None own same at = tt
there_if numbers owners n cell (Some p) own same at = place-below numbers owners n cell p own same (omega (arith, at))

pub returns-in_err-cell-clause-found : goal.returns-in_err-cell-clause-found
returns-in_err-cell-clause-found c cell a = absurd (false≢true (sym (c.in_err-cell.ensures cell) ∙ a))

pub returns-clause-found : goal.returns-clause-found
returns-clause-found c cell a =
    let same : cell ≡ c.in_ok-cell.cell = one-access c.args.event.now cell c.in_ok-cell.cell a c.in_ok-cell.ensures in
    rw same c.find.ensures

pub returns-clause-there : goal.returns-clause-there
returns-clause-there c =
    let memory = c.args.self.now in
    there_if (place_in memory.places.objects.items) memory.places.owners.items (length memory.kept.items) c.in_ok-cell.cell c.find.result memory.places.owned memory.placed c.find.ensures
