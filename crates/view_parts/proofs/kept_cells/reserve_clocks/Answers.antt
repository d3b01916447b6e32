use Rattle.std.proofs.Common.{ℕ, zero, suc, ◌≡◌, refl, length, arith}
use Rattle.clocks.specs.KeptClocks.{Grown, kept_at}
use Rattle.clocks.specs.Spans.{Spans, span_at}
use Rattle.view_parts.specs.Lemmas.CellsKept.{cells-grown}
use Rattle.view_parts.proofs.kept_cells.reserve_clocks.Goals as goal

-- clocks that stand as they were have not lost any
as-they-were : (old new : Spans) → length new.ends ≡ length old.ends → ((p u : ℕ) → span_at new p u ≡ span_at old p u) → Grown old new
as-they-were old new l s = record { more = omega (arith, l); same = λ n u m. same n u }
  where
    same : (n u : ℕ) → kept_at new n u ≡ kept_at old n u
    same zero u = refl
    same (suc p) u = s p u

pub returns-clause-holds : goal.returns-clause-holds
returns-clause-holds c rule log numbers kept h =
    cells-grown rule log c.args.clocks.now c.reserve.new.self numbers kept (as-they-were c.args.clocks.now c.reserve.new.self c.reserve.ensures.len c.reserve.ensures.same) h
