-- The test of two cells is their equality.
use Rattle.std.proofs.Common.{◌≡◌, ◌↔◌, eqb, ℕ, true, refl, ap, ◌∙◌}
use Rattle.std.proofs.lemmas.Bool.{eq-eqb, eqb-true, and_from, and_parts}
use Rattle.mu_values.specs.SameCell.{same_cell}
use Rattle.mu_values.specs.declared.cells.CellId.{CellId}

pub same_cell-true : (a b : CellId) → same_cell a b ≡ true → a ≡ b
same_cell-true a b h =
    let p = and_parts (eqb a.object b.object) (eqb a.at b.at) h in
    let x = eqb-true a.object b.object p.0 in
    let y = eqb-true a.at b.at p.1 in
    ap (λ (n : ℕ). record { object = n; at = a.at }) x ∙ ap (λ (n : ℕ). record { object = b.object; at = n }) y

pub same_cell-refl : (a : CellId) → same_cell a a ≡ true
same_cell-refl a = and_from (eqb a.object a.object) (eqb a.at a.at) (eq-eqb a.object a.object refl) (eq-eqb a.at a.at refl)

pub same_cell-iff : (a b : CellId) → (same_cell a b ≡ true) ↔ (a ≡ b)
same_cell-iff a b = (same_cell-true a b, λ p. rw p (same_cell-refl b))
