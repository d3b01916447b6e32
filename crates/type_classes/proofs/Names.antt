-- Of names by the least of a block.
use Rattle.std.proofs.Common.{◌≡◌, ℕ, ◌+◌, ◌<◌, ◌≤◌, List, length, sym, ap, subst, arith, inl, inr}
use Rattle.std.proofs.Math.ListN.{set}
use Rattle.std.specs.Prelude.{slice_index}
use Rattle.std.proofs.lemmas.Bool.{cases_eq, cases_lt}
use Rattle.std.proofs.lemmas.List.{get_or-set_same, get_or-set_other}
use Rattle.type_classes.specs.Names.{FirstsSoFar}

abbrev pub NamedSoFar : List ℕ → List ℕ → ℕ → Type 0
NamedSoFar block p n = (x : ℕ) → x < n → (slice_index p x ≤ x) × ((b : ℕ) → b < x → slice_index block b ≡ slice_index block x → slice_index p x ≤ b)

-- a block that was not met yet gets x
pub first_met : (block first : List ℕ) (x : ℕ) → slice_index block x < length first → x < slice_index first (slice_index block x) → FirstsSoFar block first x → FirstsSoFar block (set first (slice_index block x) x) (x + 1)
first_met block first x m e h b lb = elim (cases_eq (slice_index block b) (slice_index block x)) [
  | inl q ↦ elim (cases_lt b x) [
    | inl bx ↦ let f : slice_index first (slice_index block x) ≤ b = subst (λ w. slice_index first w ≤ b) q (h b bx) in absurd (omega arith)
    | inr xb ↦ subst (λ w. slice_index (set first (slice_index block x) x) w ≤ b) (sym q) (subst (λ w. w ≤ b) (sym (get_or-set_same first (slice_index block x) x 0 m)) xb)
  ]
  | inr q ↦ elim (cases_lt b x) [
    | inl bx ↦ subst (λ w. w ≤ b) (sym (get_or-set_other first (slice_index block x) (slice_index block b) x 0 q)) (h b bx)
    | inr xb ↦ let s : b ≡ x = omega arith in absurd (q (ap (λ w. slice_index block w) s))
  ]
]

pub first_kept : (block first : List ℕ) (x : ℕ) → slice_index first (slice_index block x) ≤ x → FirstsSoFar block first x → FirstsSoFar block first (x + 1)
first_kept block first x e h b lb = elim (cases_lt b x) [
  | inl bx ↦ h b bx
  | inr xb ↦ let s : b ≡ x = omega arith in subst (λ w. slice_index first (slice_index block w) ≤ w) (sym s) e
]

pub first_least : (block first : List ℕ) (x b : ℕ) → FirstsSoFar block first x → b < x → slice_index block b ≡ slice_index block x → slice_index first (slice_index block x) ≤ b
first_least block first x b h l q = subst (λ w. slice_index first w ≤ b) q (h b l)
