-- Of where blocks go.
use Rattle.std.proofs.Common.{◌≡◌, ℕ, ◌<◌, List, length, sym, subst, inl, inr}
use Rattle.std.proofs.Math.ListN.{set}
use Rattle.std.specs.Prelude.{slice_index}
use Rattle.std.proofs.lemmas.Bool.{cases_eq}
use Rattle.std.proofs.lemmas.List.{get_or-set_same, get_or-set_other}
use Rattle.type_classes.specs.Targets.{TargetsFit}

pub target_set : (target : List ℕ) (n i v : ℕ) → i < length target → v < n → TargetsFit target n → TargetsFit (set target i v) n
target_set target n i v l m h b = elim (cases_eq b i) [
  | inl q ↦ subst (λ w. slice_index (set target i v) w < n) (sym q) (subst (λ w. w < n) (sym (get_or-set_same target i v 0 l)) m)
  | inr q ↦ subst (λ w. w < n) (sym (get_or-set_other target i b v 0 q)) (h b)
]
