-- What each outcome says is what their texts say.
use Rattle.std.proofs.Common.{◌≡◌, ℕ, List, [], ◌∷◌, map, refl, ap}
use Rattle.condition_answers.specs.Outcomes.{outcome_in}
use Rattle.condition_answers.specs.Lines.{outcomes_in}

pub same_outcomes : {A : Type 0} (f : A → List ℕ) (es : List A) → map (λ e. outcome_in (f e)) es ≡ outcomes_in (map f es)
same_outcomes f [] = refl
same_outcomes f (e ∷ es) = ap (λ os. outcome_in (f e) ∷ os) (same_outcomes f es)
