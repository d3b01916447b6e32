-- What the texts of some outcomes say.
use Rattle.std.specs.Prelude.{◌≡◌, [], ◌∷◌, codes, refl}
use Rattle.conditions.specs.declared.tree.Value.TheVariants as values
use Rattle.conditions.specs.declared.tree.Ending.TheVariants as endings
use Rattle.condition_answers.specs.Outcomes.{outcome_in}

over : outcome_in (codes "returned t0 NULL\nexited t1\nreturned t2 {1 2} 30\nfinal @x 255\nfinal @r #4\nall waiting t3\n") ≡ record {
  returned = record { thread = 0; values = values.Null ∷ [] } ∷ record { thread = 2; values = values.Other ∷ values.Number 30 ∷ [] } ∷ [];
  finals = values.Number 255 ∷ values.Other ∷ [];
  ending = endings.Waiting;
}
over = refl

cut : outcome_in (codes "undefined DataRace t1 @p1.v.e 2 read RELAXED #0+0 1 7\n") ≡ record { returned = []; finals = []; ending = endings.DataRace }
cut = refl
