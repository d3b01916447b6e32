use Rattle.std.proofs.Common.{◌≡◌, ◌≤◌, sym, subst, arith, slice_get, inl, inr, refl}
use Rattle.std.specs.Prelude.{slice_index}
use Rattle.std.specs.List.{All}
use Rattle.std.proofs.lemmas.Bool.{cases_lt}
use Rattle.type_definitions.specs.Parts.{parts, parts_at}
use Rattle.type_classes.proofs.Firsts.{there}
use Rattle.type_classes.proofs.ranking.descends.Goals as goal

pub loop-x-preserved : goal.loop-x-preserved
loop-x-preserved c = λ a l.
    let g = c.args.all.now in
    let rank = c.args.rank.now in
    let x = c.loop-x.x in
    let d = c.index-all-x.result in
    let here : All (λ p. slice_index rank p ≤ slice_index rank x) (parts_at (slice_get g x)) =
    subst (λ o. All (λ p. slice_index rank p ≤ slice_index rank x) (parts_at o)) (sym (there g x d c.loop-x-test.true c.index-all-x.is))
    (subst (λ t. All (λ p. slice_index rank p ≤ t) (parts d)) c.at.ensures (c.if-not-parts_stay_within.ensures refl)) in
    elim (cases_lt a x) [
      | inl m ↦ c.loop-x.invariant a m
      | inr m ↦ let s : a ≡ x = omega arith in subst (λ w. All (λ p. slice_index rank p ≤ slice_index rank w) (parts_at (slice_get g w))) (sym s) here
    ]
