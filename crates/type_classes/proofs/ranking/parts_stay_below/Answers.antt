use Rattle.std.proofs.Common.{◌<◌, ◌∙◌, ap, subst, arith, ℕ, List}
use Rattle.std.specs.Prelude.{slice_index}
use Rattle.std.specs.List.{All}
use Rattle.std.proofs.lemmas.List.{take_all}
use Rattle.std.proofs.lemmas.List.Elements.{All-more}
use Rattle.type_definitions.specs.Parts.{parts}
use Rattle.type_classes.proofs.ranking.parts_stay_below.Goals as goal

pub loop-k-preserved : goal.loop-k-preserved
loop-k-preserved c =
    let ps = parts c.args.definition.now in
    let rank = c.args.rank.now in
    let e = c.at.ensures ∙ ap (λ p. slice_index rank p) c.part.ensures in
    let low = c.if-at-top.false in
    All-more (λ p. slice_index rank p < c.args.top) ps c.loop-k.k 0 (omega (arith, c.loop-k-test.true, c.part_count-k-end.ensures)) c.loop-k.invariant (subst (λ r. r < c.args.top) e low)

pub returns : goal.returns
returns c = λ u.
    let ps = parts c.args.definition.now in
    let past = c.loop-k-test.false in
    subst (λ (xs : List ℕ). All (λ p. slice_index c.args.rank.now p < c.args.top) xs) (take_all c.loop-k.k ps (omega (arith, past, c.part_count-k-end.ensures))) c.loop-k.invariant
