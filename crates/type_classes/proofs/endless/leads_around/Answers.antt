use Rattle.std.proofs.Common.{◌≡◌, ◌<◌, ◌+◌, ◌∙◌, true, ◌==◌, suc, refl, sym, arith, add-one, length}
use Rattle.std.proofs.lemmas.Bool.{eq-eqb}
use Rattle.type_definitions.specs.Parts.{leads}
use Rattle.type_definitions.specs.Lemmas.Walks.{or_left, or_right}
use Rattle.type_classes.proofs.Firsts.{there}
use Rattle.type_classes.proofs.Walks.{before_walk, around}
use Rattle.type_classes.proofs.endless.leads_around.Goals as goal

pub loop-steps-init : goal.loop-steps-init
loop-steps-init c = or_left (c.args.t == c.args.t) (leads c.args.all.now 0 c.args.t c.args.t) (eq-eqb c.args.t c.args.t refl)

pub loop-steps-preserved : goal.loop-steps-preserved
loop-steps-preserved c =
    let g = c.args.all.now in
    let x = c.loop-steps.x in
    let l : x < length g = omega arith in
    let e : leads g (suc c.loop-steps.steps) c.args.t x ≡ true = before_walk g c.loop-steps.steps c.args.t c.loop-steps.next x c.index-all-x.result c.loop-steps.invariant (there g x c.index-all-x.result l c.index-all-x.is) (sym c.has_part.ensures ∙ c.if-not-has_part.false) in
    or_right (x == c.args.t) (leads g (c.loop-steps.steps + 1) c.args.t x) (rw (add-one c.loop-steps.steps) e)

pub returns-then-x-t : goal.returns-then-x-t
returns-then-x-t c = λ _.
    let g = c.args.all.now in
    let x = c.loop-steps.x in
    let l : x < length g = omega arith in
    around g (suc c.loop-steps.steps) c.args.t x c.if-x-t.true (before_walk g c.loop-steps.steps c.args.t c.loop-steps.next x c.index-all-x.result c.loop-steps.invariant (there g x c.index-all-x.result l c.index-all-x.is) (sym c.has_part.ensures ∙ c.if-not-has_part.false))
