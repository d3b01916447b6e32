use Rattle.std.proofs.Common.{◌∙◌, sym, arith}
use Rattle.mu_types.specs.TypeDemands.{endless_type}
use Rattle.type_classes.proofs.Firsts.{each_some, each_none}
use Rattle.type_classes.proofs.Verdicts.{endless_some}
use Rattle.type_classes.proofs.endless.first_endless.Goals as goal

pub returns-then-branch : goal.returns-then-branch
returns-then-branch c = rw c.place_of-place.ensures (sym (each_some (endless_type c.args.all.now c.args.places.now) c.args.many c.loop-t.t _ c.loop-t.invariant c.loop-t-test.true
    (endless_some c.args.all.now c.args.places.now c.loop-t.t (sym c.in_ok-is_endless.ensures ∙ c.if-branch.true))))

pub returns : goal.returns
returns c = sym (each_none (endless_type c.args.all.now c.args.places.now) c.args.many (λ u l. c.loop-t.invariant u (omega (arith, c.loop-t-test.false))))
