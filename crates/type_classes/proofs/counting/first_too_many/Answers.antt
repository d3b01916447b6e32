use Rattle.std.proofs.Common.{◌∙◌, sym, arith}
use Rattle.mu_types.specs.TypeDemands.{too_many_leaves}
use Rattle.type_classes.proofs.Firsts.{each_some, each_none}
use Rattle.type_classes.proofs.Verdicts.{over_cap, many_some}
use Rattle.type_classes.proofs.counting.first_too_many.Goals as goal

pub returns-then-at-gt-MOST_LEAVES : goal.returns-then-at-gt-MOST_LEAVES
returns-then-at-gt-MOST_LEAVES c = rw c.place_of-place.ensures (sym (each_some (too_many_leaves c.args.all.now c.args.places.now) c.args.many c.loop-t.t _ c.loop-t.invariant c.loop-t-test.true
    (many_some c.args.all.now c.args.places.now c.loop-t.t (over_cap _ c.at.result (c.at.ensures ∙ c.requires.counts c.loop-t.t) c.if-at-gt-MOST_LEAVES.true))))

pub returns : goal.returns
returns c = sym (each_none (too_many_leaves c.args.all.now c.args.places.now) c.args.many (λ u l. c.loop-t.invariant u (omega (arith, c.loop-t-test.false))))
