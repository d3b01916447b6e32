use Rattle.std.proofs.Common.{◌∙◌, sym, arith}
use Rattle.type_classes.proofs.Firsts.{there, argument_some, argument_none}
use Rattle.type_classes.proofs.judging.wrong_argument.Goals as goal

pub returns-then-not-is_allowed : goal.returns-then-not-is_allowed
returns-then-not-is_allowed c =
    let d = c.index-all-t.result in
    let k = c.loop-k.k in
    rw c.place_of-place.ensures (sym (argument_some c.args.all.now c.args.places.now c.args.t d k (there c.args.all.now c.args.t d c.requires c.index-all-t.is) c.loop-k.invariant
    (omega (arith, c.loop-k-test.true, c.judged_arguments-k-end.ensures)) (sym c.is_allowed.ensures ∙ c.if-not-is_allowed.true)))

pub returns : goal.returns
returns c =
    let d = c.index-all-t.result in
    let past = c.loop-k-test.false in
    sym (argument_none c.args.all.now c.args.places.now c.args.t d (there c.args.all.now c.args.t d c.requires c.index-all-t.is) (λ u l. c.loop-k.invariant u (omega (arith, l, past, c.judged_arguments-k-end.ensures))))
