use Rattle.std.proofs.Common.{◌∙◌, sym, ap, arith, cond, length}
use Rattle.std.specs.Prelude.{nat_lt}
use Rattle.type_classes.proofs.Keys.{keyed_keeps}
use Rattle.type_classes.proofs.blocks.first_blocks.Goals as goal

pub returns-clause-keeps : goal.returns-clause-keeps
returns-clause-keeps c = λ a b la lb h.
    let past = c.loop-x-test.false in
    let e = keyed_keeps c.args.definitions.now c.requires c.in_ok-raw.raw.items c.in_ok-raw.ensures.keyed a b la lb h in
    let x = c.loop-x.invariant.low a (omega (arith, la, past)) in
    let y = c.loop-x.invariant.low b (omega (arith, lb, past)) in
    x ∙ ap (λ w. cond (nat_lt w (length c.args.definitions.now)) w 0) e ∙ sym y
