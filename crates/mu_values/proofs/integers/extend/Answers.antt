use Rattle.std.proofs.Common.{◌∙◌, sym, arith}
use Rattle.mu_values.specs.Lemmas.Signed.{pow_up, is_high, is_low, extended_high, extended_low}
use Rattle.mu_values.proofs.integers.extend.Goals as goal

pub overflow_sub-result-then-is_negative : goal.overflow_sub-result-then-is_negative
overflow_sub-result-then-is_negative c =
    let more = pow_up c.args.from c.args.to c.requires.to in
    rw (c.ones.ensures, c.ones-then-is_negative.ensures) (omega (arith, more))

pub returns-then-is_negative : goal.returns-then-is_negative
returns-then-is_negative c =
    let high = is_high c.args.from c.args.bits (sym c.is_negative.ensures ∙ c.if-is_negative.true) in
    rw (c.ones.ensures, c.ones-then-is_negative.ensures) (sym (extended_high c.args.from c.args.to c.args.bits high c.requires.bits.2 c.requires.to))

pub returns-else-is_negative : goal.returns-else-is_negative
returns-else-is_negative c =
    let low = is_low c.args.from c.args.bits (sym c.is_negative.ensures ∙ c.if-is_negative.false) in
    sym (extended_low c.args.from c.args.to c.args.bits low c.requires.bits.2 c.requires.to)
