use Rattle.std.proofs.Common.{◌∙◌, sym}
use Rattle.mu_values.specs.Integers.{shift}
use Rattle.mu_values.specs.Lemmas.Signed.{shifted_high, is_high}
use Rattle.mu_values.proofs.integers.shift_signed.Goals as goal

pub returns-then-is_negative : goal.returns-then-is_negative
returns-then-is_negative c =
    let high = is_high c.args.width c.args.a (sym c.is_negative.ensures ∙ c.if-is_negative.true) in
    rw (c.shift_right.ensures, c.ones.ensures, c.ones-then-is_negative.ensures) (sym (shifted_high c.args.width c.args.a (shift c.args.width c.args.b) high c.requires.a.2))
