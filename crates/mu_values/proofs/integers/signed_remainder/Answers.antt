use Rattle.std.proofs.Common.{◌∙◌, sym}
use Rattle.mu_values.specs.Lemmas.Signed.{remainder_positive}
use Rattle.mu_values.proofs.integers.signed_remainder.Goals as goal

pub returns-else-is_negative : goal.returns-else-is_negative
returns-else-is_negative c =
    rw (c.magnitude.ensures, c.magnitude-2.ensures) (sym (remainder_positive c.args.width c.args.a c.args.b c.requires.a.2 (sym c.is_negative.ensures ∙ c.if-is_negative.false)))
