use Rattle.std.proofs.Common.{◌≡◌, ◌^◌, ◌-◌, sym, true, not}
use Rattle.std.specs.Prelude.{nat_lt}
use mathlib.Core.Bool.{beq}
use Rattle.mu_values.specs.Lemmas.Signed.{quotient_alike}
use Rattle.mu_values.proofs.integers.signed_quotient.Goals as goal

pub returns-then-is_negative : goal.returns-then-is_negative
returns-then-is_negative c =
    let w = c.args.width in
    let alike : beq (not (nat_lt c.args.a (2 ^ (w - 1)))) (not (nat_lt c.args.b (2 ^ (w - 1)))) ≡ true = rw (c.is_negative.ensures, c.is_negative-2.ensures) at c.if-is_negative.true in
    rw (c.magnitude.ensures, c.magnitude-2.ensures) (sym (quotient_alike w c.args.a c.args.b c.requires.a.2 c.requires.b.2 alike))
