use Rattle.std.proofs.Common.{◌≡◌, ◌^◌, sym, refl, arith}
use Rattle.std.proofs.lemmas.Bool.{lt-ltb}
use Rattle.mu_values.specs.Lemmas.Signed.{pow_up}
use Rattle.mu_values.proofs.constants.is_below.Goals as goal

pub returns-then-n-ge128 : goal.returns-then-n-ge128
returns-then-n-ge128 c =
    let all : 2 ^ 128 ≡ 340282366920938463463374607431768211456 = refl in
    let more = pow_up 128 c.args.n c.if-n-ge128.true in
    let fits = c.ranges.magnitude.fits in
    sym (lt-ltb c.args.magnitude (2 ^ c.args.n) (omega (arith, all, more, fits)))
