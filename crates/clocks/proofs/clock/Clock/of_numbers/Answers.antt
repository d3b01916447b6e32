use Rattle.std.proofs.Common.{refl, arith}
use Rattle.clocks.specs.Zeros.{zeros-at}
use Rattle.clocks.proofs.clock.Clock.of_numbers.Goals as goal

pub loop-t-init : goal.loop-t-init
loop-t-init c = record {
  size = refl;
  low = λ u h. absurd (omega arith);
  high = λ u h. zeros-at 64 u;
}
