use Rattle.std.proofs.Common.{◌≡◌, take}
use Rattle.client_script.proofs.mentions.copied.Given as goal

abbrev pub invariant-loop-scalar : goal.invariant-loop-scalar
invariant-loop-scalar l = l.copy ≡ take l.scalar-index l.scalars
