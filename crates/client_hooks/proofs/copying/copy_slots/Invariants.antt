use Rattle.std.proofs.Common.{◌≡◌, take}
use Rattle.client_hooks.proofs.copying.copy_slots.Given as goal

abbrev pub invariant-loop-n : goal.invariant-loop-n
invariant-loop-n l = l.copy.values ≡ take l.n l.values.values
