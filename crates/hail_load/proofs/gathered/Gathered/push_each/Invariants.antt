use Rattle.std.proofs.Common.{◌≡◌, ◌++◌, take}
use Rattle.hail_load.proofs.gathered.Gathered.push_each.Given as goal

abbrev pub invariant-loop-scalar : goal.invariant-loop-scalar
invariant-loop-scalar l = l.self ≡ l.fn.self ++ take l.scalar-index l.fn.scalars
