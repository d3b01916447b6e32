use Rattle.std.proofs.Common.{◌≡◌, drop, length}
use Rattle.bundle_join.specs.Alike.{same_names}
use Rattle.bundle_join.proofs.alike.same_names.Given as goal

abbrev pub invariant-loop-i : goal.invariant-loop-i
invariant-loop-i l = same_names (drop l.i l.a) (drop l.i l.b) ≡ same_names l.a l.b
