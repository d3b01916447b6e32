use Rattle.std.proofs.Common.{◌≡◌, vec_len}
use Rattle.type_classes.specs.Listings.{IsIdentity}
use Rattle.type_classes.proofs.blocks.identity.Given as goal

abbrev pub invariant-loop-i : goal.invariant-loop-i
invariant-loop-i l = record {
  len : vec_len l.all ≡ l.i;
  each : IsIdentity l.all.items l.i;
}
