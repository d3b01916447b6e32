use Rattle.std.proofs.Common.{◌≡◌, vec_len}
use Rattle.type_classes.specs.Names.{FirstsSoFar}
use Rattle.type_classes.proofs.Names.{NamedSoFar}
use Rattle.type_classes.proofs.naming.name_by_least.Given as goal

abbrev pub invariant-loop-x : goal.invariant-loop-x
invariant-loop-x l = record {
  len : vec_len l.all ≡ l.x;
  firsts : FirstsSoFar l.block l.first.items l.x;
  named : NamedSoFar l.block l.all.items l.x;
}
