use Rattle.std.proofs.Common.{◌≡◌, drop, length}
use Rattle.type_definitions.specs.Definition.{arguments}
use Rattle.type_definitions.specs.Same.{pairs}
use Rattle.type_definitions.specs.Partition.{alike_by}
use Rattle.type_classes.proofs.stable.pairs_agree.Given as goal

abbrev pub invariant-loop-i : goal.invariant-loop-i
invariant-loop-i l = record {
  even : length (arguments l.a) ≡ length (arguments l.b);
  rest : pairs (alike_by l.p) (arguments l.a) (arguments l.b) ≡ pairs (alike_by l.p) (drop l.i (arguments l.a)) (drop l.i (arguments l.b));
}
