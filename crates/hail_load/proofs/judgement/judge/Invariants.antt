use Rattle.std.proofs.Common.{◌≡◌, [], ◌∷◌, length}
use Rattle.std.specs.List.{All}
use Rattle.hail_load.specs.Code.{code_of}
use Rattle.hail_load.specs.Judging.{judged}
use Rattle.hail_load.specs.Answering.{IsThere, behind, store_of}
use Rattle.hail_load.proofs.judgement.judge.Given as goal

abbrev pub invariant-each : goal.invariant-each
invariant-each l = record {
  told : behind l.scalars (judged (code_of l.scene.code.now) (store_of l.scene.heap.now l.scene.made.now) l.parts l.left) ≡ behind l.fn.scalars (judged (code_of l.scene.code.now) (store_of l.scene.heap.now l.scene.made.now) (l.fn.part ∷ []) l.fn.source);
  parts : All (IsThere (code_of l.scene.code.now).graph) l.parts;
}

abbrev pub decreases-each : goal.decreases-each
decreases-each l = length l.left
