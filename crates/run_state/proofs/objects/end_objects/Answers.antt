use Rattle.std.proofs.Common.{◌∙◌, arith}
use Rattle.run_state.specs.Lists.{end_next}
use Rattle.run_state.specs.Remembering.{ends_same}
use Rattle.run_state.proofs.objects.end_objects.Goals as goal

pub loop-object-preserved : goal.loop-object-preserved
loop-object-preserved c = record {
  ended = end_next c.args.objects.now c.loop-object.object-index _ _ _ _ (omega arith) c.loop-object.invariant.ended c.end_object.ensures.objects;
  same = c.end_object.ensures.left ∙ c.loop-object.invariant.same;
}

pub returns-clause-initials : goal.returns-clause-initials
returns-clause-initials c = ends_same _ _ _ c.loop-object.invariant.ended
