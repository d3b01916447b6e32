use Rattle.std.proofs.Common.{◌∙◌}
use Rattle.run_state.specs.Remembering.{one_more_known}
use Rattle.object_acts.proofs.making.remember_all.Goals as goal

pub loop-object-preserved : goal.loop-object-preserved
loop-object-preserved g c = record {
  known = one_more_known _ _ _ _ _ c.loop-object.invariant.known c.in_ok-initial_scalars.ensures c.in_ok-add_object.ensures.added;
  log = c.add_object.ensures.same_log ∙ c.loop-object.invariant.log;
  rule = c.add_object.ensures.same_rule ∙ c.loop-object.invariant.rule;
}
