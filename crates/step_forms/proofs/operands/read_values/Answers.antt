use Rattle.step_forms.specs.OperandLists.{values_at-take}
use Rattle.step_forms.proofs.operands.read_values.Goals as goal

pub loop-n-preserved : goal.loop-n-preserved
loop-n-preserved c = values_at-take c.args.code.now c.args.vars.now c.args.sources.now c.loop-n.n c.source_at.result c.loop-n.out.values c.push_value.new.out.values c.source_at.ensures c.loop-n.invariant c.in_ok-push_value.ensures.ok
