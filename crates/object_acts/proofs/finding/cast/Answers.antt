use Rattle.std.proofs.Common.{ap}
use Rattle.type_definitions.specs.Definition.{arguments}
use Rattle.typed_heap.specs.Lemmas.Found.{target_within}
use Rattle.object_acts.proofs.finding.cast.Goals as goal

pub class-requires : goal.class-requires
class-requires c = target_within _ c.classes-classes.ensures.graph c.args.class c.in-Func-FuncRef.signature _ c.definition.ensures (ap arguments c.in-Func-FuncRef.is-1)
