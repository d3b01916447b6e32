use Rattle.std.proofs.Common.{ap}
use Rattle.type_definitions.specs.Definition.{arguments}
use Rattle.typed_heap.specs.Lemmas.Found.{target_within}
use Rattle.hail_load.proofs.fitting.refers.Goals as goal

pub class-requires : goal.class-requires
class-requires c = target_within c.classes-classes.result.now.definitions c.classes-classes.ensures.graph c.args.t c.in-FuncRef-Func.s _ c.definition.ensures (ap arguments c.in-FuncRef-Func.is-0)
