use Rattle.typed_heap.specs.Lemmas.Firsts.{narrow_at}
use Rattle.client_hooks.proofs.view.zeros.Goals as goal

pub zero-requires : goal.zero-requires
zero-requires c = narrow_at c.args.classes.now.definitions c.requires.narrow _ c.definition.result.now c.definition.ensures
