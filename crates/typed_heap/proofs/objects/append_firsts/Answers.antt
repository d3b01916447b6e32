use Rattle.typed_heap.specs.Lemmas.Firsts.{narrow_at}
use Rattle.typed_heap.proofs.objects.append_firsts.Goals as goal

pub first-requires : goal.first-requires
first-requires c = narrow_at c.args.classes.now.definitions c.requires.narrow _ c.definition.result.now c.definition.ensures
