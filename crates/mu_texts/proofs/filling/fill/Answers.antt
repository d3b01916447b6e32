use Rattle.std.proofs.Common.{◌∙◌}
use Rattle.mu_texts.proofs.Heaps.{is_filled}
use Rattle.mu_texts.proofs.filling.fill.Goals as goal

pub load_hail-requires : goal.load_hail-requires
load_hail-requires c = c.in_ok-heap.ensures.objects ∙ c.scripts_begin_with_globals.ensures c.args.code.now c.items-items.ensures.named c.items-items.ensures.met

pub returns-in-Ok-clause-filled : goal.returns-in-Ok-clause-filled
returns-in-Ok-clause-filled c =
    is_filled c.args.code.now c.args.cells c.args.hail.now (record { objects = _; left = _; spare = 0 }) c.in_ok-heap.ensures.objects c.in_ok-heap.ensures.left _ c.cells_are_counted.ensures c.in-Ok.ensures
