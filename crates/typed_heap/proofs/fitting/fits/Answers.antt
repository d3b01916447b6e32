use Rattle.std.proofs.Common.{Some, ◌∙◌, ap}
use Rattle.typed_heap.specs.Lemmas.LeafClasses.{element_within}
use Rattle.typed_heap.proofs.fitting.fits.Goals as goal

pub leaves-requires : goal.leaves-requires
leaves-requires c = element_within c.args.classes.now.definitions c.requires.graph c.args.t c.in-Hybrid.fixed c.in-Hybrid.element (c.definition.ensures ∙ ap Some c.in-Hybrid.is)
