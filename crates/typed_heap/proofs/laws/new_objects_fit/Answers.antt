use Rattle.typed_heap.specs.Lemmas.Fitted.{object_fits, hybrid_fits}
use Rattle.typed_heap.proofs.laws.new_objects_fit.Goals as goal

pub returns-clause-object : goal.returns-clause-object
returns-clause-object c = object_fits

pub returns-clause-hybrid : goal.returns-clause-hybrid
returns-clause-hybrid c = hybrid_fits
