use Rattle.typed_heap.specs.Lemmas.Fitted.{filled_fits}
use Rattle.typed_heap.proofs.laws.changed_objects_fit.Goals as goal

pub returns-clause-filled : goal.returns-clause-filled
returns-clause-filled c = λ g w o at ss. filled_fits g w o.leaves o.initial at ss
