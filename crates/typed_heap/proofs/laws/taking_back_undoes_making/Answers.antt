use Rattle.typed_heap.specs.Lemmas.Fitted.{taken_back, newest_counted}
use Rattle.typed_heap.proofs.laws.taking_back_undoes_making.Goals as goal

pub returns-clause-objects : goal.returns-clause-objects
returns-clause-objects c = taken_back

pub returns-clause-cells : goal.returns-clause-cells
returns-clause-cells c = newest_counted
