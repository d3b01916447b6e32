use Rattle.typed_heap.specs.Objects.{leaf_classes}
use Rattle.typed_heap.specs.Lemmas.Fitted.{definition_grows, scalar_grows, scalars_grow}
use Rattle.typed_heap.proofs.laws.what_fits_stays.Goals as goal

pub returns-clause-definition : goal.returns-clause-definition
returns-clause-definition c = definition_grows

pub returns-clause-scalar : goal.returns-clause-scalar
returns-clause-scalar c = scalar_grows

pub returns-clause-scalars : goal.returns-clause-scalars
returns-clause-scalars c = scalars_grow

pub returns-clause-value : goal.returns-clause-value
returns-clause-value c = λ g w v k ss. scalars_grow g w v (leaf_classes g k) ss
