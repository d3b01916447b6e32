use Rattle.typed_heap.specs.Lemmas.Landing.{found_fits, references_fit, irefs_fit, cast_same}
use Rattle.typed_heap.proofs.laws.what_is_found_fits.Goals as goal

pub returns-clause-places : goal.returns-clause-places
returns-clause-places c = found_fits

pub returns-clause-references : goal.returns-clause-references
returns-clause-references c = references_fit

pub returns-clause-irefs : goal.returns-clause-irefs
returns-clause-irefs c = irefs_fit

pub returns-clause-same : goal.returns-clause-same
returns-clause-same c = cast_same
