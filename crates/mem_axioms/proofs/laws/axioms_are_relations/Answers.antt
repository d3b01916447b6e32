use Rattle.mem_axioms.specs.Lemmas.Relations.{coherent-iff, seq_cst_ordered-iff, meets-iff}
use Rattle.mem_axioms.proofs.laws.axioms_are_relations.Goals as goal

pub returns-clause-coherent : goal.returns-clause-coherent
returns-clause-coherent c = coherent-iff

pub returns-clause-seq_cst_ordered : goal.returns-clause-seq_cst_ordered
returns-clause-seq_cst_ordered c = seq_cst_ordered-iff

pub returns-clause-meets_axioms : goal.returns-clause-meets_axioms
returns-clause-meets_axioms c = meets-iff
