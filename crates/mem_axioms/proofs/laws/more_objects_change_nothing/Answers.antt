use Rattle.std.proofs.Common.{sym}
use Rattle.mem_axioms.specs.Lemmas.Growing.{cells-more}
use Rattle.mem_axioms.specs.Lemmas.Widening.{cell-wider, initial-wider, option-wider, fits-wider, sound-wider}
use Rattle.mem_axioms.proofs.laws.more_objects_change_nothing.Goals as goal

pub returns-clause-cells : goal.returns-clause-cells
returns-clause-cells c = λ rule objects log e h f. cells-more rule objects log e f h

pub returns-clause-initials : goal.returns-clause-initials
returns-clause-initials c = λ objects more cell h. (cell-wider objects more cell h, sym (initial-wider objects more cell h))

pub returns-clause-options : goal.returns-clause-options
returns-clause-options c = λ rule objects more log cells. option-wider objects more rule log cells

pub returns-clause-fitting : goal.returns-clause-fitting
returns-clause-fitting c = λ rule objects more log e cells. fits-wider objects more rule log cells e

pub returns-clause-sound : goal.returns-clause-sound
returns-clause-sound c = λ rule objects more log. sound-wider objects more rule log
