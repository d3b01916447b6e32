use Rattle.mem_axioms.specs.Lemmas.Growing.{cells-none, sound-none}
use Rattle.mem_axioms.proofs.RowsKept.{rows-none, blanks-none}
use Rattle.mem_axioms.proofs.log_memory.LogMemory.new.Goals as goal

pub invariant_of-result-clause-flags : goal.invariant_of-result-clause-flags
invariant_of-result-clause-flags c = rw (c.new-2.ensures.items, c.new-3.ensures.items) (rows-none c.args.rule)

pub invariant_of-result-clause-cells : goal.invariant_of-result-clause-cells
invariant_of-result-clause-cells c = rw (c.new.ensures.items, c.new-2.ensures.items) (cells-none _)

pub invariant_of-result-clause-sound : goal.invariant_of-result-clause-sound
invariant_of-result-clause-sound c = rw (c.new.ensures.items, c.new-2.ensures.items) (sound-none c.args.rule _)

pub invariant_of-result-clause-blanks_fit : goal.invariant_of-result-clause-blanks_fit
invariant_of-result-clause-blanks_fit c = rw (c.new-4.ensures.items) (blanks-none _)
