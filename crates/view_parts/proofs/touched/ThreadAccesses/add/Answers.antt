use Rattle.view_parts.specs.declared.families.Family.TheVariants.{Any, Modifications, NotAtomic, NotAtomicModifications, SeqCst}
use Rattle.view_parts.proofs.touched.ThreadAccesses.add.Goals as goal

pub index_if-requires-clause-room : goal.index_if-requires-clause-room
index_if-requires-clause-room c = c.requires.room Any

pub index_if-requires-clause-above : goal.index_if-requires-clause-above
index_if-requires-clause-above c = c.requires.above Any

pub index_if-requires-2-clause-room : goal.index_if-requires-2-clause-room
index_if-requires-2-clause-room c = c.requires.room Modifications

pub index_if-requires-2-clause-above : goal.index_if-requires-2-clause-above
index_if-requires-2-clause-above c = c.requires.above Modifications

pub index_if-requires-3-clause-room : goal.index_if-requires-3-clause-room
index_if-requires-3-clause-room c = c.requires.room NotAtomic

pub index_if-requires-3-clause-above : goal.index_if-requires-3-clause-above
index_if-requires-3-clause-above c = c.requires.above NotAtomic

pub index_if-requires-4-clause-room : goal.index_if-requires-4-clause-room
index_if-requires-4-clause-room c = c.requires.room NotAtomicModifications

pub index_if-requires-4-clause-above : goal.index_if-requires-4-clause-above
index_if-requires-4-clause-above c = c.requires.above NotAtomicModifications

pub index_if-requires-5-clause-room : goal.index_if-requires-5-clause-room
index_if-requires-5-clause-room c = c.requires.room SeqCst

pub index_if-requires-5-clause-above : goal.index_if-requires-5-clause-above
index_if-requires-5-clause-above c = c.requires.above SeqCst
