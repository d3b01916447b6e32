use Rattle.view_parts.specs.declared.families.Family.TheVariants.{Any, Modifications, NotAtomic, NotAtomicModifications, SeqCst}
use Rattle.view_parts.proofs.touched.ThreadAccesses.new.Goals as goal

pub returns : goal.returns
returns c Any = c.new.ensures
returns c Modifications = c.new-2.ensures
returns c NotAtomic = c.new-3.ensures
returns c NotAtomicModifications = c.new-4.ensures
returns c SeqCst = c.new-5.ensures
