use Rattle.std.proofs.Common.{length}
use Rattle.typed_heap.specs.Lemmas.Rows.{bounds, end_is}
use Rattle.typed_heap.proofs.objects.bounds.Goals as goal

pub returns-clause-order : goal.returns-clause-order
returns-clause-order c = rw (c.begin_of.ensures, end_is c.args.extents.now c.args.n _ c.requires.n) (bounds 0 c.args.extents.now (length c.args.leaves.now) c.args.n c.requires.rows c.requires.n).0

pub returns-clause-within : goal.returns-clause-within
returns-clause-within c = rw (end_is c.args.extents.now c.args.n _ c.requires.n) (bounds 0 c.args.extents.now (length c.args.leaves.now) c.args.n c.requires.rows c.requires.n).1

pub returns-clause-few : goal.returns-clause-few
returns-clause-few c = rw (c.begin_of.ensures, end_is c.args.extents.now c.args.n _ c.requires.n) (bounds 0 c.args.extents.now (length c.args.leaves.now) c.args.n c.requires.rows c.requires.n).2
