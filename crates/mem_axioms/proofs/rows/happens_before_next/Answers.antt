use Rattle.std.proofs.Common.{sym, length, arith}
use Rattle.mem_axioms.proofs.RowLemmas.{all_before}
use Rattle.mem_axioms.proofs.rows.happens_before_next.Goals as goal

pub loop-k-init : goal.loop-k-init
loop-k-init c = sym (all_before c.args.rule c.args.events.now c.args.next.now c.args.i (length c.args.events.now) (omega arith))
