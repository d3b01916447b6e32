use Rattle.std.proofs.Common.{◌∙◌, arith}
use Rattle.mem_axioms.proofs.RowLemmas.{all_before}
use Rattle.mem_axioms.proofs.rows.fill_row.Goals as goal

pub returns : goal.returns
returns c = λ i. c.loop-k.invariant.right i ∙ all_before c.args.rule c.args.events.now c.args.next.now i c.loop-k.k (omega arith)
