use Rattle.run_print.proofs.Spaces.{prefix_behind, on_err}
use Rattle.run_print.proofs.lines.whole_lines.Goals as goal

pub returns-in_err-whole_line-clause-begins : goal.returns-in_err-whole_line-clause-begins
returns-in_err-whole_line-clause-begins c = on_err c.from_residual.result (prefix_behind _ _ _ _ c.loop-line.invariant c.in_err-whole_line.ensures.begins)
