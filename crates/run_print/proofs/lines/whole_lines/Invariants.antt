use Rattle.std.proofs.Common.{◌≡◌, ◌++◌, take}
use Rattle.run_texts.specs.Pieces.{lines_text}
use Rattle.run_print.proofs.lines.whole_lines.Given as goal

abbrev pub invariant-loop-line : goal.invariant-loop-line
invariant-loop-line l = l.out.items ≡ l.initial.out.items ++ lines_text l.code (take l.line-index l.lines)
