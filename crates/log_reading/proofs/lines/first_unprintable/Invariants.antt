use Rattle.std.proofs.Common.{◌≡◌, ◌+◌, drop}
use Rattle.log_lines.specs.Texts.{first_unprintable}
use Rattle.log_reading.proofs.lines.first_unprintable.Given as goal

abbrev pub invariant-loop-n : goal.invariant-loop-n
invariant-loop-n l = first_unprintable (l.at + l.n) (drop l.n l.line) ≡ first_unprintable l.at l.line
