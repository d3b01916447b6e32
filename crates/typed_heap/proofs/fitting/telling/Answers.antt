use Rattle.std.proofs.Common.{◌≤◌, ◌+◌, length, inr, arith}
use Rattle.std.specs.Prelude.{min}
use Rattle.typed_heap.proofs.Repeating.{whole_looks}
use Rattle.typed_heap.proofs.fitting.telling.Goals as goal

pub returns-then-rhythm-run-eq0-clause-long : goal.returns-then-rhythm-run-eq0-clause-long
returns-then-rhythm-run-eq0-clause-long c =
    let own : min (length c.args.found.now) (c.args.rhythm.fixed + c.args.rhythm.run) ≤ c.min-own.result = omega arith in
    (whole_looks c.args.found.now (length c.args.run.now) c.args.rhythm.fixed c.args.rhythm.run c.min-own.result c.requires.repeats c.requires.long (omega arith) own).long

pub returns-then-rhythm-run-eq0-clause-enough : goal.returns-then-rhythm-run-eq0-clause-enough
returns-then-rhythm-run-eq0-clause-enough c =
    let own : min (length c.args.found.now) (c.args.rhythm.fixed + c.args.rhythm.run) ≤ c.min-own.result = omega arith in
    (whole_looks c.args.found.now (length c.args.run.now) c.args.rhythm.fixed c.args.rhythm.run c.min-own.result c.requires.repeats c.requires.long (omega arith) own).enough

pub returns-else-rhythm-run-eq0-clause-enough : goal.returns-else-rhythm-run-eq0-clause-enough
returns-else-rhythm-run-eq0-clause-enough c = record { own = omega arith; whole = inr (omega arith) }
