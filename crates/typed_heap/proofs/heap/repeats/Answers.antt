use Rattle.std.proofs.Common.{◌<◌, length, sym, arith}
use Rattle.std.proofs.lemmas.Bool.Decides.{nat_tests}
use Rattle.typed_heap.specs.Lemmas.Runs.{times_length, times_none, le_times}
use Rattle.typed_heap.proofs.heap.repeats.Goals as goal

pub overflow_cast-result : goal.overflow_cast-result
overflow_cast-result c =
    let some : 0 < length c.args.run.now = grind (arith, nat_tests) in
    let long = times_length c.args.many c.args.run.now in
    omega (arith, c.requires, long, le_times c.args.many (length c.args.run.now) some)

pub returns-then-is_empty : goal.returns-then-is_empty
returns-then-is_empty c = sym (times_none c.args.many c.args.run.now (grind (arith, nat_tests)))
