use Rattle.std.proofs.Common.{arith}
use Rattle.log_reading.proofs.Splitting.{split_here, split_end}
use Rattle.log_reading.proofs.parts.len_before.Goals as goal

pub returns-else-bytes-end-clause-parts : goal.returns-else-bytes-end-clause-parts
returns-else-bytes-end-clause-parts c = split_here c.args.separator c.args.bytes.now c.loop-end.end (omega arith) c.loop-end.invariant.1 c.if-bytes-end.false

pub returns-after-loop-end-clause-parts : goal.returns-after-loop-end-clause-parts
returns-after-loop-end-clause-parts c = split_end c.args.separator c.args.bytes.now c.loop-end.end (omega arith) c.loop-end.invariant.1
