use Rattle.std.proofs.Common.{◌≡◌, length, arith}
use Rattle.log_judge.proofs.Listed.{thread-more}
use Rattle.log_judge.proofs.log_views.list_threads.Goals as goal

pub loop-threads-preserved : goal.loop-threads-preserved
loop-threads-preserved c log h =
    let l = c.loop-threads-test.true in
    let t = c.requires in
    let n : c.len-in-loop-threads.result ≡ length c.loop-threads.threads.items = omega arith in
    rw (c.in_ok-push.ensures.items, n) (thread-more c.loop-threads.threads.items log c.args.thread (omega (arith, l)) t (c.loop-threads.invariant log h))

pub returns-in_err-push-clause-holds : goal.returns-in_err-push-clause-holds
returns-in_err-push-clause-holds c log h = rw c.in_err-push.ensures.items (c.loop-threads.invariant log h)
