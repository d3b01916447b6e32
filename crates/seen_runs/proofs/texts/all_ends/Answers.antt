use Rattle.std.proofs.Common.{◌≡◌, ◌++◌, ◌∙◌, ap, sym, arith, append-nil}
use Rattle.std.specs.List.{flat_map}
use Rattle.seen_runs.specs.Finals.{end_lines}
use Rattle.seen_runs.proofs.Ends.{ends_so_far, ends_more}
use Rattle.seen_runs.proofs.texts.all_ends.Goals as goal

pub loop-thread-init : goal.loop-thread-init
loop-thread-init c = sym (append-nil c.args.out.now.items)

pub loop-thread-preserved : goal.loop-thread-preserved
loop-thread-preserved c =
    ends_more c.args.code.now c.args.steps.now c.loop-thread.thread c.args.out.now.items c.loop-thread.out.items c.thread_end.new.out.items c.loop-thread.invariant c.in_ok-thread_end.ensures

pub returns : goal.returns
unfolding end_lines
returns c =
    let last : c.loop-thread.thread ≡ 64 = omega arith in
    c.loop-thread.invariant ∙ ap (λ n. c.args.out.now.items ++ ends_so_far c.args.code.now (flat_map (λ ls. ls) c.args.steps.now) n) last
