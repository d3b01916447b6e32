use Rattle.std.proofs.Common.{arith, ◌≡◌, ◌<◌, length, sym, subst, Some}
use Rattle.type_definitions.specs.Partition.{arg}
use Rattle.mu_types.specs.Rows.{lists}
use Rattle.type_classes.proofs.RowLemmas.{length-lists, pushed_kept, pushed_there, pushed_only}
use Rattle.type_classes.proofs.gather.gather_edge.Goals as goal

pub returns-clause-kept : goal.returns-clause-kept
returns-clause-kept c =
    let l : c.args.edge.place < length (lists c.args.buckets.now) = omega (arith, length-lists c.args.buckets.now) in
    pushed_kept (lists c.args.buckets.now) (lists c.push_to.new.rows) c.args.edge.place c.args.edge.from c.in_ok-push_to.ensures.added l

pub returns-clause-there : goal.returns-clause-there
returns-clause-there c = λ h. pushed_there (lists c.args.buckets.now) (lists c.push_to.new.rows) c.args.edge.place c.args.edge.from c.in_ok-push_to.ensures.added (subst (λ n. c.args.edge.place < n) (sym (length-lists c.args.buckets.now)) h)

pub returns-clause-sound : goal.returns-clause-sound
returns-clause-sound c =
    let l : c.args.edge.place < length (lists c.args.buckets.now) = omega (arith, length-lists c.args.buckets.now) in
    pushed_only (lists c.args.buckets.now) (lists c.push_to.new.rows) c.args.edge.place c.args.edge.from c.in_ok-push_to.ensures.added l (λ k x. arg c.args.definitions.now x k ≡ Some c.args.y) c.requires
