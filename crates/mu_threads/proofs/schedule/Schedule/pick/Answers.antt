use Rattle.std.proofs.Common.{◌≡◌, ℕ, ◌+◌, List, drop, subst, arith}
use Rattle.mu_threads.specs.Picks.{pick}
use Rattle.mu_threads.proofs.Taking.{one_taken}
use Rattle.mu_threads.proofs.schedule.Schedule.pick.Goals as goal

pub returns-then-self-len-clause-left : goal.returns-then-self-len-clause-left
returns-then-self-len-clause-left c =
    let s = c.self.inside in
    subst (λ (ps : List ℕ). drop (s.taken + 1) s.numbers.members ≡ (pick c.args.options ps).1) c.self.view_is
    (one_taken s.numbers.members s.taken c.args.options (omega arith) (omega (arith, c.len.ensures, c.if-self-len.true)))
