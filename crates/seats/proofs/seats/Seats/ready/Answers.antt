use Rattle.std.proofs.Common.{ℕ, ◌<◌, subst, sym}
use Rattle.seats.proofs.Changing.{many_stacks, ready_told, waits_told, none_told}
use Rattle.seats.proofs.seats.Seats.ready.Goals as goal

pub ready-requires : goal.ready-requires
ready-requires c =
    let k = c.self.inside in
    subst (λ (n : ℕ). c.args.id < n) (sym (many_stacks k.threads.stacks k.owns.items k.stacks k.waiters.waiters c.args.self.now c.self.view_is)) c.requires

pub returns-clause-some : goal.returns-clause-some
returns-clause-some c =
    let k = c.self.inside in
    ready_told k.threads.stacks k.owns.items k.stacks k.waiters.waiters c.args.self.now c.args.id c.ready.result c.self.view_is c.ready.ensures.some

pub returns-clause-waits : goal.returns-clause-waits
returns-clause-waits c =
    let k = c.self.inside in
    waits_told k.stacks k.threads.stacks c.args.id c.ready.result c.self.invariant.agree c.ready.ensures.some

pub returns-clause-none : goal.returns-clause-none
returns-clause-none c =
    let k = c.self.inside in
    none_told k.threads.stacks k.owns.items k.stacks k.waiters.waiters c.args.self.now c.args.id c.ready.result c.self.view_is c.ready.ensures.none
