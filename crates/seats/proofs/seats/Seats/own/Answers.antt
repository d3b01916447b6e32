use Rattle.std.proofs.Common.{List, ◌<◌, length, sym, subst, slice_get, ap, ◌∙◌}
use Rattle.mu_values.specs.declared.scalars.Scalar.{Scalar}
use Rattle.seats.proofs.Seen.{seated, own_within, own_seen}
use Rattle.seats.proofs.seats.Seats.own.Goals as goal

pub own_at-requires : goal.own_at-requires
own_at-requires c =
    let k = c.self.inside in
    let h = seated k.threads.stacks k.owns.items k.stacks k.waiters.waiters c.args.self.now c.args.thread c.self.view_is c.requires in
    subst (λ (os : List Scalar). c.args.thread < length os) (sym c.deref.ensures.value) (own_within k.threads.stacks k.owns.items c.args.self.now c.args.thread h)

pub returns : goal.returns
returns c =
    let k = c.self.inside in
    let h = seated k.threads.stacks k.owns.items k.stacks k.waiters.waiters c.args.self.now c.args.thread c.self.view_is c.requires in
    own_seen k.threads.stacks k.owns.items c.args.self.now c.args.thread c.own_at.result h (ap (λ (os : List Scalar). slice_get os c.args.thread) (sym c.deref.ensures.value) ∙ c.own_at.ensures)
