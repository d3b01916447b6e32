use Rattle.std.proofs.Common.{◌∙◌, ap}
use Rattle.futex.specs.Waiting.{oldest_at, threads_of}
use Rattle.seats.specs.Seats.{Seats}
use Rattle.seats.proofs.seats.Seats.waking.Goals as goal

pub returns : goal.returns
returns c = c.waking.ensures ∙ ap (λ (v : Seats). threads_of (oldest_at c.args.cell c.args.many v.waiters)) c.self.view_is
