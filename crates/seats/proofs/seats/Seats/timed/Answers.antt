use Rattle.std.proofs.Common.{◌∙◌, ap}
use Rattle.std.specs.List.{find}
use Rattle.futex.specs.Waiting.{is_of, timed_cell_of}
use Rattle.seats.specs.Seats.{Seats}
use Rattle.seats.proofs.seats.Seats.timed.Goals as goal

pub returns : goal.returns
returns c = c.timed.ensures ∙ ap (λ (v : Seats). timed_cell_of (find (is_of c.args.thread) v.waiters)) c.self.view_is
