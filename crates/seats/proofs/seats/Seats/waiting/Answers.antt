use Rattle.std.proofs.Common.{◌∙◌, ap}
use Rattle.std.specs.List.{find}
use Rattle.futex.specs.Waiting.{is_of, cell_of}
use Rattle.seats.specs.Seats.{Seats}
use Rattle.seats.proofs.seats.Seats.waiting.Goals as goal

pub returns : goal.returns
returns c = c.waiting.ensures ∙ ap (λ (v : Seats). cell_of (find (is_of c.args.thread) v.waiters)) c.self.view_is
