use Rattle.std.proofs.Common.{◌∙◌}
use Rattle.seats.proofs.Changing.{many_stacks}
use Rattle.seats.proofs.seats.Seats.count.Goals as goal

pub returns : goal.returns
returns c =
    let k = c.self.inside in
    c.count.ensures ∙ many_stacks k.threads.stacks k.owns.items k.stacks k.waiters.waiters c.args.self.now c.self.view_is
