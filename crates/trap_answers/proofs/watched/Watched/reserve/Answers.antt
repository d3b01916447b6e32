use Rattle.std.proofs.Common.{◌<◌, length, arith, ◌∙◌}
use Rattle.trap_answers.proofs.Changes.{known_also}
use Rattle.trap_answers.proofs.watched.Watched.reserve.Goals as goal

pub loop-change-preserved : goal.loop-change-preserved
loop-change-preserved c =
    let low : c.loop-change.change-index < length c.as_slice-change-items.result.now = omega arith in
    record {
      enabled = c.know.ensures.enabled ∙ c.loop-change.invariant.enabled;
      known = known_also c.loop-change.self.known c.know.new.self.known c.as_slice-change-items.result.now c.loop-change.change-index _ low c.know.ensures.more c.loop-change.invariant.known c.in_ok-know.ensures.known;
    }
