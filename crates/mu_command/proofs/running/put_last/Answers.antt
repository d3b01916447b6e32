use Rattle.std.proofs.Common.{◌≡◌, ◌∙◌}
use Rattle.run_texts.specs.Texts.{ending_status}
use Rattle.mu_command.specs.Steps.{last_piece}
use Rattle.mu_command.proofs.Puts.{no_memory}
use Rattle.mu_command.proofs.InSteps.{last_put, last_stops}
use Rattle.mu_command.proofs.running.put_last.Goals as goal

pub returns-in-Ok-put-clause-writes : goal.returns-in-Ok-put-clause-writes
returns-in-Ok-put-clause-writes g c =
    let same : c.deref.result.now ≡ last_piece c.args.code.now c.args.lines.now c.args.ending.now = c.deref.ensures.value ∙ c.in-Ok.ensures in
    last_put (last_piece c.args.code.now c.args.lines.now c.args.ending.now) c.ending_status.result (ending_status c.args.ending.now) _ _ _ _ c.ending_status.ensures
    (rw same at c.in-Ok-put.ensures.whole)

pub returns-in-Err-put-clause-writes : goal.returns-in-Err-put-clause-writes
returns-in-Err-put-clause-writes g c =
    let same : c.deref.result.now ≡ last_piece c.args.code.now c.args.lines.now c.args.ending.now = c.deref.ensures.value ∙ c.in-Ok.ensures in
    last_stops (last_piece c.args.code.now c.args.lines.now c.args.ending.now) c.in-Err-put.status (ending_status c.args.ending.now) _ _ _ _ c.in-Err-put.ensures.status
    (rw same at c.in-Err-put.ensures.part)

pub returns-in-Err-clause-writes : goal.returns-in-Err-clause-writes
returns-in-Err-clause-writes g c = no_memory _ _ _
