use Rattle.std.proofs.Common.{◌≡◌, ◌∙◌, arith}
use Rattle.std.proofs.lemmas.Grind.{common_steps}
use Rattle.run_texts.specs.Pieces.{lines_text}
use Rattle.mu_command.proofs.Puts.{no_memory}
use Rattle.mu_command.proofs.InSteps.{lines_put, lines_stop}
use Rattle.mu_command.proofs.running.put_lines.Goals as goal

pub returns-in-Ok-put-clause-goes : goal.returns-in-Ok-put-clause-goes
returns-in-Ok-put-clause-goes g c =
    let same : c.deref.result.now ≡ lines_text c.args.code.now c.args.lines.now = c.deref.ensures.value ∙ (rw c.clear.ensures.items at c.in-Ok.ensures.appended) in
    lines_put c.args.code.now c.args.lines.now _ _ _ _ (λ none. grind (arith, common_steps)) (rw same at c.in-Ok-put.ensures.whole)

pub returns-in-Err-put-clause-over : goal.returns-in-Err-put-clause-over
returns-in-Err-put-clause-over g c = λ answer.
    let same : c.deref.result.now ≡ lines_text c.args.code.now c.args.lines.now = c.deref.ensures.value ∙ (rw c.clear.ensures.items at c.in-Ok.ensures.appended) in
    lines_stop c.args.code.now c.args.lines.now answer _ _ _ _ c.in-Err-put.status (λ none. grind (arith, common_steps)) c.in-Err-put.ensures.status (rw same at c.in-Err-put.ensures.part)

pub returns-in-Err-clause-over : goal.returns-in-Err-clause-over
returns-in-Err-clause-over g c = λ answer. no_memory _ _ _
