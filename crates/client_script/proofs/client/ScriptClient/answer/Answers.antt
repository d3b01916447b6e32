use Rattle.std.proofs.Common.{Some, ◌∙◌, ap, sym}
use Rattle.frames.specs.Chains.{frames_in}
use Rattle.mu_model.specs.Answers.{entry_answer}
use Rattle.client_hooks.specs.Traps.{view_of}
use Rattle.client_hooks.specs.Replies.{answer_in}
use Rattle.client_script.specs.Meaning.{entry_meant}
use Rattle.client_script.proofs.Naming.{answers_first, script_told}
use Rattle.client_script.proofs.client.ScriptClient.answer.Goals as goal

pub returns-in-Ok-clause-reply : goal.returns-in-Ok-clause-reply
returns-in-Ok-clause-reply c =
    let e = entry_meant c.in-Some.entry.now in
    answers_first c.args.view.now.tables (view_of c.args.view.now c.args.stack) c.args.self.now e (answer_in c.onto.result) c.in-Some.ensures
    (ap (λ fs. entry_answer c.args.view.now.tables (frames_in fs) e) (sym c.frames.ensures) ∙ c.in-Ok.ensures ∙ ap Some (sym c.onto.ensures.answer))

pub returns-in-Ok-clause-told : goal.returns-in-Ok-clause-told
returns-in-Ok-clause-told c = script_told c.args.view.now.tables (view_of c.args.view.now c.args.stack) c.args.self.now (answer_in c.onto.result) (returns-in-Ok-clause-reply c)
