use Rattle.std.specs.Prelude.{◌≡◌, List, None, Some, IfOk, IfErr}
use Rattle.std.proofs.Common.{◌∙◌, ap, subst, sym}
use Rattle.std.proofs.lemmas.List.{append-nil}
use Rattle.mu_model.specs.Answers.{answer_of}
use Rattle.mu_model.specs.Clients.{Classed, Client}
use Rattle.client_hooks.specs.Traps.{view_of}
use Rattle.client_hooks.specs.Replies.{answer_in, IsMisuse}
use Rattle.client_hooks.specs.Told.{AnswerIsTold}
use Rattle.client_script.specs.RunClients.{client_in}
use Rattle.client_script.specs.ScriptClients.{client_of, values_named}
use Rattle.client_script.proofs.Passing.{auto_of, chain_replies, chain_misuses}
use Rattle.client_script.proofs.run_client.RunClientClient.answer.Goals as goal

pub returns-in-Stopping-clause-reply : goal.returns-in-Stopping-clause-reply
returns-in-Stopping-clause-reply c =
    subst (λ (k : Client). IfOk c.answer.result (λ r. Some (answer_in r) ≡ answer_of c.args.view.now.tables (view_of c.args.view.now c.args.stack) k)) (ap client_in (sym c.in-Stopping.is) ∙ c.self.view_is) c.answer.ensures.reply

pub returns-in-Stopping-clause-told : goal.returns-in-Stopping-clause-told
returns-in-Stopping-clause-told c =
    subst (λ (k : Client). IfOk c.answer.result (λ r. AnswerIsTold c.args.view.now.tables (view_of c.args.view.now c.args.stack) (values_named k.entries) (answer_in r))) (ap client_in (sym c.in-Stopping.is) ∙ c.self.view_is) c.answer.ensures.told

pub returns-in-Stopping-clause-misuse : goal.returns-in-Stopping-clause-misuse
returns-in-Stopping-clause-misuse c =
    subst (λ (k : Client). IfErr c.answer.result (λ e. IsMisuse e → None ≡ answer_of c.args.view.now.tables (view_of c.args.view.now c.args.stack) k)) (ap client_in (sym c.in-Stopping.is) ∙ c.self.view_is) c.answer.ensures.misuse

pub returns-in-Passing-clause-reply : goal.returns-in-Passing-clause-reply
returns-in-Passing-clause-reply c =
    let view = view_of c.args.view.now c.args.stack in
    subst (λ (k : Client). IfOk c.answer-in-Passing.result (λ r. Some (answer_in r) ≡ answer_of c.args.view.now.tables view k)) (ap client_in (sym c.in-Passing.is) ∙ c.self.view_is)
    (chain_replies c.args.view.now.tables view c.in-Passing.chain.first answer_in c.answer-in-Passing.result c.answer-in-Passing.ensures.reply)

pub returns-in-Passing-clause-told : goal.returns-in-Passing-clause-told
returns-in-Passing-clause-told c =
    subst (λ (vs : List Classed). IfOk c.answer-in-Passing.result (λ r. AnswerIsTold c.args.view.now.tables (view_of c.args.view.now c.args.stack) vs (answer_in r)))
    (append-nil (values_named c.in-Passing.chain.first) ∙ ap (λ (k : Client). values_named k.entries) (ap client_in (sym c.in-Passing.is) ∙ c.self.view_is)) c.answer-in-Passing.ensures.told

pub returns-in-Passing-clause-misuse : goal.returns-in-Passing-clause-misuse
returns-in-Passing-clause-misuse c =
    let view = view_of c.args.view.now c.args.stack in
    subst (λ (k : Client). IfErr c.answer-in-Passing.result (λ e. IsMisuse e → None ≡ answer_of c.args.view.now.tables view k)) (ap client_in (sym c.in-Passing.is) ∙ c.self.view_is)
    (chain_misuses c.args.view.now.tables view c.in-Passing.chain.first c.answer-in-Passing.result c.answer-in-Passing.ensures.misuse)
