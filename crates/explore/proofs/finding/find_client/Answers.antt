use Rattle.std.proofs.lemmas.Result.{err_from_is_err_and}
use Rattle.mu_texts.specs.declared.what.What.TheVariants.{Client}
use Rattle.mu_texts.specs.Answer.{client_part}
use Rattle.mu_command.specs.Lemmas.Files.{not_loaded}
use Rattle.explore.proofs.Files.{given_no_more, was_given}
use Rattle.explore.proofs.finding.find_client.Goals as goal

pub returns-in_err-client-clause-given : goal.returns-in_err-client-clause-given
returns-in_err-client-clause-given g c =
    let p = err_from_is_err_and c.from_residual.result c.from_residual.ensures.1 in
    rw (p.1, p.2) (not_loaded _ c.args.words.now Client c.args.run.client (client_part c.args.code.now c.args.run.auto) _ c.in_err-client.ensures.loaded)

pub returns-in_err-judge_client-clause-given : goal.returns-in_err-judge_client-clause-given
returns-in_err-judge_client-clause-given g c =
    let p = err_from_is_err_and c.from_residual-in_err-judge_client.result c.from_residual-in_err-judge_client.ensures.1 in
    rw (p.1, p.2)
    (given_no_more _ c.args.words.now Client c.args.run.client (client_part c.args.code.now c.args.run.auto) c.in_ok-client.client _ c.in_ok-client.ensures.loaded c.deref.ensures.value _ c.in_err-judge_client.ensures.asked)

pub returns-clause-given : goal.returns-clause-given
returns-clause-given g c =
    was_given _ c.args.words.now Client c.args.run.client (client_part c.args.code.now c.args.run.auto) c.in_ok-client.client _ c.in_ok-client.ensures.loaded c.deref.ensures.value _ c.in_ok-judge_client.ensures.asked
