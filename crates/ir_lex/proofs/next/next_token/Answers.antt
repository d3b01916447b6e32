use Rattle.std.proofs.Common.{sym, ◌∙◌}
use Rattle.ir_lex.specs.Lemmas.Nexts.{next_is, fault_is, end_is, next_found, fault_found, end_found, found_some, found_number}
use Rattle.ir_lex.proofs.next.next_token.Goals as goal

pub returns-clause-token : goal.returns-clause-token
returns-clause-token c = λ t. (λ e. next_found c.args.text.now c.args.at t (sym c.scan.ensures.found ∙ e), λ is. c.scan.ensures.found ∙ next_is c.args.text.now c.args.at t is)

pub returns-clause-end : goal.returns-clause-end
returns-clause-end c = (λ e. end_found c.args.text.now c.args.at (sym c.scan.ensures.found ∙ e), λ is. c.scan.ensures.found ∙ end_is c.args.text.now c.args.at is)

pub returns-clause-fault : goal.returns-clause-fault
returns-clause-fault c = λ f. (λ e. fault_found c.args.text.now c.args.at f (sym c.scan.ensures.found ∙ e), λ is. c.scan.ensures.found ∙ fault_is c.args.text.now c.args.at f is)

pub returns-clause-some : goal.returns-clause-some
returns-clause-some c = found_some c.args.text.now c.args.at c.scan.result (sym c.scan.ensures.found)

pub returns-clause-number : goal.returns-clause-number
returns-clause-number c = found_number c.args.text.now c.args.at c.scan.result (sym c.scan.ensures.found)
