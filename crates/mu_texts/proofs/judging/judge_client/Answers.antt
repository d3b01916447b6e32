use Rattle.std.proofs.Common.{◌∙◌, ap}
use Rattle.mu_model.specs.Clients.{Client}
use Rattle.mu_texts.proofs.judging.judge_client.Goals as goal

pub returns-in-Ok-clause-scripted : goal.returns-in-Ok-clause-scripted
returns-in-Ok-clause-scripted c = record {
  text = c.args.bytes.now;
  accepted = c.in-Ok.ensures.0;
  entries = ap (λ (k : Client). k.entries) c.new.ensures ∙ c.in-Ok.ensures.1;
}
