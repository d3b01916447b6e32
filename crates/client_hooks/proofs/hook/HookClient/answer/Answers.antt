use Rattle.client_hooks.specs.Replies.{answer_in}
use Rattle.client_hooks.specs.Laws.{resumed_told}
use Rattle.client_hooks.proofs.hook.HookClient.answer.Goals as goal

pub returns-in-Ok-clause-told : goal.returns-in-Ok-clause-told
returns-in-Ok-clause-told g c = resumed_told _ _ (answer_in c.in-Ok.reply) (g.met.H.Handler.resumes c.args.self.now.handler _ _ _ c.in-Ok.ensures.reply)
