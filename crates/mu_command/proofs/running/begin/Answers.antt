use Rattle.mu_command.proofs.Beginning.{if_ok, begins_so}
use Rattle.mu_command.proofs.running.begin.Goals as goal

pub returns-clause-first : goal.returns-clause-first
returns-clause-first c =
    if_ok _ _ (λ m h. begins_so c.args.code.now _ c.args.start _ m.configuration c.start.view_is c.new-memory.ensures.rule c.requires.left h) c.new.result c.new.ensures.first
