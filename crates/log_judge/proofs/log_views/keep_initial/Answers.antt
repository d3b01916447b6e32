use Rattle.log_judge.proofs.Listed.{initials-access}
use Rattle.log_judge.proofs.log_views.keep_initial.Goals as goal

pub returns-in_ok-insert-clause-holds : goal.returns-in_ok-insert-clause-holds
returns-in_ok-insert-clause-holds c log h =
    initials-access log c.args.event.now c.in-Access.mode c.in-Access.cell c.in-Access.order c.in-Access.position c.in-Access.value c.args.initials.now c.insert.new.self c.in-Access.is c.if-position-eq0.true c.key_of.ensures.small
    (rw c.key_of.ensures.key at c.in_ok-insert.ensures.updates).0 h
