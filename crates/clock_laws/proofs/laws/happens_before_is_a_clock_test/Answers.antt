use Rattle.clock_laws.specs.Lemmas.Tests.{before-test, next-test, known-test}
use Rattle.clock_laws.proofs.laws.happens_before_is_a_clock_test.Goals as goal

pub returns-clause-event : goal.returns-clause-event
returns-clause-event c = λ right rule log form. before-test rule right log form

pub returns-clause-next : goal.returns-clause-next
returns-clause-next c = λ right rule log form. next-test rule right log form

pub returns-clause-known : goal.returns-clause-known
returns-clause-known c = λ right rule log form. known-test rule right log form
