use Rattle.std.proofs.Common.{arith}
use Rattle.std.proofs.lemmas.Grind.{common_steps}
use Rattle.run_texts.specs.EventTexts.{thread_text}
use Rattle.run_print.proofs.Spaces.{spaced_is, prefix_behind, on_err}
use Rattle.run_print.proofs.numbers.threads_text.Goals as goal

pub returns-in_err-numbered-clause-begins : goal.returns-in_err-numbered-clause-begins
returns-in_err-numbered-clause-begins c = on_err c.from_residual.result (prefix_behind _ _ _ _ c.loop-thread.invariant c.in_err-numbered.ensures.begins)

pub returns-clause-appended : goal.returns-clause-appended
returns-clause-appended c = rw (spaced_is thread_text) (grind (arith, common_steps))
