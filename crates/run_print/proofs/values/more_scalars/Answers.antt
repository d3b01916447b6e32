use Rattle.std.proofs.Common.{arith}
use Rattle.std.proofs.lemmas.Grind.{common_steps}
use Rattle.run_texts.specs.EventTexts.{scalar_text}
use Rattle.run_print.proofs.Spaces.{spaced_is, prefix_behind, on_err}
use Rattle.run_print.proofs.values.more_scalars.Goals as goal

pub returns-in_err-spaced_scalar-clause-begins : goal.returns-in_err-spaced_scalar-clause-begins
returns-in_err-spaced_scalar-clause-begins c =
    on_err c.from_residual.result (prefix_behind _ _ _ _ c.loop-scalar.invariant c.in_err-spaced_scalar.ensures.begins)

pub returns-clause-appended : goal.returns-clause-appended
returns-clause-appended c = rw (spaced_is (scalar_text c.args.code.now)) (grind (arith, common_steps))
