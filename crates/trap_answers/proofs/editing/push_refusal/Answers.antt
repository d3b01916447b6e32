use Rattle.frames.specs.FrameOf.{frame_of}
use Rattle.trap_answers.proofs.Edited.{no_body_refused, misfit_refused, fitting_goes}
use Rattle.trap_answers.proofs.editing.push_refusal.Goals as goal

pub returns-then-is_none-clause-refused : goal.returns-then-is_none-clause-refused
returns-then-is_none-clause-refused c = no_body_refused c.args.code.now c.args.function (frame_of c.args.under.now) c.function.result.now c.function.ensures c.is_none.result c.is_none.ensures c.if-is_none.true

pub returns-then-not-has_results-clause-refused : goal.returns-then-not-has_results-clause-refused
returns-then-not-has_results-clause-refused c =
    misfit_refused c.args.code.now c.args.function (frame_of c.args.under.now) c.function.result.now c.function.ensures c.is_none.result c.is_none.ensures c.if-is_none.false (c.has_results.ensures.apart c.if-not-has_results.true)

pub returns-else-not-has_results-clause-goes : goal.returns-else-not-has_results-clause-goes
returns-else-not-has_results-clause-goes c =
    fitting_goes c.args.code.now c.args.function (frame_of c.args.under.now) c.function.result.now c.function.ensures c.is_none.result c.is_none.ensures c.if-is_none.false (c.has_results.ensures.same c.if-not-has_results.false)
