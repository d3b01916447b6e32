use Rattle.std.specs.Prelude.{Some, None, option_map}
use Rattle.std.proofs.Common.{ap, sym, ◌∙◌}
use Rattle.checked_code.specs.Checking.{bundle_tables}
use Rattle.mu_model.specs.Types.{classes_taken}
use Rattle.mu_osr.specs.Pushing.{before_parameters}
use Rattle.stack_moves.proofs.EditedViews.{first_is}
use Rattle.stack_moves.proofs.edited.fresh_frame.Goals as goal

pub returns-in-Some : goal.returns-in-Some
returns-in-Some c =
    ap (λ ts. Some (before_parameters c.in-Some.block ts)) c.parameters_of.ensures
    ∙ ap (option_map (λ b. before_parameters b (classes_taken (bundle_tables c.args.code.now) c.args.function))) (sym (first_is c.args.code.now c.args.function c.function.result.now (Some c.in-Some.block) c.function.ensures c.in-Some.is))

pub returns-in-None : goal.returns-in-None
returns-in-None c =
    ap (option_map (λ b. before_parameters b (classes_taken (bundle_tables c.args.code.now) c.args.function))) (sym (first_is c.args.code.now c.args.function c.function.result.now None c.function.ensures c.in-None.is))
