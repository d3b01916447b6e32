use Rattle.std.proofs.Common.{◌∙◌, ap}
use Rattle.run_state.specs.Acting.{entered}
use Rattle.run_state.specs.ActViews.{entered_so}
use Rattle.thread_acts.proofs.state.State.enter_for_values.Goals as goal

pub returns-clause-made : goal.returns-clause-made
returns-clause-made g c = λ made.
    entered_so _ _ _ _ _ _ _ _ c.self.view_is c.in-Ok-enter_above.ensures.top c.in-Ok-enter_above.ensures.below c.in-Ok.ensures (c.entered-frame.ensures ∙ ap (entered c.args.block) c.values_out-values.ensures) c.count.ensures
