use Rattle.std.proofs.Common.{◌∙◌, ap}
use Rattle.frames.specs.Activations.{Activation}
use Rattle.frames.specs.Chains.{chain_of}
use Rattle.run_state.specs.ActViews.{returns_there, returned_so}
use Rattle.thread_acts.proofs.state.State.leave_elsewhere.Goals as goal

pub passing-requires : goal.passing-requires
passing-requires g c = returns_there _ _ _ _ _ c.self.view_is c.requires.there c.frame.ensures

pub returns-clause-made : goal.returns-clause-made
returns-clause-made g c = λ made.
    returned_so _ _ _ _ _ _ _ _ _ _ _ _ _ _ c.self.view_is c.requires.there c.frame.ensures c.in-Ok.ensures c.leave_for.ensures c.end_objects.ensures.objects
    (c.as_slice.ensures ∙ ap (λ (f : Activation). f.objects) c.top.ensures) c.end_objects.ensures.left (ap chain_of c.stand.ensures) c.count.ensures
