use Rattle.std.proofs.Common.{◌∙◌, ap}
use Rattle.frames.specs.Chains.{chain_of}
use Rattle.trap_answers.specs.Watching.{Watching}
use Rattle.run_start.specs.Starting.{state_first, start_is}
use Rattle.thread_acts.proofs.state.State.start.Goals as goal

pub returns-clause-first : goal.returns-clause-first
returns-clause-first g c =
    λ cells enough.
    start_is c.args.code.now (chain_of c.in_ok-hand.hand) _ _ _ _ _ c.args.inputs.budget c.args.entry _ cells _ c.first_block-block.ensures
    (state_first _ _ _ _ _ _ _ _ _ _ _ _ _ c.in_ok-first.ensures.top c.in_ok-first.ensures.below c.in_ok-seats.ensures (c.in_ok-remember_all.ensures.log ∙ c.requires.log) (ap (λ (w : Watching). w.enabled) c.new-2.ensures) c.in_ok-remember_all.ensures.rule) enough
