use Rattle.std.proofs.Common.{◌∷◌, []}
use Rattle.frames.specs.Chains.{chain_of}
use Rattle.frames.specs.FrameOf.{frame_of}
use Rattle.mu_model.specs.Waiting.{was_woken}
use Rattle.run_state.specs.ActLaws.{goes_on_there}
use Rattle.wake_acts.proofs.WakeViews.{woken_goes_on}
use Rattle.wake_acts.proofs.wakes.next_of.Goals as goal

pub next_place-requires : goal.next_place-requires
next_place-requires c =
    λ fresh.
    goes_on_there c.args.code.now (frame_of c.top-top.result.now) ((was_woken ∷ []) ∷ []) fresh
    (woken_goes_on c.args.code.now c.args.seats.now c.args.thread c.args.stack (chain_of c.frames.result.now) (frame_of c.top-top.result.now) c.requires.on c.frames.ensures c.top-top.ensures c.requires.goes)
