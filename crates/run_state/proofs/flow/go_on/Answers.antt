use Rattle.std.proofs.Common.{IsSome, subst, sym}
use Rattle.frames.specs.FrameOf.{frame_of}
use Rattle.run_state.specs.Acting.{goes_on}
use Rattle.run_state.specs.ActLaws.{goes_on_there}
use Rattle.run_state.proofs.flow.go_on.Goals as goal

pub next_place-requires : goal.next_place-requires
next_place-requires c = λ fresh. goes_on_there _ (frame_of c.top.result.now) c.args.results.now.values fresh (subst (λ f. IsSome (goes_on c.args.code.now f c.args.results.now.values)) (sym c.top.ensures) c.requires)
