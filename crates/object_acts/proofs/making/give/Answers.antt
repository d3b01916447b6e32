use Rattle.std.proofs.Common.{IsSome, ◌∷◌, [], subst, sym}
use Rattle.frames.specs.FrameOf.{frame_of}
use Rattle.run_state.specs.Acting.{goes_on}
use Rattle.object_acts.specs.Making.{result_made}
use Rattle.run_state.specs.ActLaws.{goes_on_there}
use Rattle.object_acts.specs.ObjectLaws.{frame_there}
use Rattle.object_acts.proofs.making.give.Goals as goal

pub next_place-requires : goal.next_place-requires
next_place-requires g c =
    let there = frame_there _ _ c.args.newest.making c.args.newest.number _ c.requires.there in
    λ fresh. goes_on_there _ (frame_of c.top.result.now) ((result_made c.args.newest.making c.args.newest.number ∷ []) ∷ []) fresh (subst (λ f. IsSome (goes_on c.args.code.now f ((result_made c.args.newest.making c.args.newest.number ∷ []) ∷ []))) (sym c.top.ensures) there)
