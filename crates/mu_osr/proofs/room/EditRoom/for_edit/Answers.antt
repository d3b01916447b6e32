use Rattle.std.proofs.Common.{◌≡◌, ◌≤◌, ◌<◌, ◌+◌, ℕ, arith, sym, ◌∙◌, ap, subst}
use Rattle.frames.specs.Chains.{frames_in}
use Rattle.frames.specs.Activations.{Activation}
use Rattle.mu_osr.specs.Kept.{HasPopRoom, Needed}
use Rattle.mu_osr.proofs.Popping.{pop_room_of}
use Rattle.mu_osr.proofs.room.EditRoom.for_edit.Goals as goal

pub invariant_of-result : goal.invariant_of-result
invariant_of-result c =
    let same : frames_in c.frames.result.now ≡ frames_in c.of-frames.result.value = sym (ap frames_in (c.of-frames.ensures ∙ c.frames-2.ensures) ∙ c.in_ok-reserve.ensures.frames ∙ ap frames_in (sym c.frames.ensures)) in
    let needed : Needed (frames_in c.of-frames.result.value) (c.args.pops + 1) c.in_ok-needs.needs.cells c.in_ok-needs.needs.waits = subst (λ fs. Needed fs (c.args.pops + 1) c.in_ok-needs.needs.cells c.in_ok-needs.needs.waits) same c.in_ok-needs.ensures in (
      omega (arith, c.ranges.pops.fits),
      (λ e. (pop_room_of (frames_in c.of-frames.result.value) c.args.pops c.in_ok-cells.cells.spare c.in_ok-waits.waits.spare c.in_ok-needs.needs.cells c.in_ok-needs.needs.waits needed c.in_ok-cells.ensures.room (omega (arith, c.in_ok-waits.ensures.room, c.larger.ensures.first)), omega (arith, c.in_ok-waits.ensures.room, c.larger.ensures.second), c.in_ok-waits.ensures.none, c.in_ok-cells.ensures.none)),
      (λ e. (c.in_ok-takes.ensures.room, c.in_ok-also.ensures.room, c.in_ok-takes.ensures.none, c.in_ok-also.ensures.none)),
    )
