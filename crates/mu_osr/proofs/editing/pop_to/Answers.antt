use Rattle.std.proofs.Common.{◌≡◌, ◌≤◌, ◌<◌, ◌+◌, ℕ, false, List, Some, arith, sym, ◌∙◌, ap, subst, length, take, drop, slice_get}
use Rattle.frames.specs.Activations.{Activation}
use Rattle.frames.specs.Chains.{StoredChain, frames_in}
use Rattle.stacks.specs.Stacks.{Opened}
use Rattle.frames.specs.FrameOf.{frame_of}
use Rattle.mu_osr.specs.Kept.{HasPopRoom}
use Rattle.mu_osr.specs.Rooms.{objects_of}
use Rattle.mu_osr.proofs.Popping.{objects_within, waits_within, top_is}
use Rattle.mu_osr.proofs.editing.pop_to.Goals as goal

pub pop-requires-clause-room : goal.pop-requires-clause-room
pop-requires-clause-room c =
    let unused : c.room.inside.popped ≡ false = ap (λ r. r.popped) c.room.view_is ∙ c.requires.unused in
    let made : frames_in c.room.inside.frames.value ≡ frames_in c.args.stack.frames = ap (λ r. r.frames) c.room.view_is ∙ c.requires.made in
    let same : frames_in c.frames_mut.result.now ≡ frames_in c.args.stack.frames = ap frames_in (c.frames_mut.ensures.is ∙ ap (λ (o : Opened). o.frames) c.begin_edit-open.ensures) in
    let pops : c.room.inside.pops ≡ c.args.room.now.pops = ap (λ r. r.pops) c.room.view_is in
    let within : c.args.n < length (frames_in c.args.stack.frames) = omega (arith, c.if-n-frames.false, c.count-frames.ensures, ap (λ (f : _). length (frames_in f)) c.frames.ensures) in
    let few : c.args.n ≤ c.room.inside.pops = omega (arith, c.requires.deep within, pops) in
    let has : HasPopRoom (frames_in c.args.stack.frames) c.room.inside.pops c.room.inside.cells.spare c.room.inside.waits.spare = subst (λ fs. HasPopRoom fs c.room.inside.pops c.room.inside.cells.spare c.room.inside.waits.spare) made ((c.room.invariant.1 unused).0) in
    let less = objects_within (frames_in c.args.stack.frames) c.args.n c.room.inside.pops few in
    omega (arith, less, has.objects, ap (λ fs. length (objects_of (take c.args.n fs))) same)

pub append-requires : goal.append-requires
append-requires c =
    let unused : c.room.inside.popped ≡ false = ap (λ r. r.popped) c.room.view_is ∙ c.requires.unused in
    let made : frames_in c.room.inside.frames.value ≡ frames_in c.args.stack.frames = ap (λ r. r.frames) c.room.view_is ∙ c.requires.made in
    let same : frames_in c.frames_mut.result.now ≡ frames_in c.args.stack.frames = ap frames_in (c.frames_mut.ensures.is ∙ ap (λ (o : Opened). o.frames) c.begin_edit-open.ensures) in
    let pops : c.room.inside.pops ≡ c.args.room.now.pops = ap (λ r. r.pops) c.room.view_is in
    let within : c.args.n < length (frames_in c.args.stack.frames) = omega (arith, c.if-n-frames.false, c.count-frames.ensures, ap (λ (f : _). length (frames_in f)) c.frames.ensures) in
    let few : c.args.n ≤ c.room.inside.pops = omega (arith, c.requires.deep within, pops) in
    let has : HasPopRoom (frames_in c.args.stack.frames) c.room.inside.pops c.room.inside.cells.spare c.room.inside.waits.spare = subst (λ fs. HasPopRoom fs c.room.inside.pops c.room.inside.cells.spare c.room.inside.waits.spare) made ((c.room.invariant.1 unused).0) in
    let there : slice_get (frames_in c.args.stack.frames) c.args.n ≡ Some c.pop.new.frames.top = top_is (frames_in c.args.stack.frames) c.args.n c.pop.new.frames (c.pop.ensures.frames ∙ ap (drop c.args.n) same) in
    let room = waits_within (frames_in c.args.stack.frames) c.args.n c.room.inside.pops c.room.inside.waits.spare c.pop.new.frames.top has.classes few there in
    let top : frame_of c.top.result.now ≡ c.pop.new.frames.top = c.top.ensures ∙ ap (λ (x : StoredChain). x.top) c.frames_mut-2.ensures.is in
    omega (arith, room, ap (λ (f : Activation). length f.waits) top, ap length c.as_slice.ensures)
