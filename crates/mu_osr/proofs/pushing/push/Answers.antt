use Rattle.std.proofs.Common.{◌≡◌, ◌≤◌, ◌<◌, ◌+◌, ◌++◌, ℕ, suc, true, false, List, [], ◌∷◌, Some, arith, sym, ◌∙◌, ap, subst, length, take, refl}
use Rattle.std.specs.Prelude.{IsSomeAnd, slice_get, Option, if◌then◌else◌}
use Rattle.mu_base.specs.Lists.{Roomy}
use Rattle.typed_heap.specs.Places.{with_some}
use Rattle.checked_code.specs.declared.blocks.Function.{Function}
use Rattle.checked_code.specs.Checking.{bundle_tables}
use Rattle.mu_model.specs.Types.{classes_given, classes_taken}
use Rattle.frames.specs.Activations.{Activation}
use Rattle.frames.specs.Chains.{StoredChain, frames_in}
use Rattle.frames.specs.FrameOf.{frame_of}
use Rattle.stacks.specs.Stacks.{Opened, Unbound}
use Rattle.mu_osr.specs.Kept.{HasPopRoom}
use Rattle.mu_osr.specs.Rooms.{objects_of}
use Rattle.mu_osr.specs.Pushing.{before_parameters, first_of}
use Rattle.mu_osr.proofs.Popping.{pop_room_more}
use Rattle.mu_osr.proofs.pushing.push.Goals as goal

on_top : (c : goal.After-drop-room-inside) → frames_in c.close-stack.result.frames ≡ before_parameters c.in-Some.block (classes_taken (bundle_tables c.args.code.now) c.args.function) ∷ frames_in c.args.stack.frames
on_top c =
    let unpushed : c.room.inside.pushed ≡ false = ap (λ r. r.pushed) c.room.view_is ∙ c.requires.unused in
    let empty : c.room.inside.takes.members ≡ [] = (c.room.invariant.2 unpushed).2 in
    let takes : c.replace-takes.result.members ≡ classes_taken (bundle_tables c.args.code.now) c.args.function = ap (λ (r : Roomy ℕ). r.members) c.replace-takes.ensures.value ∙ c.append.ensures.members ∙ ap (λ xs. xs ++ c.parameters_of.result.now) empty ∙ c.parameters_of.ensures in
    let under : frames_in c.frames_mut.result.now ≡ frames_in c.args.stack.frames = ap frames_in (c.frames_mut.ensures.is ∙ ap (λ (o : Opened). o.frames) c.begin_edit-open.ensures) in
    ap (λ (s : Unbound). frames_in s.frames) c.close-stack.ensures ∙ c.put_on.ensures.frames
    ∙ ap (λ f. f ∷ frames_in c.frames_mut.result.now) (c.frame_before.ensures ∙ ap (before_parameters c.in-Some.block) takes) ∙ ap (λ fs. before_parameters c.in-Some.block (classes_taken (bundle_tables c.args.code.now) c.args.function) ∷ fs) under

pub returns-clause-frames : goal.returns-clause-frames
returns-clause-frames c =
    let first : first_of c.args.code.now c.args.function ≡ Some c.in-Some.block = ap (λ o. with_some o (λ (g : Function). g.first)) c.function.ensures ∙ c.in-Some.is in (
      subst (λ o. IsSomeAnd o (λ b. frames_in c.close-stack.result.frames ≡ before_parameters b (classes_taken (bundle_tables c.args.code.now) c.args.function) ∷ frames_in c.args.stack.frames)) (sym first) (on_top c),
      c.has_results.ensures.same c.if-not-has_results.false ∙ c.waits.ensures,
    )

pub invariant_of-room : goal.invariant_of-room
invariant_of-room c =
    let unpushed : c.room.inside.pushed ≡ false = ap (λ r. r.pushed) c.room.view_is ∙ c.requires.unused in
    let made : frames_in c.room.inside.frames.value ≡ frames_in c.args.stack.frames = ap (λ r. r.frames) c.room.view_is ∙ c.requires.made in
    let parameters : c.room.inside.parameters ≡ c.args.room.now.parameters = ap (λ r. r.parameters) c.room.view_is in
    let now : frames_in c.of.result.value ≡ before_parameters c.in-Some.block (classes_taken (bundle_tables c.args.code.now) c.args.function) ∷ frames_in c.room.inside.frames.value =
    ap frames_in (c.of.ensures ∙ c.frames.ensures) ∙ on_top c ∙ ap (λ fs. before_parameters c.in-Some.block (classes_taken (bundle_tables c.args.code.now) c.args.function) ∷ fs) (sym made) in
    let few : c.room.inside.pops ≤ 4294967296 = subst (λ b. c.room.inside.pops ≤ 4294967296 + (if b then 1 else 0)) unpushed c.room.invariant.0 in (
      omega (arith, few),
      λ unpopped.
          let h = c.room.invariant.1 unpopped in
          let fits : length (classes_taken (bundle_tables c.args.code.now) c.args.function) ≤ c.room.inside.waits.spare = omega (arith, c.requires.parameters, parameters, h.1) in (
            subst (λ fs. HasPopRoom fs (c.room.inside.pops + 1) c.room.inside.cells.spare c.room.inside.waits.spare) (sym now)
                (pop_room_more (before_parameters c.in-Some.block (classes_taken (bundle_tables c.args.code.now) c.args.function)) (frames_in c.room.inside.frames.value) c.room.inside.pops c.room.inside.cells.spare c.room.inside.waits.spare refl fits h.0),
            h.1,
            h.2,
            h.3,
          ),
      λ e. cc,
    )
