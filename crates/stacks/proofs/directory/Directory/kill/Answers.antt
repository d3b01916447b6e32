use Rattle.std.proofs.Common.{◌≡◌, List, Some, set, slice_get, sym, ap, ◌∙◌}
use Rattle.stacks.specs.Directories.{Entry, IsTaken, state_of, ready_frames}
use Rattle.stacks.specs.Directories as entries
use Rattle.stacks.specs.declared.directory.Kept.{Kept}
use Rattle.stacks.specs.declared.directory.Kept.TheVariants.{Ready}
use Rattle.stacks.proofs.Keeping.{killed_sound, killed_seen, ready_bodied, ready_seen}
use Rattle.stacks.proofs.directory.Directory.kill.Goals as goal

pub remove-requires : goal.remove-requires
remove-requires c =
    let kept = c.self.inside.kept.items in
    let bodies = c.self.inside.bodies in
    let at : slice_get kept c.args.id ≡ Some (Ready c.in_ok-key.key) = ap (λ (ks : List Kept). slice_get ks c.args.id) (sym c.deref.ensures.value) ∙ c.in_ok-key.ensures.ready in
    ready_bodied kept bodies c.self.inside.active c.args.id c.in_ok-key.key c.self.invariant at

pub invariant_of-self : goal.invariant_of-self
invariant_of-self c =
    let kept = c.self.inside.kept.items in
    let bodies = c.self.inside.bodies in
    let at : slice_get kept c.args.id ≡ Some (Ready c.in_ok-key.key) = ap (λ (ks : List Kept). slice_get ks c.args.id) (sym c.deref.ensures.value) ∙ c.in_ok-key.ensures.ready in
    killed_sound kept bodies c.remove.new.self c.self.inside.active c.args.id c.in_ok-key.key c.self.invariant at c.remove.ensures.updates c.remove.ensures.len c.remove.ensures.capacity

pub returns-clause-frames : goal.returns-clause-frames
returns-clause-frames c =
    let kept = c.self.inside.kept.items in
    let bodies = c.self.inside.bodies in
    let at : slice_get kept c.args.id ≡ Some (Ready c.in_ok-key.key) = ap (λ (ks : List Kept). slice_get ks c.args.id) (sym c.deref.ensures.value) ∙ c.in_ok-key.ensures.ready in
    ap (λ (all : List Entry). ready_frames (slice_get all c.args.id)) (sym c.self.view_is)
    ∙ ap ready_frames (ready_seen kept bodies c.args.id c.in_ok-key.key c.remove.result at c.remove.ensures.value)
    ∙ ap Some (sym c.into_frames.ensures)

pub returns-clause-dead : goal.returns-clause-dead
returns-clause-dead c =
    let kept = c.self.inside.kept.items in
    let bodies = c.self.inside.bodies in
    let at : slice_get kept c.args.id ≡ Some (Ready c.in_ok-key.key) = ap (λ (ks : List Kept). slice_get ks c.args.id) (sym c.deref.ensures.value) ∙ c.in_ok-key.ensures.ready in
    killed_seen kept bodies c.remove.new.self c.self.inside.active c.args.id c.in_ok-key.key c.self.invariant at c.remove.ensures.updates
    ∙ ap (λ (all : List Entry). set all c.args.id entries.Dead) c.self.view_is
