use Rattle.std.proofs.Common.{◌≡◌, List, Some, set, slice_get, sym, ap, ◌∙◌}
use Rattle.stacks.specs.Directories.{Entry, IsTaken, state_of, ready_frames}
use Rattle.stacks.specs.Directories as entries
use Rattle.stacks.specs.declared.directory.Kept.{Kept}
use Rattle.stacks.specs.declared.directory.Kept.TheVariants.{Ready}
use Rattle.stacks.proofs.Keeping.{taken_sound, taken_seen, ready_bodied, ready_number, ready_seen}
use Rattle.stacks.proofs.directory.Directory.take.Goals as goal

pub remove-requires : goal.remove-requires
remove-requires c =
    let kept = c.self.inside.kept.items in
    let bodies = c.self.inside.bodies in
    let at : slice_get kept c.args.id ≡ Some (Ready c.in_ok-key.key) = ap (λ (ks : List Kept). slice_get ks c.args.id) (sym c.deref.ensures.value) ∙ c.in_ok-key.ensures.ready in
    ready_bodied kept bodies c.self.inside.active c.args.id c.in_ok-key.key c.self.invariant at

pub invariant_of-self : goal.invariant_of-self
invariant_of-self c =
    let kept = c.self.inside.kept.items in
    let bodies = c.self.inside.bodies in
    let at : slice_get kept c.args.id ≡ Some (Ready c.in_ok-key.key) = ap (λ (ks : List Kept). slice_get ks c.args.id) (sym c.deref.ensures.value) ∙ c.in_ok-key.ensures.ready in
    taken_sound kept bodies c.remove.new.self c.self.inside.active c.args.id c.in_ok-key.key c.args.thread c.self.invariant at c.remove.ensures.updates c.remove.ensures.len c.remove.ensures.capacity

pub returns-clause-number : goal.returns-clause-number
returns-clause-number c =
    let kept = c.self.inside.kept.items in
    let bodies = c.self.inside.bodies in
    let at : slice_get kept c.args.id ≡ Some (Ready c.in_ok-key.key) = ap (λ (ks : List Kept). slice_get ks c.args.id) (sym c.deref.ensures.value) ∙ c.in_ok-key.ensures.ready in
    ready_number kept bodies c.self.inside.active c.args.id c.in_ok-key.key c.remove.result c.self.invariant at c.remove.ensures.value

pub returns-clause-was_ready : goal.returns-clause-was_ready
returns-clause-was_ready c =
    let kept = c.self.inside.kept.items in
    let bodies = c.self.inside.bodies in
    let at : slice_get kept c.args.id ≡ Some (Ready c.in_ok-key.key) = ap (λ (ks : List Kept). slice_get ks c.args.id) (sym c.deref.ensures.value) ∙ c.in_ok-key.ensures.ready in
    ap (λ (all : List Entry). slice_get all c.args.id) (sym c.self.view_is) ∙ ready_seen kept bodies c.args.id c.in_ok-key.key c.remove.result at c.remove.ensures.value

pub returns-clause-active : goal.returns-clause-active
returns-clause-active c =
    let kept = c.self.inside.kept.items in
    let bodies = c.self.inside.bodies in
    let at : slice_get kept c.args.id ≡ Some (Ready c.in_ok-key.key) = ap (λ (ks : List Kept). slice_get ks c.args.id) (sym c.deref.ensures.value) ∙ c.in_ok-key.ensures.ready in
    taken_seen kept bodies c.remove.new.self c.self.inside.active c.args.id c.in_ok-key.key c.args.thread c.self.invariant at c.remove.ensures.updates
    ∙ ap (λ (all : List Entry). set all c.args.id (entries.Active c.args.thread)) c.self.view_is
