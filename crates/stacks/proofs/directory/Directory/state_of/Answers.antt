use Rattle.std.proofs.Common.{List, slice_get, option_map, sym, ap, ◌∙◌}
use Rattle.stacks.specs.Directories.{Entry, state_of}
use Rattle.stacks.specs.Kept.{state_kept}
use Rattle.stacks.specs.declared.directory.Kept.{Kept}
use Rattle.stacks.specs.declared.state.StackState.TheVariants as states
use Rattle.stacks.proofs.Keeping.{state_seen}
use Rattle.stacks.proofs.directory.Directory.state_of.Goals as goal

pub returns-in-Ok : goal.returns-in-Ok
returns-in-Ok c =
    let look = ap (λ (ks : List Kept). option_map state_kept (slice_get ks c.args.id)) (sym c.deref.ensures.value) ∙ ap (option_map state_kept) c.in-Ok.ensures.ready in
    ap (λ (all : List Entry). option_map state_of (slice_get all c.args.id)) (sym c.self.view_is)
    ∙ state_seen c.self.inside.kept.items c.self.inside.bodies c.self.inside.active c.args.id states.Ready c.self.invariant look

pub returns-in-Err : goal.returns-in-Err
returns-in-Err c =
    let look = ap (λ (ks : List Kept). option_map state_kept (slice_get ks c.args.id)) (sym c.deref.ensures.value) ∙ c.in-Err.ensures.state in
    ap (λ (all : List Entry). option_map state_of (slice_get all c.args.id)) (sym c.self.view_is)
    ∙ state_seen c.self.inside.kept.items c.self.inside.bodies c.self.inside.active c.args.id c.in-Err.other.state c.self.invariant look
