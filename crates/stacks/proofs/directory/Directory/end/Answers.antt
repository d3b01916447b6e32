use Rattle.std.proofs.Common.{List, set, ap, ◌∙◌, arith}
use Rattle.stacks.specs.Directories.{Entry, IsTaken, state_of, ready_frames}
use Rattle.stacks.specs.Directories as entries
use Rattle.stacks.proofs.Keeping.{taken_kept, taken_counts, ended_sound, ended_seen}
use Rattle.stacks.proofs.directory.Directory.end.Goals as goal

pub overflow_sub-self : goal.overflow_sub-self
overflow_sub-self c =
    let kept = c.self.inside.kept.items in
    let bodies = c.self.inside.bodies in
    let t = taken_kept kept bodies c.args.self.now c.args.id c.self.view_is c.requires in
    omega (arith, taken_counts kept bodies c.self.inside.active c.args.id t.0 c.self.invariant t.1)

pub invariant_of-self : goal.invariant_of-self
invariant_of-self c =
    let kept = c.self.inside.kept.items in
    let bodies = c.self.inside.bodies in
    let t = taken_kept kept bodies c.args.self.now c.args.id c.self.view_is c.requires in
    ended_sound kept bodies c.self.inside.active c.args.id t.0 c.self.invariant t.1

pub returns : goal.returns
returns c =
    ended_seen c.self.inside.kept.items c.self.inside.bodies c.args.id
    ∙ ap (λ (all : List Entry). set all c.args.id entries.Dead) c.self.view_is
