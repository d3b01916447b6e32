use Rattle.std.proofs.Common.{◌≡◌, List, Some, length, set, slice_get, sym, ap, ◌∙◌, arith, rules}
use Rattle.std.specs.Vec.{vec_len}
use Rattle.stacks.specs.Directories.{Entry, IsTaken, state_of, ready_frames}
use Rattle.stacks.specs.Directories as entries
use Rattle.stacks.specs.declared.directory.Kept.TheVariants.{Active}
use Rattle.stacks.proofs.Keeping.{taken_kept, taken_counts, put_sound, put_seen}
use Rattle.std.proofs.lemmas.Option.{slice_get_within}
use Rattle.stacks.proofs.directory.Directory.put_back.Goals as goal

pub insert_reserved-key-requires : goal.insert_reserved-key-requires
insert_reserved-key-requires c =
    let kept = c.self.inside.kept.items in
    let bodies = c.self.inside.bodies in
    let t = taken_kept kept bodies c.args.self.now c.args.stack.number c.self.view_is c.requires in
    let some = taken_counts kept bodies c.self.inside.active c.args.stack.number t.0 c.self.invariant t.1 in
    omega (arith, some, c.self.invariant.room)

pub index_mut-requires : goal.index_mut-requires
index_mut-requires c =
    let kept = c.self.inside.kept.items in
    let many : vec_len c.self.inside.kept ≡ length kept = search rules in
    let t = taken_kept kept c.self.inside.bodies c.args.self.now c.args.stack.number c.self.view_is c.requires in
    omega (arith, slice_get_within kept c.args.stack.number (Active t.0) t.1, many, c.number-number.ensures)

pub overflow_sub-self : goal.overflow_sub-self
overflow_sub-self c =
    let kept = c.self.inside.kept.items in
    let bodies = c.self.inside.bodies in
    let t = taken_kept kept bodies c.args.self.now c.args.stack.number c.self.view_is c.requires in
    omega (arith, taken_counts kept bodies c.self.inside.active c.args.stack.number t.0 c.self.invariant t.1)

pub invariant_of-self : goal.invariant_of-self
invariant_of-self c =
    let kept = c.self.inside.kept.items in
    let bodies = c.self.inside.bodies in
    let n = c.number-number.result in
    let key = c.insert_reserved-key in
    let t = taken_kept kept bodies c.args.self.now c.args.stack.number c.self.view_is c.requires in
    let at : slice_get kept n ≡ Some (Active t.0) = rw c.number-number.ensures t.1 in
    put_sound kept bodies key.new.self c.self.inside.active n key.result t.0 c.args.stack c.self.invariant at key.ensures.was_vacant key.ensures.updates (sym c.number-number.ensures) key.ensures.len
    key.ensures.capacity

pub returns : goal.returns
returns c =
    let kept = c.self.inside.kept.items in
    let bodies = c.self.inside.bodies in
    let key = c.insert_reserved-key in
    let ready = entries.Ready c.args.stack.frames c.args.stack.waits in
    put_seen kept bodies key.new.self c.self.inside.active c.number-number.result key.result c.args.stack c.self.invariant key.ensures.was_vacant key.ensures.updates
    ∙ ap (λ (all : List Entry). set all c.number-number.result ready) c.self.view_is
    ∙ ap (λ n. set c.args.self.now n ready) c.number-number.ensures
