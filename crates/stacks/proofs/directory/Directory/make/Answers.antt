use Rattle.std.proofs.Common.{◌≡◌, ◌<◌, List, [], ◌∷◌, ◌++◌, map, length, sym, ap, subst, ◌∙◌, rules}
use Rattle.std.specs.Vec.{vec_len}
use Rattle.slab.specs.Slab.{Slab}
use Rattle.stacks.specs.Directories.{Entry, IsTaken, state_of, ready_frames}
use Rattle.stacks.specs.Directories as entries
use Rattle.stacks.specs.Kept.{entry_of}
use Rattle.stacks.specs.declared.directory.Kept.{Kept}
use Rattle.stacks.specs.declared.directory.Kept.TheVariants.{Ready}
use Rattle.stacks.specs.Stacks.{Unbound}
use Rattle.stacks.proofs.Keeping.{roomy_sound, made_sound, made_seen}
use Rattle.stacks.specs.Kept.{IsSound}
use Rattle.stacks.proofs.directory.Directory.make.Goals as goal

pub invariant_of-self-2 : goal.invariant_of-self-2
invariant_of-self-2 c =
    let kept = c.self.inside.kept.items in
    let room = c.make_room.new.bodies in
    let key = c.insert_reserved-key in
    let sound = roomy_sound kept c.self.inside.bodies room c.self.inside.active c.self.invariant c.in_default.ensures.bodies c.in_default.ensures.capacity in
    let items : c.push_reserved.new.self.items ≡ kept ++ Ready key.result ∷ [] = c.push_reserved.ensures.items ∙ ap (λ (ks : List Kept). ks ++ Ready key.result ∷ []) c.in_default.ensures.kept in
    let many : vec_len c.make_room.new.kept ≡ length c.make_room.new.kept.items = search rules in
    let number : c.new-stack.result.number ≡ length kept = ap (λ (s : Unbound). s.number) c.new-stack.ensures ∙ c.len-number.ensures ∙ many ∙ ap length c.in_default.ensures.kept in
    let few : length kept < 4294967295 = rw (← c.in_default.ensures.kept) c.in_default.ensures.few in
    let P : List Kept → Type 0 = λ ks. IsSound ks key.new.self c.self.inside.active in
    subst P (sym items)
    (made_sound kept room key.new.self c.self.inside.active key.result c.new-stack.result sound key.ensures.was_vacant key.ensures.updates number c.in_default.ensures.body_room key.ensures.len
    key.ensures.capacity few)

pub returns-clause-made : goal.returns-clause-made
returns-clause-made c =
    let kept = c.self.inside.kept.items in
    let room = c.make_room.new.bodies in
    let key = c.insert_reserved-key in
    let sound = roomy_sound kept c.self.inside.bodies room c.self.inside.active c.self.invariant c.in_default.ensures.bodies c.in_default.ensures.capacity in
    let items : c.push_reserved.new.self.items ≡ kept ++ Ready key.result ∷ [] = c.push_reserved.ensures.items ∙ ap (λ (ks : List Kept). ks ++ Ready key.result ∷ []) c.in_default.ensures.kept in
    ap (λ (ks : List Kept). map (entry_of key.new.self) ks) items
    ∙ made_seen kept room key.new.self c.self.inside.active key.result c.new-stack.result sound key.ensures.was_vacant key.ensures.updates
    ∙ ap (λ (b : Slab Unbound). map (entry_of b) kept ++ entries.Ready c.new-stack.result.frames c.new-stack.result.waits ∷ []) c.in_default.ensures.bodies
    ∙ ap (λ (all : List Entry). all ++ entries.Ready c.new-stack.result.frames c.new-stack.result.waits ∷ []) c.self.view_is
    ∙ ap (λ (s : Unbound). c.args.self.now ++ entries.Ready s.frames s.waits ∷ []) c.new-stack.ensures
