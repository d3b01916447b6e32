use Rattle.std.proofs.Common.{◌≡◌, ◌<◌, ◌++◌, ℕ, List, length, sym, ◌∙◌, subst, refl, rules}
use Rattle.std.specs.Vec.{vec_len}
use Rattle.std.specs.List.{All}
use Rattle.type_definitions.specs.Leaves.{times}
use Rattle.typed_heap.specs.Lemmas.Rows.{added_tail}
use Rattle.typed_heap.proofs.objects.append_object.Goals as goal

pub append_firsts-requires-clause-leaves : goal.append_firsts-requires-clause-leaves
append_firsts-requires-clause-leaves c =
    let old = c.args.leaves.now.items in
    let whole = c.append_times.new.leaves.items in
    let count : vec_len c.args.leaves.now ≡ length old = search rules in
    let e : whole ≡ (old ++ c.args.added.fixed.now) ++ times c.args.added.count c.args.added.run.now = c.in_ok-append_times.ensures.ok ∙ rw c.in_ok-extend_from_slice.ensures.items refl in
    let tail = added_tail old c.args.added.fixed.now (times c.args.added.count c.args.added.run.now) whole c.len-begin.result e (c.len-begin.ensures ∙ count) in
    let P : List ℕ → Type 0 = λ xs. All (λ k. k < length c.args.classes.now.definitions) xs in
    rw c.deref.ensures.value (subst P (sym tail) c.requires.leaves)
