use Rattle.std.proofs.Common.{◌≡◌, ◌+◌, ℕ, List, [], ◌∷◌, ◌++◌, length, length-append, refl, ap, ◌∙◌, arith}
use Rattle.std.specs.Prelude.{slice_set}
use Rattle.view_parts.specs.declared.touched.ThreadAccesses.{ThreadAccesses}
use Rattle.view_parts.specs.Lemmas.Places.{places-short, place-given-at, place-kept}
use Rattle.view_parts.proofs.touched.CellAccesses.give_place.Goals as goal

pub overflow_cast-len : goal.overflow_cast-len
overflow_cast-len c =
    let all = c.args.self.now in
    let short = places-short all.slots.items (length all.touched.items) c.args.thread c.requires.there c.requires.none all.placed in
    let same = ap (λ (xs : List ThreadAccesses). length xs) c.make_room.ensures.same in
    let more = c.push_reserved.ensures.len in
    let len = c.len.ensures in
    omega (arith, short, same, more, len, c.make_room.new.touched.ok.0)

pub invariant_of-self-2 : goal.invariant_of-self-2
invariant_of-self-2 c =
    let all = c.args.self.now in
    let same = ap (λ (xs : List ThreadAccesses). length xs) c.make_room.ensures.same in
    let more = c.push_reserved.ensures.len in
    let len = c.len.ensures in
    record {
      placed = place-given-at all.slots.items (length all.touched.items) c.args.thread c.len.result (length c.push_reserved.new.self.items) c.requires.there c.requires.none all.placed (omega (arith, same, more, len, c.make_room.new.touched.ok.0)) (omega (arith, same, more, c.make_room.new.touched.ok.0, c.push_reserved.new.self.ok.0));
    }

pub returns-clause-kept : goal.returns-clause-kept
returns-clause-kept c =
    let all = c.args.self.now in
    let same = ap (λ (xs : List ThreadAccesses). length xs) c.make_room.ensures.same in
    let more = c.push_reserved.ensures.len in
    let len = c.len.ensures in
    let slot : c.len.result ≡ length all.touched.items + 1 = omega (arith, same, more, len, c.make_room.new.touched.ok.0) in
    place-kept all _ c.args.thread c.new.result c.requires.there c.requires.none all.placed (ap (λ (n : ℕ). slice_set all.slots.items c.args.thread n) slot)
    (c.push_reserved.ensures.items ∙ ap (λ (xs : List ThreadAccesses). xs ++ c.new.result ∷ []) c.make_room.ensures.same) c.new.ensures
