use Rattle.std.proofs.Common.{◌≡◌, ◌+◌, ◌-◌, ◌++◌, ◌<◌, List, Some, length, map, take, drop, get_or, slice_get, sym, ap, ◌∙◌, arith}
use Rattle.std.specs.Prelude.{slice_set}
use Rattle.std.proofs.lemmas.List.{length-set, length-map}
use Rattle.std.proofs.lemmas.Option.{slice_get-get_or}
use Rattle.mu_types.specs.ListLaws.{lent_back}
use Rattle.mu_values.specs.declared.scalars.Scalar.{Scalar}
use Rattle.mu_values.specs.declared.scalars.Scalar.TheVariants.{Null}
use Rattle.typed_heap.specs.declared.objects.Initial.TheVariants as initials
use Rattle.typed_heap.specs.Rows.{initial_of}
use Rattle.typed_heap.proofs.Apart.{known_at, overwritten_shown}
use Rattle.typed_heap.specs.Lemmas.Filled.{replaced_one, put_one}
use Rattle.typed_heap.proofs.objects.give_cell.Goals as goal

-- a cell that was given a scalar
pub returns-in-Given-clause-begins : goal.returns-in-Given-clause-begins
returns-in-Given-clause-begins c =
    let is = c.args.initials.now in
    let gs = c.args.given.now.items in
    let old = map (initial_of gs) is in
    let n = c.in-Given.number in
    let s = get_or c.args.scalars.now 0 Null in
    let here : slice_get is c.args.cell ≡ Some (initials.Given n) = slice_get-get_or is c.args.cell _ c.requires.cell ∙ ap Some c.in-Given.is in
    let low : n < length gs = known_at (length gs) is c.args.cell n c.requires.own.known here in
    let more : List Scalar = c.copy_from_slice.new.self in
    let lent : List Scalar = c.deref_mut.result.now in
    let put : List Scalar = take n lent ++ (more ++ drop (n + 1 - n) (drop n lent)) in
    let written : put ≡ slice_set gs n s = rw (c.deref_mut.ensures.value, c.copy_from_slice.ensures.after) (put_one gs c.args.scalars.now n (n + 1 - n) Null (omega arith) c.requires.one low) in
    let long : length put ≡ c.args.given.now.len = ap (λ (xs : List Scalar). length xs) written ∙ length-set gs n s ∙ ap (λ (xs : List Scalar). length xs) (sym c.deref_mut.ensures.value) ∙ c.deref_mut.ensures.len in
    let back : take c.args.given.now.len (put ++ drop (length put) gs) ≡ slice_set gs n s = lent_back put gs c.args.given.now.len long ∙ written in
    let within : c.args.cell < length old = omega (arith, length-map is (initial_of gs), c.requires.cell) in
    ap (λ (xs : List Scalar). map (initial_of xs) is) back
    ∙ overwritten_shown gs n s is c.args.cell low c.requires.own.apart here
    ∙ sym (replaced_one old c.args.cell c.args.scalars.now Null c.requires.one within)

-- another one
pub returns-in-Null-clause-begins : goal.returns-in-Null-clause-begins
returns-in-Null-clause-begins c =
    let is = c.args.initials.now in
    let gs = c.args.given.now.items in
    let within : c.args.cell < length (map (initial_of gs) is) = omega (arith, length-map is (initial_of gs), c.requires.cell) in
    c.give_first.ensures.begins ∙ sym (replaced_one (map (initial_of gs) is) c.args.cell c.args.scalars.now _ c.requires.one within)
