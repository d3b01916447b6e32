use Rattle.std.proofs.Common.{◌≡◌, ◌+◌, ◌++◌, [], ◌∷◌, length, ◌∙◌, refl, rules}
use Rattle.std.specs.Vec.{vec_len}
use Rattle.std.proofs.lemmas.List.{length-append}
use Rattle.typed_heap.specs.Lemmas.Firsts.{given_shown}
use Rattle.typed_heap.proofs.Apart.{own_given}
use Rattle.typed_heap.proofs.objects.give_first.Goals as goal

pub returns-clause-own : goal.returns-clause-own
returns-clause-own c =
    let gs = c.args.given.now.items in
    let count : vec_len c.args.given.now ≡ length gs = search rules in
    let items : c.push.new.self.items ≡ gs ++ c.args.scalar ∷ [] = c.push.ensures.items ∙ rw c.unwrap.ensures refl in
    let number : c.len-number.result ≡ length gs = c.len-number.ensures ∙ count in
    let long : length (gs ++ c.args.scalar ∷ []) ≡ length gs + 1 = length-append gs (c.args.scalar ∷ []) in
    rw (items, number, long) (own_given (length gs) c.args.initials.now c.args.cell c.requires.own)

pub returns-clause-begins : goal.returns-clause-begins
returns-clause-begins c =
    let gs = c.args.given.now.items in
    let count : vec_len c.args.given.now ≡ length gs = search rules in
    let items : c.push.new.self.items ≡ gs ++ c.args.scalar ∷ [] = c.push.ensures.items ∙ rw c.unwrap.ensures refl in
    let number : c.len-number.result ≡ length gs = c.len-number.ensures ∙ count in
    rw (items, number) (given_shown gs c.args.scalar c.args.initials.now c.args.cell c.requires.own.known)
