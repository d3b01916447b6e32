use Rattle.std.proofs.Common.{◌≡◌, ℕ, ◌+◌, [], ◌∷◌, ◌++◌, length, refl, ap, ◌∙◌, arith, rules}
use Rattle.std.specs.Vec.{vec_len}
use Rattle.std.proofs.lemmas.List.{length-append}
use Rattle.mu_values.specs.Slots.{cut, IsCut, RoomyValues}
use Rattle.mu_values.proofs.Cuts.{cut_more, cut_pushed}
use Rattle.mu_values.proofs.slots.Slots.push_scalars.Goals as goal

pub invariant_of-self-2 : goal.invariant_of-self-2
invariant_of-self-2 c =
    let s = c.self.inside.scalars.items in
    let v = c.args.member.now in
    let many : vec_len c.reserve.new.self ≡ length c.reserve.new.self.items = search rules in
    let first : c.len.result ≡ length s = c.len.ensures ∙ many ∙ ap length c.in_ok-reserve.ensures.items in
    let end : c.len.result + length v ≡ length s + length v = rw first refl in
    let ends : c.push.new.self.items ≡ c.self.inside.ends.items ++ (length s + length v) ∷ [] = c.in_ok-push.ensures.items ∙ ap (λ (n : ℕ). c.self.inside.ends.items ++ n ∷ []) end in
    let scalars : c.extend_from_slice.new.self.items ≡ s ++ v = c.in_ok-extend_from_slice.ensures.items ∙ rw c.in_ok-reserve.ensures.items refl in
    let kept : IsCut 0 c.push.new.self.items (length c.extend_from_slice.new.self.items) =
    rw (ends, scalars, length-append s v) (cut_more 0 c.self.inside.ends.items (length s) (length s + length v) c.self.invariant (omega arith)) in
    kept

pub returns-clause-ok : goal.returns-clause-ok
returns-clause-ok c =
    let s = c.self.inside.scalars.items in
    let v = c.args.member.now in
    let many : vec_len c.reserve.new.self ≡ length c.reserve.new.self.items = search rules in
    let first : c.len.result ≡ length s = c.len.ensures ∙ many ∙ ap length c.in_ok-reserve.ensures.items in
    let end : c.len.result + length v ≡ length s + length v = rw first refl in
    let ends : c.push.new.self.items ≡ c.self.inside.ends.items ++ (length s + length v) ∷ [] = c.in_ok-push.ensures.items ∙ ap (λ (n : ℕ). c.self.inside.ends.items ++ n ∷ []) end in
    let scalars : c.extend_from_slice.new.self.items ≡ s ++ v = c.in_ok-extend_from_slice.ensures.items ∙ rw c.in_ok-reserve.ensures.items refl in
    let whole : cut 0 c.push.new.self.items c.extend_from_slice.new.self.items ≡ cut 0 c.self.inside.ends.items s ++ v ∷ [] =
    rw (ends, scalars) (cut_pushed 0 c.self.inside.ends.items s v c.self.invariant) in
    whole ∙ ap (λ (r : RoomyValues). r.values ++ v ∷ []) c.self.view_is
