-- A log lists its events newest first; the code keeps them in order.
use Rattle.std.proofs.Common.{◌≡◌, ℕ, suc, ◌+◌, ◌-◌, ◌<◌, List, [], ◌∷◌, length, take, get_or, reverse, Some, ap, ◌∙◌, inl, inr, ◌⊎◌, arith}
use Rattle.std.proofs.lemmas.List.{take_more, reverse-append, length-reverse, get_or-reverse}
use Rattle.std.proofs.lemmas.Bool.{cases_eq}
use Rattle.mem_axioms.specs.Logs.{event_at}
use Rattle.mem_axioms.specs.declared.types.Event.{Event}
use Rattle.mem_axioms.specs.Lemmas.Numbers.{event-older, event-newest}

-- one more event, in order, is one in front
pub reverse_more : (xs : List Event) (i : ℕ) (d : Event) → i < length xs → reverse (take (i + 1) xs) ≡ get_or xs i d ∷ reverse (take i xs)
reverse_more xs i d h = rw (take_more xs i d h, reverse-append)

event-get : (log : List Event) (i : ℕ) (d : Event) → i < length log → event_at log i ≡ Some (get_or log (length log - 1 - i) d)
event-get [] i d h = absurd (omega arith)
event-get (e ∷ past) i d h = go (event-get past i d) (cases_eq i (length past))
  where
    go : (i < length past → event_at past i ≡ Some (get_or past (length past - 1 - i) d)) → (i ≡ length past) ⊎ (i ≡ length past → ⊥) → event_at (e ∷ past) i ≡ Some (get_or (e ∷ past) (suc (length past) - 1 - i) d)
    go ih (inl p) = let z : suc (length past) - 1 - i ≡ 0 = omega arith in rw z (rw p (event-newest e past))
    go ih (inr n) = let z : suc (length past) - 1 - i ≡ suc (length past - 1 - i) = omega arith in rw z (event-older e past i (omega arith) ∙ ih (omega arith))

-- the event with a number is the item with that index
pub event-reverse : (xs : List Event) (i : ℕ) (d : Event) → i < length xs → event_at (reverse xs) i ≡ Some (get_or xs i d)
event-reverse xs i d h =
    let l = length-reverse xs in
    let z = get_or-reverse xs (length xs - 1 - i) d (omega arith) in
    let w : length xs - 1 - (length xs - 1 - i) ≡ i = omega arith in
    let y : length (reverse xs) - 1 - i ≡ length xs - 1 - i = rw l in
    event-get (reverse xs) i d (omega (arith, l)) ∙ ap Some (ap (λ (k : ℕ). get_or (reverse xs) k d) y ∙ (z ∙ ap (λ (k : ℕ). get_or xs k d) w))
