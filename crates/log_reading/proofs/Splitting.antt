-- The parts of a text.
use Rattle.std.proofs.Common.{◌≡◌, ℕ, zero, suc, ◌+◌, ◌-◌, ◌<◌, ◌≤◌, Bool, true, false, not, ◌&&◌, List, [], ◌∷◌, length, get_or, take, drop, Option, Some, None, is_some, refl, sym, ap, ◌∙◌, arith, add-one, drop-cons, length-drop}
use Rattle.std.specs.Prelude.{◌==◌, if◌then◌else◌, Err}
use Rattle.std.specs.List.{list_all}
use Rattle.std.specs.Borrow.{Bor}
use Rattle.std.proofs.lemmas.Bool.Decides.{nat_tests}
use Rattle.log_lines.specs.Fields.{Text, parts, onto_first, cell_in}
use Rattle.log_lines.specs.declared.types.LogKind.TheVariants.{Unexpected}
use Rattle.log_reading.specs.Inner.{parts_after, parts_of, other_than}

both_true : (a b : Bool) → (a && b) ≡ true → (a ≡ true) × (b ≡ true)
both_true true b h = (refl, h)
both_true false b h = absurd (cc)

is_it : (b at : ℕ) → b ≡ at → (b == at) ≡ true
is_it b at h = grind (arith, nat_tests)

not_it : (b : Bool) → not b ≡ true → b ≡ false
not_it true h = absurd (cc)
not_it false h = refl

pub split_here : (at : ℕ) (bytes : Text) (n : ℕ) → n < length bytes → list_all (other_than at) (take n bytes) ≡ true → get_or bytes n 0 ≡ at → parts at bytes ≡ take n bytes ∷ parts_after at (drop n bytes)
split_here at [] n l h e = absurd (omega arith)
split_here at (b ∷ bs) zero l h e = rw (is_it b at e) refl
split_here at (b ∷ bs) (suc n) l h e =
    let r = both_true (other_than at b) (list_all (other_than at) (take n bs)) h in
    rw (not_it (b == at) r.0, split_here at bs n (omega arith) r.1 e) refl

pub split_end : (at : ℕ) (bytes : Text) (n : ℕ) → length bytes ≤ n → list_all (other_than at) (take n bytes) ≡ true → parts at bytes ≡ take n bytes ∷ parts_after at (drop n bytes)
split_end at [] zero l h = refl
split_end at [] (suc n) l h = refl
split_end at (b ∷ bs) zero l h = absurd (omega arith)
split_end at (b ∷ bs) (suc n) l h =
    let r = both_true (other_than at b) (list_all (other_than at) (take n bs)) h in
    rw (not_it (b == at) r.0, split_end at bs n (omega arith) r.1) refl

pub after_is : (at : ℕ) (bytes : Text) (n : ℕ) → n < length bytes → parts_after at (drop n bytes) ≡ parts at (drop (n + 1) bytes)
after_is at bytes n l = rw (add-one, drop-cons bytes n 0) refl

take_whole : (n : ℕ) (xs : Text) → length xs ≤ n → take n xs ≡ xs
take_whole zero [] h = refl
take_whole (suc n) [] h = refl
take_whole zero (x ∷ xs) h = absurd (omega arith)
take_whole (suc n) (x ∷ xs) h = ap (λ (l : Text). x ∷ l) (take_whole n xs (omega arith))

pub rest_is : (bytes : Text) (n : ℕ) → take (length bytes - n) (drop n bytes) ≡ drop n bytes
rest_is bytes n = take_whole (length bytes - n) (drop n bytes) (omega (arith, length-drop n bytes))

-- ---- three parts where two may stand

onto_some : (b : ℕ) (ps : List Text) → 0 < length (onto_first b ps)
onto_some b [] = omega arith
onto_some b (p ∷ ps) = omega arith

either_some : (c : Bool) (b : ℕ) (ps : List Text) → 0 < length (if c then [] ∷ ps else onto_first b ps)
either_some true b ps = omega arith
either_some false b ps = onto_some b ps

-- a text has a part
pub parts_some : (separator : ℕ) (bytes : Text) → 0 < length (parts separator bytes)
parts_some separator [] = omega arith
parts_some separator (b ∷ bs) = either_some (b == separator) b (parts separator bs)

third : (o a : Text) (ps : List Text) → 0 < length ps → Err Unexpected ≡ cell_in (o ∷ a ∷ ps)
third o a [] l = absurd (omega arith)
third o a (p ∷ ps) l = refl

after_two : (o a : Text) (more : Option (Bor Text)) → is_some more ≡ true → Err Unexpected ≡ cell_in (o ∷ a ∷ parts_of 43 more)
after_two o a None h = absurd (cc)
after_two o a (Some r) h = third o a (parts 43 r.now) (parts_some 43 r.now)

pub three_parts : (numbers o a : Text) (rest : Option (Bor Text)) (at : Bor Text) (more : Option (Bor Text)) → parts 43 numbers ≡ o ∷ parts_of 43 rest → rest ≡ Some at → parts 43 at.now ≡ a ∷ parts_of 43 more → is_some more ≡ true
    → Err Unexpected ≡ cell_in (parts 43 numbers)
three_parts numbers o a rest at more e s f h =
    after_two o a more h ∙ sym (ap cell_in (e ∙ ap (λ r. o ∷ parts_of 43 r) s ∙ ap (λ ps. o ∷ ps) f))
