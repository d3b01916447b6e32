-- One digit more.
use Rattle.std.proofs.Common.{◌≡◌, ℕ, zero, suc, ◌+◌, ◌*◌, ◌<◌, ◌≤◌, List, [], ◌∷◌, length, get_or, drop, refl, arith, add-one}
use Rattle.std.specs.Char.{digit_value}
use Rattle.std.specs.Str.Parse.{digits_value_after}

after_suc : (b n : ℕ) (ds : List ℕ) (i : ℕ) → i < length ds → digits_value_after b n (drop i ds) ≡ digits_value_after b (n * b + digit_value (get_or ds i 0)) (drop (suc i) ds)
after_suc b n [] i h = absurd (omega arith)
after_suc b n (d ∷ ds) zero h = refl
after_suc b n (d ∷ ds) (suc i) h = after_suc b n ds i (omega arith)

pub value_more : (b n : ℕ) (ds : List ℕ) (i : ℕ) → i < length ds → digits_value_after b n (drop i ds) ≡ digits_value_after b (n * b + digit_value (get_or ds i 0)) (drop (i + 1) ds)
value_more b n ds i h = rw add-one (after_suc b n ds i h)

times : (b n : ℕ) → 0 < b → n ≤ n * b
times b n h = grind arith

at_least : (b n : ℕ) (ds : List ℕ) → 0 < b → n ≤ digits_value_after b n ds
at_least b n [] h = omega arith
at_least b n (d ∷ ds) h = let e = at_least b (n * b + digit_value d) ds h in omega (arith, times b n h)

pub value_over : (b n : ℕ) (ds : List ℕ) (i limit : ℕ) → 0 < b → i < length ds → limit ≤ n * b + digit_value (get_or ds i 0) → limit ≤ digits_value_after b n (drop i ds)
value_over b n ds i limit hb h over = let e = at_least b (n * b + digit_value (get_or ds i 0)) (drop (i + 1) ds) hb in rw (value_more b n ds i h) (omega arith)

pub value_done : (b n : ℕ) (ds : List ℕ) (i : ℕ) → length ds ≤ i → digits_value_after b n (drop i ds) ≡ n
value_done b n [] zero h = refl
value_done b n [] (suc i) h = refl
value_done b n (d ∷ ds) zero h = absurd (omega arith)
value_done b n (d ∷ ds) (suc i) h = value_done b n ds i (omega arith)
