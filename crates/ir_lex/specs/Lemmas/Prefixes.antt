-- The longest front of a list that passes a test.
use Rattle.std.proofs.Common.{◌≡◌, ℕ, suc, ◌+◌, ◌≤◌, Bool, true, false, List, [], ◌∷◌, ◌++◌, length, take, refl, arith}
use Rattle.std.specs.Prelude.{cond}
use Rattle.std.specs.List.{prefix_len, list_all}
use Rattle.std.proofs.lemmas.Bool.{and_parts}
use Rattle.ir_lex.specs.Bytes.{stops_at}

passes_more : (p : ℕ → Bool) (x : ℕ) (xs : List ℕ) (b : Bool) → p x ≡ b → list_all p (take (prefix_len p xs) xs) ≡ true → list_all p (take (cond b (1 + prefix_len p xs) 0) (x ∷ xs)) ≡ true
passes_more p x xs true e h =
    let one : 1 + prefix_len p xs ≡ suc (prefix_len p xs) = omega arith in
    rw (one, e, h) refl
passes_more p x xs false e h = refl

pub prefix_passes : (p : ℕ → Bool) (xs : List ℕ) → list_all p (take (prefix_len p xs) xs) ≡ true
prefix_passes p [] = refl
prefix_passes p (x ∷ xs) = passes_more p x xs (p x) refl (prefix_passes p xs)

pub prefix_reaches : (p : ℕ → Bool) (body rest : List ℕ) → list_all p body ≡ true → length body ≤ prefix_len p (body ++ rest)
prefix_reaches p [] rest h = omega arith
prefix_reaches p (b ∷ body) rest h =
    let parts = and_parts (p b) (list_all p body) h in
    let more = prefix_reaches p body rest parts.1 in
    rw parts.0 (omega arith)

pub prefix_again : (p : ℕ → Bool) (body rest : List ℕ) → list_all p body ≡ true → stops_at p rest → prefix_len p (body ++ rest) ≡ length body
prefix_again p [] [] h k = refl
prefix_again p [] (b ∷ rest) h k = rw k refl
prefix_again p (b ∷ body) rest h k =
    let parts = and_parts (p b) (list_all p body) h in
    rw (parts.0, prefix_again p body rest parts.1 k) (omega arith)
