-- Laws of lists: what a lent slice leaves, and a list repeated once more. Crates above cite them.
use Rattle.std.proofs.Common.{◌≡◌, ℕ, zero, suc, ◌+◌, List, ◌++◌, length, sym, ◌∙◌, ap, arith, take, drop, add-one}
use Rattle.std.proofs.lemmas.List.{take-append-le, take_all, append_assoc, append-nil}
use Rattle.type_definitions.specs.Leaves.{times}

-- what a slice that was lent leaves in its vector
pub lent_back : {A : Type 0} (new old : List A) (n : ℕ) → length new ≡ n → take n (new ++ drop (length new) old) ≡ new
lent_back {A} new old n e = take-append-le n new (drop (length new) old) (omega arith) ∙ take_all n new (omega arith)

-- a list repeated once more
pub times_more : (n : ℕ) (xs : List ℕ) → times n xs ++ xs ≡ times (n + 1) xs
times_more n xs = back n xs ∙ ap (λ k. times k xs) (sym (add-one n))
  where
    back : (n : ℕ) (xs : List ℕ) → times n xs ++ xs ≡ xs ++ times n xs
    back zero xs = sym (append-nil xs)
    back (suc n) xs = append_assoc xs (times n xs) xs ∙ ap (λ ys. xs ++ ys) (back n xs)
