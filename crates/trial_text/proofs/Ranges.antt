-- Texts for the numbers of a range.
use Rattle.std.proofs.Common.{◌≡◌, ℕ, zero, suc, ◌+◌, List, [], ◌∷◌, ◌++◌, refl, sym, ◌∙◌, ap, append_assoc, append-nil, add-one, zero-add, arith}
use Rattle.std.specs.List.{flat_map, range_with_len}
use Rattle.trial_text.specs.Trial.{for_each}

more_from : (text : ℕ → List ℕ) (a n : ℕ) → flat_map text (range_with_len a (suc n)) ≡ flat_map text (range_with_len a n) ++ text (a + n)
more_from text a zero = let z : a + 0 ≡ a = omega arith in append-nil (text a) ∙ sym (ap text z)
more_from text a (suc n) =
    let z : (a + 1) + n ≡ a + suc n = omega arith in
    ap (λ (l : List ℕ). text a ++ l) (more_from text (a + 1) n)
    ∙ sym (append_assoc (text a) (flat_map text (range_with_len (a + 1) n)) (text ((a + 1) + n)))
    ∙ ap (λ (k : ℕ). (text a ++ flat_map text (range_with_len (a + 1) n)) ++ text k) z

one_more : (text : ℕ → List ℕ) (n : ℕ) → for_each (suc n) text ≡ for_each n text ++ text n
one_more text n = more_from text 0 n ∙ ap (λ (k : ℕ). for_each n text ++ text k) (zero-add n)

-- the text for one number more is appended
pub appended_one : (text : ℕ → List ℕ) (n : ℕ) (start out new : List ℕ) → new ≡ out ++ text n → out ≡ start ++ for_each n text → new ≡ start ++ for_each (n + 1) text
appended_one text n start out new e before =
    let z : suc n ≡ n + 1 = omega arith in
    e
    ∙ ap (λ (l : List ℕ). l ++ text n) before
    ∙ append_assoc start (for_each n text) (text n)
    ∙ ap (λ (l : List ℕ). start ++ l) (sym (one_more text n))
    ∙ ap (λ (k : ℕ). start ++ for_each k text) z
