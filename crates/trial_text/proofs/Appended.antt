-- What is appended part by part.
use Rattle.std.proofs.Common.{◌≡◌, List, ℕ, ◌++◌, refl, sym, ◌∙◌, ap, append_assoc}
use Rattle.std.specs.Prelude.{Result, Ok, Err, OnOk, is_ok, if◌then◌else◌}

-- one part more
pub then_part : (old done part out new : List ℕ) → new ≡ out ++ part → out ≡ old ++ done → new ≡ old ++ (done ++ part)
then_part old done part out new e before = e ∙ ap (λ (l : List ℕ). l ++ part) before ∙ append_assoc old done part

-- the last part
pub last_part : {A E : Type 0} (r : Result A E) (old done part out new : List ℕ) → OnOk r (new ≡ out ++ part) → out ≡ old ++ done → OnOk r (new ≡ old ++ (done ++ part))
last_part (Ok x) old done part out new e before = then_part old done part out new e before
last_part (Err x) old done part out new e before = tt

-- the last words, which are appended as far as there is memory
pub last_words : {A E : Type 0} (r : Result A E) (old done words out new : List ℕ) → new ≡ (if is_ok r then out ++ words else out) → out ≡ old ++ done → OnOk r (new ≡ old ++ (done ++ words))
last_words (Ok x) old done words out new e before = then_part old done words out new e before
last_words (Err x) old done words out new e before = tt

-- words and a number more
pub then_number : (old done words number out new : List ℕ) → new ≡ out ++ (words ++ number) → out ≡ old ++ done → new ≡ old ++ (done ++ words ++ number)
then_number old done words number out new e before =
    e
    ∙ ap (λ (l : List ℕ). l ++ (words ++ number)) before
    ∙ sym (append_assoc (old ++ done) words number)
    ∙ ap (λ (l : List ℕ). l ++ number) (append_assoc old done words)
    ∙ append_assoc old (done ++ words) number
