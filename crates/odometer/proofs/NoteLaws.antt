-- The picks that are noted.
use Rattle.std.specs.Prelude.{◌≡◌, ◌<◌, ◌≤◌, ℕ, zero, suc, ◌+◌, nat_le, Bool, true, false, List, [], ◌∷◌, ◌++◌, drop, length, if◌then◌else◌, refl}
use Rattle.std.proofs.Common.{sym, ◌∙◌, ap, arith, length-append, add-one}
use Rattle.std.proofs.lemmas.Bool.{lt-leb}
use Rattle.std.proofs.lemmas.Bool.Decides.{nat_tests}
use Rattle.odometer.specs.Trees.{pick, picked_from}
use Rattle.odometer.specs.GrownLaws.{picks_one}
use Rattle.odometer.specs.declared.picks.Pick.{Pick}

few_none : (n k : ℕ) → n < 2 → picks_one n k [] ≡ []
few_none zero k l = refl
few_none (suc zero) k l = refl
few_none (suc (suc n)) k l = absurd (omega (arith, l))

many_one : (n k : ℕ) → 2 ≤ n → picks_one n k [] ≡ record { picked = k; options = n } ∷ []
many_one zero k l = absurd (omega (arith, l))
many_one (suc zero) k l = absurd (omega (arith, l))
many_one (suc (suc n)) k l = refl

pick_few : (n : ℕ) (ps : List ℕ) → n < 2 → pick n ps ≡ (0, ps)
pick_few n ps l = let e : nat_le n 1 ≡ true = grind (arith, nat_tests) in ap (λ (b : Bool). if b then (0, ps) else picked_from n ps) e

pick_many : (n : ℕ) (ps : List ℕ) → 2 ≤ n → pick n ps ≡ picked_from n ps
pick_many n ps l = ap (λ (b : Bool). if b then (0, ps) else picked_from n ps) (lt-leb n 1 (omega (arith, l)))

later : (n k : ℕ) (xs : List ℕ) → drop (suc k) xs ≡ (picked_from n (drop k xs)).1
later n zero [] = refl
later n zero (x ∷ xs) = refl
later n (suc k) [] = refl
later n (suc k) (x ∷ xs) = later n k xs

nothing_after : (xs : List Pick) → xs ++ [] ≡ xs
nothing_after [] = refl
nothing_after (x ∷ xs) = ap (λ ys. x ∷ ys) (nothing_after xs)

pub none_made : (xs : List Pick) (n k : ℕ) → n < 2 → xs ≡ xs ++ picks_one n k []
none_made xs n k l = sym (ap (λ ys. xs ++ ys) (few_none n k l) ∙ nothing_after xs)

pub none_left : (n : ℕ) (ps : List ℕ) → n < 2 → ps ≡ (pick n ps).1
none_left n ps l = sym (ap (λ (r : ℕ × List ℕ). r.1) (pick_few n ps l))

pub one_made : (xs ys : List Pick) (q : Pick) (n k : ℕ) → 2 ≤ n → q.picked ≡ k → q.options ≡ n → ys ≡ xs ++ q ∷ [] → ys ≡ xs ++ picks_one n k []
one_made xs ys q n k l picked options e =
    e ∙ ap (λ (k : ℕ). xs ++ record { picked = k; options = q.options } ∷ []) picked ∙ ap (λ (n : ℕ). xs ++ record { picked = k; options = n } ∷ []) options ∙ ap (λ ps. xs ++ ps) (sym (many_one n k l))

pub one_left : (xs ys : List Pick) (q : Pick) (n : ℕ) (numbers : List ℕ) → 2 ≤ n → ys ≡ xs ++ q ∷ [] → drop (length ys) numbers ≡ (pick n (drop (length xs) numbers)).1
one_left xs ys q n numbers l e =
    ap (λ (ps : List Pick). drop (length ps) numbers) e ∙ ap (λ m. drop m numbers) (length-append xs (q ∷ []) ∙ add-one (length xs)) ∙ later n (length xs) numbers
    ∙ ap (λ (r : ℕ × List ℕ). r.1) (sym (pick_many n (drop (length xs) numbers) l))

pub ruleset noting = (none_made, none_left, one_made, one_left)
