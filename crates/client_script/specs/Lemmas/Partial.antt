-- Laws of lists of parts that may not be there.
use Rattle.std.specs.Prelude.{◌≡◌, ℕ, zero, suc, ◌+◌, ◌<◌, ◌≤◌, List, [], ◌∷◌, ◌++◌, length, Option, Some, None, map, slice_index_or, drop, zip, refl}
use Rattle.std.specs.List.{Contains}
use Rattle.std.proofs.Common.{sym, ◌∙◌, ap, append_assoc, arith, add-one}
use Rattle.std.proofs.lemmas.List.{append-nil}
use Rattle.std.proofs.Math.Seq.{drop-cons}
use Rattle.mu_values.specs.declared.scalars.Scalar.{Scalar}
use Rattle.mu_values.specs.Slots.{TypedValues}
use Rattle.typed_heap.specs.Places.{with_some}
use Rattle.mu_model.specs.Clients.{Classed}
use Rattle.mu_model.specs.Operands.{all_some}
use Rattle.mu_model.specs.Answers.{typed}

-- ---- what is there

pub there : {A B : Type 0} (o : Option A) (f : A → Option B) (b : B) → with_some o f ≡ Some b → (a : A) × (o ≡ Some a) × (f a ≡ Some b)
there None f b h = cc
there (Some a) f b h = (a, refl, h)

-- ---- parts behind those that are made

abbrev pub behind : {A : Type 0} → List A → Option (List A) → Option (List A)
behind made rest = with_some rest (λ more. Some (made ++ more))

pub behind_nothing : {A : Type 0} (rest : Option (List A)) → rest ≡ behind [] rest
behind_nothing None = refl
behind_nothing (Some more) = refl

pub behind_one : {A : Type 0} (made : List A) (a : A) (rest : Option (List A)) → behind made (with_some rest (λ more. Some (a ∷ more))) ≡ behind (made ++ a ∷ []) rest
behind_one made a None = refl
behind_one made a (Some more) = ap Some (sym (append_assoc made (a ∷ []) more))

pub next_made : {A B : Type 0} (f : A → Option B) (xs : List A) (n : ℕ) (d : A) (made : List B) (b : B) (total : Option (List B)) → n < length xs → f (slice_index_or xs n d) ≡ Some b
    → total ≡ behind made (all_some (map f (drop n xs))) → total ≡ behind (made ++ b ∷ []) (all_some (map f (drop (n + 1) xs)))
next_made f xs n d made b total low is so =
    rw add-one (so ∙ ap (λ ys. behind made (all_some (map f ys))) (drop-cons xs n d low)
    ∙ ap (λ o. behind made (with_some o (λ a. with_some (all_some (map f (drop (suc n) xs))) (λ more. Some (a ∷ more))))) is
    ∙ behind_one made b (all_some (map f (drop (suc n) xs))))

pub next_missing : {A B : Type 0} (f : A → Option B) (xs : List A) (n : ℕ) (d : A) (made : List B) (total : Option (List B)) → n < length xs → f (slice_index_or xs n d) ≡ None
    → total ≡ behind made (all_some (map f (drop n xs))) → total ≡ None
next_missing f xs n d made total low is so =
    so ∙ ap (λ ys. behind made (all_some (map f ys))) (drop-cons xs n d low)
    ∙ ap (λ o. behind made (with_some o (λ a. with_some (all_some (map f (drop (suc n) xs))) (λ more. Some (a ∷ more))))) is

pub drop_over : {A : Type 0} (xs : List A) (n : ℕ) → length xs ≤ n → drop n xs ≡ []
drop_over [] zero h = refl
drop_over [] (suc n) h = refl
drop_over (x ∷ xs) zero h = absurd (omega (arith, h))
drop_over (x ∷ xs) (suc n) h = drop_over xs n (omega (arith, h))

all_made : {A B : Type 0} (f : A → Option B) (xs : List A) (n : ℕ) (made : List B) (total : Option (List B)) → length xs ≤ n → total ≡ behind made (all_some (map f (drop n xs))) → total ≡ Some made
all_made f xs n made total over so = so ∙ ap (λ ys. behind made (all_some (map f ys))) (drop_over xs n over) ∙ ap Some (append-nil made)

pub maps_twice : {A B C : Type 0} (f : B → C) (g : A → B) (xs : List A) → map f (map g xs) ≡ map (λ x. f (g x)) xs
maps_twice f g [] = refl
maps_twice f g (x ∷ xs) = ap (λ ys. f (g x) ∷ ys) (maps_twice f g xs)

-- ---- values with their types

pub zip_one : {A B : Type 0} (xs : List A) (ys : List B) (x : A) (y : B) → length xs ≡ length ys → zip (xs ++ x ∷ []) (ys ++ y ∷ []) ≡ zip xs ys ++ (x, y) ∷ []
zip_one [] [] x y e = refl
zip_one [] (b ∷ ys) x y e = cc
zip_one (a ∷ xs) [] x y e = cc
zip_one (a ∷ xs) (b ∷ ys) x y e = ap (λ zs. (a, b) ∷ zs) (zip_one xs ys x y (omega (arith, e)))

types_again : (ts : List ℕ) (vs : List (List Scalar)) → length ts ≡ length vs → map (λ (v : Classed). v.0) (zip ts vs) ≡ ts
types_again [] [] e = refl
types_again [] (v ∷ vs) e = cc
types_again (t ∷ ts) [] e = cc
types_again (t ∷ ts) (v ∷ vs) e = ap (λ zs. t ∷ zs) (types_again ts vs (omega (arith, e)))

values_again : (ts : List ℕ) (vs : List (List Scalar)) → length ts ≡ length vs → map (λ (v : Classed). v.1) (zip ts vs) ≡ vs
values_again [] [] e = refl
values_again [] (v ∷ vs) e = cc
values_again (t ∷ ts) [] e = cc
values_again (t ∷ ts) (v ∷ vs) e = ap (λ zs. v ∷ zs) (values_again ts vs (omega (arith, e)))

pub typed_again : (x : TypedValues) → length x.types ≡ length x.values → typed (zip x.types x.values) ≡ x
typed_again x e = rw (types_again x.types x.values e, values_again x.types x.values e) refl

length_one : {A B : Type 0} (xs : List A) (ys : List B) (x : A) (y : B) → length xs ≡ length ys → length (xs ++ x ∷ []) ≡ length (ys ++ y ∷ [])
length_one [] [] x y e = refl
length_one [] (b ∷ ys) x y e = cc
length_one (a ∷ xs) [] x y e = cc
length_one (a ∷ xs) (b ∷ ys) x y e = ap suc (length_one xs ys x y (omega (arith, e)))

-- ---- members

pub in_head : {A : Type 0} (x : A) (xs : List A) → Contains (x ∷ xs) x
in_head x xs = (zero, omega arith, refl)

pub in_first : {A : Type 0} (xs ys : List A) (x : A) → Contains xs x → Contains (xs ++ ys) x
in_first [] ys x (k, low, is) = absurd (omega (arith, low))
in_first (a ∷ xs) ys x (zero, low, is) = (zero, omega arith, is)
in_first (a ∷ xs) ys x (suc k, low, is) = let r = in_first xs ys x (k, omega (arith, low), is) in (suc r.0, omega (arith, r.1), r.2)

pub in_second : {A : Type 0} (xs ys : List A) (x : A) → Contains ys x → Contains (xs ++ ys) x
in_second [] ys x c = c
in_second (a ∷ xs) ys x c = let r = in_second xs ys x c in (suc r.0, omega (arith, r.1), r.2)

-- ---- the values of arguments, one by one

-- those of all arguments are the values so far, and those of the rest
abbrev pub Progress : {A B : Type 0} → (B → Option Classed) → (A → B) → List A → List A → List ℕ → List (List Scalar) → Type 0
Progress f m xs rest ts vs = (all_some (map f (map m xs)) ≡ behind (zip ts vs) (all_some (map (λ x. f (m x)) rest))) × (length ts ≡ length vs)

pub begun : {A B : Type 0} (f : B → Option Classed) (m : A → B) (xs : List A) (ts : List ℕ) (vs : List (List Scalar)) → ts ≡ [] → vs ≡ [] → Progress f m xs xs ts vs
begun f m xs ts vs none nothing = rw (none, nothing) (ap all_some (maps_twice f m xs) ∙ behind_nothing (all_some (map (λ x. f (m x)) xs)), refl)

pub goes_on : {A B : Type 0} (f : B → Option Classed) (m : A → B) (xs : List A) (n : ℕ) (d : A) (v : Classed) (ts us : List ℕ) (vs ws : List (List Scalar)) → n < length xs → f (m (slice_index_or xs n d)) ≡ Some v
    → us ≡ ts ++ v.0 ∷ [] → ws ≡ vs ++ v.1 ∷ [] → Progress f m xs (drop n xs) ts vs → Progress f m xs (drop (n + 1) xs) us ws
goes_on f m xs n d v ts us vs ws low is one other so =
    rw (one, other) (
      next_made (λ x. f (m x)) xs n d (zip ts vs) v _ low is so.0 ∙ ap (λ zs. behind zs (all_some (map (λ x. f (m x)) (drop (n + 1) xs)))) (sym (zip_one ts vs v.0 v.1 so.1)),
      length_one ts vs v.0 v.1 so.1,
    )

pub stops : {A B : Type 0} (f : B → Option Classed) (m : A → B) (xs : List A) (n : ℕ) (d : A) (ts : List ℕ) (vs : List (List Scalar)) → n < length xs → f (m (slice_index_or xs n d)) ≡ None → Progress f m xs (drop n xs) ts vs
    → with_some (all_some (map f (map m xs))) (λ ws. Some (typed ws)) ≡ None
stops f m xs n d ts vs low is so = ap (λ o. with_some o (λ ws. Some (typed ws))) (next_missing (λ x. f (m x)) xs n d (zip ts vs) _ low is so.0)

pub is_done : {A B : Type 0} (f : B → Option Classed) (m : A → B) (xs : List A) (n : ℕ) (x : TypedValues) (ts : List ℕ) (vs : List (List Scalar)) → length xs ≤ n → x.types ≡ ts → x.values ≡ vs → Progress f m xs (drop n xs) ts vs
    → with_some (all_some (map f (map m xs))) (λ ws. Some (typed ws)) ≡ Some x
is_done f m xs n x ts vs over one other so =
    let whole : all_some (map f (map m xs)) ≡ Some (zip ts vs) = all_made (λ y. f (m y)) xs n (zip ts vs) _ over so.0 in
    let again : typed (zip ts vs) ≡ record { types = ts; values = vs } = typed_again (record { types = ts; values = vs }) so.1 in
    let same : record { types = ts; values = vs } ≡ x = rw (sym one, sym other) refl in
    ap (λ o. with_some o (λ ws. Some (typed ws))) whole ∙ ap Some (again ∙ same)

-- ---- what is left

next_left : {A B : Type 0} (f : A → B) (xs : List A) (n : ℕ) → map f (drop (suc n) xs) ≡ drop 1 (map f (drop n xs))
next_left f [] zero = refl
next_left f [] (suc n) = refl
next_left f (x ∷ xs) zero = refl
next_left f (x ∷ xs) (suc n) = next_left f xs n

pub one_spent : {A B : Type 0} (f : A → B) (xs : List A) (n : ℕ) → map f (drop (n + 1) xs) ≡ drop 1 (map f (drop n xs))
one_spent f xs n = rw add-one (next_left f xs n)
