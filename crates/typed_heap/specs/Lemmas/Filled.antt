-- Cells from an offset on that begin with other scalars.
use Rattle.std.proofs.Common.{◌≡◌, ℕ, zero, suc, ◌+◌, ◌-◌, ◌<◌, ◌≤◌, List, [], ◌∷◌, ◌++◌, length, take, drop, Option, Some, get_or, slice_get, refl, sym, ap, ◌∙◌, arith, append_assoc, add-zero, add-one}
use Rattle.std.specs.Prelude.{slice_range, slice_set}
use Rattle.std.proofs.lemmas.List.{append-nil, take-append-drop, take_more_set, drop-set-lt, drop_all, length-set, length-take, length-drop}
use Rattle.std.proofs.Math.Seq.{drop-cons}
use Rattle.mu_values.specs.declared.scalars.Scalar.{Scalar}
use Rattle.mu_values.specs.declared.scalars.Scalar.TheVariants.{Null}
use Rattle.typed_heap.specs.Objects.{HeapObject, replaced, filled, with_filled}
use Rattle.typed_heap.specs.declared.objects.Extent.{Extent}
use Rattle.typed_heap.specs.Rows.{objects_in, IsCut, begin, end}
use Rattle.typed_heap.specs.Lemmas.Rows.{part, some_at, object_at, given_at, bounds}

-- ---- a list

pub replaced_nothing : (old : List Scalar) (at : ℕ) → replaced old at [] ≡ old
replaced_nothing old at = rw (append-nil (take at old), add-zero at) (take-append-drop at old)

-- the first is set, and then the others
pub replaced_more : (old : List Scalar) (at : ℕ) (s : Scalar) (ss : List Scalar) → at < length old → replaced (slice_set old at s) (at + 1) ss ≡ replaced old at (s ∷ ss)
replaced_more old at s ss l =
    let far : at < (at + 1) + length ss = omega arith in
    let same : (at + 1) + length ss ≡ at + length (s ∷ ss) = omega arith in
    rw (take_more_set old at s l, drop-set-lt ((at + 1) + length ss) old at s far, same, append_assoc (take at old) (s ∷ []) ss) refl

one_alone : (ss : List Scalar) (d : Scalar) → length ss ≡ 1 → ss ≡ get_or ss 0 d ∷ []
one_alone [] d one = cc
one_alone (s ∷ []) d one = refl
one_alone (s ∷ t ∷ ss) d one = absurd (omega (arith, one))

-- a list of one
pub replaced_one : (old : List Scalar) (at : ℕ) (ss : List Scalar) (d : Scalar) → length ss ≡ 1 → at < length old → replaced old at ss ≡ slice_set old at (get_or ss 0 d)
replaced_one old at ss d one l =
    let s = get_or ss 0 d in
    ap (λ (xs : List Scalar). replaced old at xs) (one_alone ss d one) ∙ sym (replaced_more old at s [] l) ∙ replaced_nothing (slice_set old at s) (at + 1)

put_first : (old : List Scalar) (n : ℕ) (s : Scalar) → n < length old → take n old ++ ((s ∷ []) ++ drop 1 (drop n old)) ≡ slice_set old n s
put_first [] n s l = absurd (omega (arith, l))
put_first (x ∷ old) zero s l = refl
put_first (x ∷ old) (suc n) s l = ap (λ xs. x ∷ xs) (put_first old n s (omega (arith, l)))

-- one that was lent is back
pub put_one : (old ss : List Scalar) (n many : ℕ) (d : Scalar) → many ≡ 1 → length ss ≡ 1 → n < length old → take n old ++ (ss ++ drop many (drop n old)) ≡ slice_set old n (get_or ss 0 d)
put_one old ss n many d e one l =
    ap (λ (k : ℕ). take n old ++ (ss ++ drop k (drop n old))) e
    ∙ ap (λ (xs : List Scalar). take n old ++ (xs ++ drop 1 (drop n old))) (one_alone ss d one)
    ∙ put_first old n (get_or ss 0 d) l

-- the same, where so many of them were set
set_next : (old : List Scalar) (from i : ℕ) (ss : List Scalar) (d : Scalar) → i < length ss → from + i < length old →
    replaced (slice_set old (from + i) (get_or ss i d)) (from + (i + 1)) (drop (i + 1) ss) ≡ replaced old (from + i) (drop i ss)
set_next old from i ss d l m =
    let s = get_or ss i d in
    let turned : from + (i + 1) ≡ (from + i) + 1 = omega arith in
    rw (turned, add-one i) (replaced_more old (from + i) s (drop (suc i) ss) m ∙ ap (λ (xs : List Scalar). replaced old (from + i) xs) (sym (drop-cons ss i d l)))

range_one : (ss : List Scalar) (i : ℕ) (d : Scalar) → i < length ss → slice_range ss i (i + 1) ≡ get_or ss i d ∷ []
range_one ss i d l =
    let many : i + 1 - i ≡ 1 = omega arith in
    ap (λ (n : ℕ). take n (drop i ss)) many ∙ ap (λ (xs : List Scalar). take 1 xs) (drop-cons ss i d l)

pub range_is_one : (ss : List Scalar) (i : ℕ) → i < length ss → length (slice_range ss i (i + 1)) ≡ 1
range_is_one ss i l = ap (λ (xs : List Scalar). length xs) (range_one ss i Null l)

pub replaced_next : (old : List Scalar) (from i : ℕ) (ss : List Scalar) → i < length ss → from + i < length old →
    replaced (replaced old (from + i) (slice_range ss i (i + 1))) (from + (i + 1)) (drop (i + 1) ss) ≡ replaced old (from + i) (drop i ss)
replaced_next old from i ss l m =
    let one = range_one ss i Null l in
    let set : replaced old (from + i) (slice_range ss i (i + 1)) ≡ slice_set old (from + i) (get_or ss i Null) =
    ap (λ (xs : List Scalar). replaced old (from + i) xs) one ∙ replaced_one old (from + i) (get_or ss i Null ∷ []) Null refl m in
    ap (λ (xs : List Scalar). replaced xs (from + (i + 1)) (drop (i + 1) ss)) set ∙ set_next old from i ss Null l m

-- all were set
pub replaced_end : (old all : List Scalar) (from i : ℕ) (ss : List Scalar) → length ss ≤ i → replaced old from (drop i ss) ≡ all → old ≡ all
replaced_end old all from i ss l e = sym (replaced_nothing old from) ∙ ap (λ (xs : List Scalar). replaced old from xs) (sym (drop_all i ss l)) ∙ e

-- ---- the cells of an object

-- one of them begins with another scalar
abbrev given : HeapObject → ℕ → Scalar → HeapObject
given o at s = record o { initial = slice_set o.initial at s }

set_twice : {A : Type 0} (xs : List A) (n : ℕ) (a b : A) → slice_set (slice_set xs n a) n b ≡ slice_set xs n b
set_twice [] n a b = refl
set_twice (x ∷ xs) zero a b = refl
set_twice (x ∷ xs) (suc n) a b = ap (λ ys. x ∷ ys) (set_twice xs n a b)

set_found : {A : Type 0} (xs : List A) (n : ℕ) (x : A) → slice_get xs n ≡ Some x → slice_set xs n x ≡ xs
set_found [] n x e = refl
set_found (y ∷ xs) zero x e = let same : x ≡ y = cc in ap (λ z. z ∷ xs) same
set_found (y ∷ xs) (suc n) x e = ap (λ ys. y ∷ ys) (set_found xs n x e)

get_set : {A : Type 0} (xs : List A) (n : ℕ) (x y : A) → slice_get xs n ≡ Some x → slice_get (slice_set xs n y) n ≡ Some y
get_set [] n x y e = cc
get_set (z ∷ xs) zero x y e = refl
get_set (z ∷ xs) (suc n) x y e = get_set xs n x y e

filled_nothing : (os : List HeapObject) (n at : ℕ) (o : HeapObject) → slice_get os n ≡ Some o → slice_set os n (filled at [] o) ≡ os
filled_nothing os n at o e =
    let same : filled at [] o ≡ o = ap (λ ss. record o { initial = ss }) (replaced_nothing o.initial at) in
    ap (λ (x : HeapObject). slice_set os n x) same ∙ set_found os n o e

filled_more : (os : List HeapObject) (n at : ℕ) (s : Scalar) (ss : List Scalar) (o : HeapObject) → at < length o.initial →
    slice_set (slice_set os n (given o at s)) n (filled (at + 1) ss (given o at s)) ≡ slice_set os n (filled at (s ∷ ss) o)
filled_more os n at s ss o l =
    let same : filled (at + 1) ss (given o at s) ≡ filled at (s ∷ ss) o = ap (λ is. record o { initial = is }) (replaced_more o.initial at s ss l) in
    set_twice os n (given o at s) (filled (at + 1) ss (given o at s)) ∙ ap (λ (x : HeapObject). slice_set os n x) same

-- the cells of an object in a row of all cells
cells_filled : (es : List Extent) (cs : List ℕ) (old : List Scalar) (n at : ℕ) (ss : List Scalar) (e : Extent) (o : HeapObject) → length old ≡ length cs → IsCut 0 es (length cs) → slice_get es n ≡ Some e →
    at + length ss ≤ e.end - begin 0 es n → e.end ≤ length cs → slice_get (objects_in 0 es cs old) n ≡ Some o →
    objects_in 0 es cs (replaced old (begin 0 es n + at) ss) ≡ slice_set (objects_in 0 es cs old) n (filled at ss o)
cells_filled es cs old n at [] e o even h f l m g =
    ap (λ (xs : List Scalar). objects_in 0 es cs xs) (replaced_nothing old (begin 0 es n + at)) ∙ sym (filled_nothing (objects_in 0 es cs old) n at o g)
cells_filled es cs old n at (s ∷ ss) e o even h f l m g =
    let from = begin 0 es n in
    let os = objects_in 0 es cs old in
    let near : at < e.end - from = omega (arith, l) in
    let within : from + at < length old = omega (arith, near, m, even) in
    let is : part cs old from e.end e.dead ≡ o = some_one _ _ (sym (object_at 0 es cs old n e f) ∙ g) in
    let long : length (slice_range old from e.end) ≡ e.end - from = length-take (e.end - from) (drop from old) ∙ omega (arith, length-drop from old, m, even) in
    let same : length (slice_range old from e.end) ≡ length o.initial = ap (λ (x : HeapObject). length x.initial) is in
    let here : at < length o.initial = omega (arith, near, long, same) in
    let one : objects_in 0 es cs (slice_set old (from + at) s) ≡ slice_set os n (given o at s) =
    given_at 0 es cs old (length cs) n e at s h f near ∙ ap (λ (x : HeapObject). slice_set os n (given x at s)) is in
    let turned : (from + at) + 1 ≡ from + (at + 1) = omega arith in
    let there : slice_get (objects_in 0 es cs (slice_set old (from + at) s)) n ≡ Some (given o at s) = ap (λ (xs : List HeapObject). slice_get xs n) one ∙ get_set os n o (given o at s) g in
    let rest : objects_in 0 es cs (replaced (slice_set old (from + at) s) (from + (at + 1)) ss) ≡ slice_set (objects_in 0 es cs (slice_set old (from + at) s)) n (filled (at + 1) ss (given o at s)) =
    cells_filled es cs (slice_set old (from + at) s) n (at + 1) ss e (given o at s) (length-set old (from + at) s ∙ even) h f (omega (arith, l)) m there in
    ap (λ (xs : List Scalar). objects_in 0 es cs xs) (sym (replaced_more old (from + at) s ss within) ∙ ap (λ (k : ℕ). replaced (slice_set old (from + at) s) k ss) turned)
    ∙ rest
    ∙ ap (λ (xs : List HeapObject). slice_set xs n (filled (at + 1) ss (given o at s))) one
    ∙ filled_more os n at s ss o here
  where
    some_one : (x y : HeapObject) → Some x ≡ Some y → x ≡ y
    some_one x y e = cc

pub object_filled : (es : List Extent) (cs : List ℕ) (old : List Scalar) (n at : ℕ) (ss : List Scalar) → length old ≡ length cs → IsCut 0 es (length cs) → n < length es → at + length ss ≤ end es n - begin 0 es n →
    objects_in 0 es cs (replaced old (begin 0 es n + at) ss) ≡ with_filled (objects_in 0 es cs old) n at ss (slice_get (objects_in 0 es cs old) n)
object_filled es cs old n at ss even h l near =
    let x = some_at es n l in
    let far : end es n ≡ x.0.end = rw x.1 refl in
    let low = bounds 0 es (length cs) n h l in
    let there = object_at 0 es cs old n x.0 x.1 in
    cells_filled es cs old n at ss x.0 (part cs old (begin 0 es n) x.0.end x.0.dead) even h x.1 (omega (arith, near, far)) (omega (arith, low.1, far)) there
    ∙ sym (ap (λ (p : Option HeapObject). with_filled (objects_in 0 es cs old) n at ss p) there)
