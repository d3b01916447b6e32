-- Objects in rows: what stands where, and what stays when rows change.
use Rattle.std.proofs.Common.{◌≡◌, ◌⊎◌, inl, inr, zero-add, ℕ, zero, suc, ◌+◌, ◌-◌, ◌<◌, ◌≤◌, ◌^◌, Bool, true, List, [], ◌∷◌, ◌++◌, length, take, drop, map, Some, None, IsSomeAnd, slice_get, slice_index_or, refl, sym, ap, subst, ◌∙◌, arith}
use Rattle.std.specs.Prelude.{min, slice_range, slice_set}
use Rattle.std.proofs.lemmas.List.{length-drop, length-take, take-append-le, drop-append-le, drop_at, take_all, take-append-drop, append_assoc, length-append, take-set-le, drop-set-lt, drop-set-add}
use Rattle.std.proofs.lemmas.Option.{slice_get_within, slice_get_read, slice_get_cases, slice_get_past}
use Rattle.std.proofs.Math.Seq.{take-set-lt}
use Rattle.mu_values.specs.declared.scalars.Scalar.{Scalar}
use Rattle.typed_heap.specs.Objects.{HeapObject}
use Rattle.typed_heap.specs.declared.objects.Extent.{Extent}
use Rattle.typed_heap.specs.declared.objects.Initial.{Initial}
use Rattle.typed_heap.specs.Rows.{RoomyObjects, initial_of, objects_in, shown, IsCut, begin, end, end_of}

pub objects_length : (from : ℕ) (es : List Extent) (cs : List ℕ) (ss : List Scalar) → length (objects_in from es cs ss) ≡ length es
objects_length from [] cs ss = refl
objects_length from (e ∷ es) cs ss = ap suc (objects_length e.end es cs ss)

-- what stands in the rows between two places
abbrev pub part : List ℕ → List Scalar → ℕ → ℕ → Bool → HeapObject
part cs ss from to dead = record { leaves = slice_range cs from to; initial = slice_range ss from to; dead = dead }

pub object_at : (from : ℕ) (es : List Extent) (cs : List ℕ) (ss : List Scalar) (n : ℕ) (e : Extent) → slice_get es n ≡ Some e →
    slice_get (objects_in from es cs ss) n ≡ Some (part cs ss (begin from es n) e.end e.dead)
object_at from [] cs ss n e h = cc
object_at from (x ∷ es) cs ss zero e h = cc
object_at from (x ∷ es) cs ss (suc zero) e h = object_at x.end es cs ss zero e h
object_at from (x ∷ es) cs ss (suc (suc n)) e h = object_at x.end es cs ss (suc n) e h

-- an object that is there
pub some_at : (es : List Extent) (n : ℕ) → n < length es → (e : Extent) × (slice_get es n ≡ Some e)
some_at [] n l = absurd (omega (arith, l))
some_at (x ∷ es) zero l = (x, refl)
some_at (x ∷ es) (suc n) l = some_at es n (omega (arith, l))

pub end_is : (es : List Extent) (n : ℕ) (d : Extent) → n < length es → (slice_index_or es n d).end ≡ end es n
end_is [] n d l = absurd (omega (arith, l))
end_is (x ∷ es) zero d l = refl
end_is (x ∷ es) (suc n) d l = end_is es n d (omega (arith, l))

-- the leaves of an object that is there
pub leaves_at : (es : List Extent) (cs : List ℕ) (ss : List Scalar) (n : ℕ) → n < length es →
    IsSomeAnd (slice_get (objects_in 0 es cs ss) n) (λ o. o.leaves ≡ slice_range cs (begin 0 es n) (end es n))
leaves_at es cs ss n l =
    let h = some_at es n l in
    let e : end es n ≡ h.0.end = rw h.1 refl in
    rw (object_at 0 es cs ss n h.0 h.1, e) refl

range_even : (cs : List ℕ) (ss : List Scalar) (from to : ℕ) → length ss ≡ length cs → length (slice_range ss from to) ≡ length (slice_range cs from to)
range_even cs ss from to e =
    let left : length (drop from ss) ≡ length (drop from cs) = length-drop from ss ∙ ap (λ n. n - from) e ∙ sym (length-drop from cs) in
    length-take (to - from) (drop from ss) ∙ ap (min (to - from)) left ∙ sym (length-take (to - from) (drop from cs))

-- it has one initial scalar for each
pub initials_at : (es : List Extent) (cs : List ℕ) (ss : List Scalar) (n : ℕ) → length ss ≡ length cs → n < length es →
    IsSomeAnd (slice_get (objects_in 0 es cs ss) n) (λ o. length o.initial ≡ length (slice_range cs (begin 0 es n) (end es n)))
initials_at es cs ss n even l =
    let h = some_at es n l in
    let e : end es n ≡ h.0.end = rw h.1 refl in
    rw (object_at 0 es cs ss n h.0 h.1, e) (range_even cs ss (begin 0 es n) h.0.end even)

pub within : (from : ℕ) (es : List Extent) (many : ℕ) → IsCut from es many → from ≤ many
within from [] many h = omega (arith, h)
within from (e ∷ es) many h = let low = within e.end es many h.2 in omega (arith, low, h.0)

pub bounds : (from : ℕ) (es : List Extent) (many n : ℕ) → IsCut from es many → n < length es →
    (begin from es n ≤ end es n) × (end es n ≤ many) × (end es n - begin from es n < 2 ^ 32)
bounds from [] many n h l = absurd (omega (arith, l))
bounds from (x ∷ es) many zero h l = (h.0, within x.end es many h.2, h.1)
bounds from (x ∷ es) many (suc zero) h l = bounds x.end es many zero h.2 (omega (arith, l))
bounds from (x ∷ es) many (suc (suc n)) h l = bounds x.end es many (suc n) h.2 (omega (arith, l))

-- ---- rows that grow

pub range_kept : {A : Type 0} (s v : List A) (from to : ℕ) → from ≤ to → to ≤ length s → slice_range (s ++ v) from to ≡ slice_range s from to
range_kept s v from to l m =
    let far : to - from ≤ length (drop from s) = omega (arith, length-drop from s, m) in
    ap (take (to - from)) (drop-append-le from s v (omega (arith, l, m))) ∙ take-append-le (to - from) (drop from s) v far

pub range_last : {A : Type 0} (s v : List A) (from : ℕ) → from ≡ length s → slice_range (s ++ v) from (length s + length v) ≡ v
range_last s v from h =
    let many : length s + length v - from ≡ length v = omega (arith, h) in
    rw (many, h) (ap (take (length v)) (drop_at s v (length s) refl) ∙ take_all (length v) v (omega arith))

-- what stands behind the last object is none of theirs
pub kept : (from : ℕ) (es : List Extent) (cs ds : List ℕ) (ss ts : List Scalar) → length ss ≡ length cs → IsCut from es (length cs) →
    objects_in from es (cs ++ ds) (ss ++ ts) ≡ objects_in from es cs ss
kept from [] cs ds ss ts l h = refl
kept from (e ∷ es) cs ds ss ts l h =
    let low = within e.end es (length cs) h.2 in
    let leaves = range_kept cs ds from e.end h.0 low in
    let initial = range_kept ss ts from e.end h.0 (omega (arith, low, l)) in
    let rest = kept e.end es cs ds ss ts l h.2 in
    cc

pub pushed : (from : ℕ) (es : List Extent) (cs ds : List ℕ) (ss ts : List Scalar) (fixed run : ℕ) (dead : Bool) → length ss ≡ length cs → length ts ≡ length ds → IsCut from es (length cs) →
    objects_in from (es ++ record { end = length cs + length ds; fixed = fixed; run = run; dead = dead } ∷ []) (cs ++ ds) (ss ++ ts)
    ≡ objects_in from es cs ss ++ record { leaves = ds; initial = ts; dead = dead } ∷ []
pushed from [] cs ds ss ts fixed run dead l m h =
    let leaves = range_last cs ds from h in
    let initial : slice_range (ss ++ ts) from (length ss + length ts) ≡ ts = range_last ss ts from (omega (arith, h, l)) in
    let far : length cs + length ds ≡ length ss + length ts = omega (arith, l, m) in
    cc
pushed from (e ∷ es) cs ds ss ts fixed run dead l m h =
    let low = within e.end es (length cs) h.2 in
    let leaves = range_kept cs ds from e.end h.0 low in
    let initial = range_kept ss ts from e.end h.0 (omega (arith, low, l)) in
    let rest = pushed e.end es cs ds ss ts fixed run dead l m h.2 in
    cc

pub cut_pushed : (from : ℕ) (es : List Extent) (many more fixed run : ℕ) (dead : Bool) → IsCut from es many → more < 2 ^ 32 →
    IsCut from (es ++ record { end = many + more; fixed = fixed; run = run; dead = dead } ∷ []) (many + more)
cut_pushed from [] many more fixed run dead h l = (omega (arith, h), omega (arith, h, l), refl)
cut_pushed from (e ∷ es) many more fixed run dead h l = (h.0, h.1, cut_pushed e.end es many more fixed run dead h.2 l)

-- ---- rows that shrink

cut_front : (from : ℕ) (es : List Extent) (many k : ℕ) → IsCut from es many → k ≤ length es → IsCut from (take k es) (begin from es k) × (begin from es k ≤ many)
cut_front from es many zero h l = (refl, within from es many h)
cut_front from [] many (suc k) h l = absurd (omega (arith, l))
cut_front from (x ∷ es) many (suc zero) h l = ((h.0, h.1, refl), within x.end es many h.2)
cut_front from (x ∷ es) many (suc (suc k)) h l = let rest = cut_front x.end es many (suc k) h.2 (omega (arith, l)) in ((h.0, h.1, rest.0), rest.1)

front_of : (from : ℕ) (es : List Extent) (cs : List ℕ) (ss : List Scalar) (k : ℕ) → take k (objects_in from es cs ss) ≡ objects_in from (take k es) cs ss
front_of from es cs ss zero = refl
front_of from [] cs ss (suc k) = refl
front_of from (x ∷ es) cs ss (suc k) = ap (λ r. part cs ss from x.end x.dead ∷ r) (front_of x.end es cs ss k)

-- the first objects are those of the first cells
pub front : (es : List Extent) (cs : List ℕ) (ss : List Scalar) (k n : ℕ) → length ss ≡ length cs → IsCut 0 es (length cs) → k ≤ length es → n ≡ begin 0 es k →
    objects_in 0 (take k es) (take n cs) (take n ss) ≡ take k (objects_in 0 es cs ss)
front es cs ss k n l h m is =
    let cut = cut_front 0 es (length cs) k h m in
    let fewer : n ≤ length cs = omega (arith, cut.1, is) in
    let leaves : length (take n cs) ≡ n = length-take n cs ∙ omega (arith, fewer) in
    let initial : length (take n ss) ≡ n = length-take n ss ∙ omega (arith, fewer, l) in
    let P : ℕ → Type 0 = λ x. IsCut 0 (take k es) x in
    let here : IsCut 0 (take k es) (length (take n cs)) = subst P (sym (leaves ∙ is)) cut.0 in
    let same = kept 0 (take k es) (take n cs) (drop n cs) (take n ss) (drop n ss) (initial ∙ sym leaves) here in
    sym same ∙ rw (take-append-drop n cs, take-append-drop n ss) (sym (front_of 0 es cs ss k))

pub cut_of_front : (es : List Extent) (cs : List ℕ) (k n : ℕ) → IsCut 0 es (length cs) → k ≤ length es → n ≡ begin 0 es k → IsCut 0 (take k es) (length (take n cs))
cut_of_front es cs k n h m is =
    let cut = cut_front 0 es (length cs) k h m in
    let leaves : length (take n cs) ≡ n = length-take n cs ∙ omega (arith, cut.1, is) in
    let P : ℕ → Type 0 = λ x. IsCut 0 (take k es) x in
    subst P (sym (leaves ∙ is)) cut.0

-- ---- one that changes

pub killed_at : (from : ℕ) (es : List Extent) (cs : List ℕ) (ss : List Scalar) (n : ℕ) (e : Extent) → slice_get es n ≡ Some e →
    objects_in from (slice_set es n (record e { dead = true })) cs ss ≡ slice_set (objects_in from es cs ss) n (part cs ss (begin from es n) e.end true)
killed_at from [] cs ss n e h = cc
killed_at from (x ∷ es) cs ss zero e h = cc
killed_at from (x ∷ es) cs ss (suc zero) e h = ap (λ r. part cs ss from x.end x.dead ∷ r) (killed_at x.end es cs ss zero e h)
killed_at from (x ∷ es) cs ss (suc (suc n)) e h = ap (λ r. part cs ss from x.end x.dead ∷ r) (killed_at x.end es cs ss (suc n) e h)

pub cut_killed : (from : ℕ) (es : List Extent) (many n : ℕ) (e : Extent) (dead : Bool) → slice_get es n ≡ Some e → IsCut from es many → IsCut from (slice_set es n (record e { dead = dead })) many
cut_killed from [] many n e dead f h = h
cut_killed from (x ∷ es) many zero e dead f h =
    let same : x ≡ e = cc in
    let P = λ (y : Extent). (from ≤ y.end) × (y.end - from < 2 ^ 32) × IsCut y.end es many in
    subst P same h
cut_killed from (x ∷ es) many (suc n) e dead f h = (h.0, h.1, cut_killed x.end es many n e dead f h.2)

range_before : (s : List Scalar) (from to k : ℕ) (x : Scalar) → to ≤ k → from ≤ to → slice_range (slice_set s k x) from to ≡ slice_range s from to
range_before s from to k x l m =
    let e : from + (k - from) ≡ k = omega (arith, l, m) in
    let there : drop from (slice_set s (from + (k - from)) x) ≡ slice_set (drop from s) (k - from) x = drop-set-add from s (k - from) x in
    let there2 : drop from (slice_set s k x) ≡ slice_set (drop from s) (k - from) x = rw e at there in
    rw there2 (take-set-le (to - from) (drop from s) (k - from) x (omega (arith, l, m)))

range_after : (s : List Scalar) (from to k : ℕ) (x : Scalar) → k < from → slice_range (slice_set s k x) from to ≡ slice_range s from to
range_after s from to k x l = ap (take (to - from)) (drop-set-lt from s k x l)

range_here : (s : List Scalar) (from to at : ℕ) (x : Scalar) → at < to - from → slice_range (slice_set s (from + at) x) from to ≡ slice_set (slice_range s from to) at x
range_here s from to at x l = rw (drop-set-add from s at x) (take-set-lt (to - from) (drop from s) at x l)

set_before : (from : ℕ) (es : List Extent) (cs : List ℕ) (ss : List Scalar) (many k : ℕ) (x : Scalar) → IsCut from es many → k < from → objects_in from es cs (slice_set ss k x) ≡ objects_in from es cs ss
set_before from [] cs ss many k x h l = refl
set_before from (e ∷ es) cs ss many k x h l =
    let here = range_after ss from e.end k x l in
    let rest = set_before e.end es cs ss many k x h.2 (omega (arith, l, h.0)) in
    cc

-- an object ends behind the first one's begin
after : (from : ℕ) (es : List Extent) (many n : ℕ) → IsCut from es many → n < length es → from ≤ end es n
after from [] many n h l = absurd (omega (arith, l))
after from (x ∷ es) many zero h l = h.0
after from (x ∷ es) many (suc n) h l = let rest = after x.end es many n h.2 (omega (arith, l)) in omega (arith, rest, h.0)

-- an initial scalar is given to a cell of one object
pub given_at : (from : ℕ) (es : List Extent) (cs : List ℕ) (ss : List Scalar) (many n : ℕ) (e : Extent) (at : ℕ) (x : Scalar) → IsCut from es many → slice_get es n ≡ Some e → at < e.end - begin from es n →
    objects_in from es cs (slice_set ss (begin from es n + at) x)
    ≡ slice_set (objects_in from es cs ss) n (record { leaves = slice_range cs (begin from es n) e.end; initial = slice_set (slice_range ss (begin from es n) e.end) at x; dead = e.dead })
given_at from [] cs ss many n e at x h f l = cc
given_at from (y ∷ es) cs ss many zero e at x h f l =
    let same : y ≡ e = cc in
    let far : y.end ≡ e.end = ap (λ (z : Extent). z.end) same in
    let here : slice_range (slice_set ss (from + at) x) from y.end ≡ slice_set (slice_range ss from y.end) at x = range_here ss from y.end at x (omega (arith, l, far)) in
    let rest : objects_in y.end es cs (slice_set ss (from + at) x) ≡ objects_in y.end es cs ss = set_before y.end es cs ss many (from + at) x h.2 (omega (arith, l, far)) in
    cc
given_at from (y ∷ es) cs ss many (suc zero) e at x h f l =
    let here = range_before ss from y.end (y.end + at) x (omega arith) h.0 in
    let rest = given_at y.end es cs ss many zero e at x h.2 f l in
    cc
given_at from (y ∷ es) cs ss many (suc (suc n)) e at x h f l =
    let late : y.end ≤ end_of (slice_get es n) = after y.end es many n h.2 (omega (arith, slice_get_within es (suc n) e f)) in
    let here = range_before ss from y.end (end_of (slice_get es n) + at) x (omega (arith, late)) h.0 in
    let rest = given_at y.end es cs ss many (suc n) e at x h.2 f l in
    cc

-- ---- as contracts see them

slice_get_drop : {A : Type 0} (xs : List A) (k at : ℕ) → slice_get (drop k xs) at ≡ slice_get xs (k + at)
slice_get_drop xs zero at = rw (zero-add at) refl
slice_get_drop [] (suc k) at = refl
slice_get_drop (x ∷ xs) (suc k) at = let e : suc k + at ≡ suc (k + at) = omega arith in rw e (slice_get_drop xs k at)

slice_get_take : {A : Type 0} (xs : List A) (k at : ℕ) → at < k → slice_get (take k xs) at ≡ slice_get xs at
slice_get_take xs zero at l = absurd (omega (arith, l))
slice_get_take [] (suc k) at l = refl
slice_get_take (x ∷ xs) (suc k) zero l = refl
slice_get_take (x ∷ xs) (suc k) (suc at) l = slice_get_take xs k at (omega (arith, l))

pub slice_get_range : {A : Type 0} (xs : List A) (from to at : ℕ) → at < to - from → slice_get (slice_range xs from to) at ≡ slice_get xs (from + at)
slice_get_range xs from to at l = slice_get_take (drop from xs) (to - from) at l ∙ slice_get_drop xs from at

pub counted : (es : List Extent) (cs : List ℕ) (is : List Initial) (given : List Scalar) (spare : ℕ) (v : RoomyObjects) →
    record { objects = shown es cs is given; spare = spare } ≡ v → length v.objects ≡ length es
counted es cs is given spare v e = ap (λ (r : RoomyObjects). length r.objects) (sym e) ∙ objects_length 0 es cs (map (initial_of given) is)

pub seen : (es : List Extent) (cs : List ℕ) (is : List Initial) (given : List Scalar) (spare : ℕ) (v : RoomyObjects) →
    record { objects = shown es cs is given; spare = spare } ≡ v → v.objects ≡ shown es cs is given
seen es cs is given spare v e = ap (λ (r : RoomyObjects). r.objects) (sym e)

pub there : (es : List Extent) (cs : List ℕ) (ss : List Scalar) (n : ℕ) (e : Extent) → n < length es → e ≡ slice_index_or es n e →
    slice_get (objects_in 0 es cs ss) n ≡ Some (part cs ss (begin 0 es n) e.end e.dead)
there es cs ss n e l h = object_at 0 es cs ss n e (slice_get_read es (length es) n e refl l h)

-- cells that are there
pub cells_there : (es : List Extent) (cs : List ℕ) (ss : List Scalar) (n k : ℕ) → IsCut 0 es (length cs) → IsSomeAnd (slice_get (objects_in 0 es cs ss) n) (λ o. k ≤ length o.leaves) →
    (n < length es) × (k ≤ end es n - begin 0 es n)
cells_there es cs ss n k h there = go (slice_get_cases es n).1
  where
    go : ((x : Extent) × (n < length es) × (slice_get es n ≡ Some x) × (slice_index_or es n x ≡ x)) ⊎ ((length es ≤ n) × (slice_get es n ≡ None)) → (n < length es) × (k ≤ end es n - begin 0 es n)
    go (inl (x, l, f, g)) =
        let here : k ≤ length (slice_range cs (begin 0 es n) x.end) = rw (object_at 0 es cs ss n x f) at there in
        let e : end es n ≡ x.end = rw f refl in
        let long = length-take (x.end - begin 0 es n) (drop (begin 0 es n) cs) in
        (l, omega (arith, here, long, e))
    go (inr (l, f)) =
        let none : slice_get (objects_in 0 es cs ss) n ≡ None = slice_get_past (objects_in 0 es cs ss) n (omega (arith, objects_length 0 es cs ss, l)) in
        absurd (rw none at there)

pub cell_there : (es : List Extent) (cs : List ℕ) (ss : List Scalar) (n at : ℕ) → IsCut 0 es (length cs) → IsSomeAnd (slice_get (objects_in 0 es cs ss) n) (λ o. at < length o.leaves) →
    (n < length es) × (at < end es n - begin 0 es n)
cell_there es cs ss n at h there = let both = cells_there es cs ss n (suc at) h there in (both.0, omega (arith, both.1))

-- what it begins with
pub cell_begins : (es : List Extent) (cs : List ℕ) (ss : List Scalar) (n at : ℕ) (s : Scalar) → n < length es → at < end es n - begin 0 es n → slice_get ss (begin 0 es n + at) ≡ Some s →
    IsSomeAnd (slice_get (objects_in 0 es cs ss) n) (λ o. slice_get o.initial at ≡ Some s)
cell_begins es cs ss n at s l m h =
    let x = some_at es n l in
    let e : end es n ≡ x.0.end = rw x.1 refl in
    let near : at < x.0.end - begin 0 es n = omega (arith, m, e) in
    rw (object_at 0 es cs ss n x.0 x.1) (slice_get_range ss (begin 0 es n) x.0.end at near ∙ h)

-- ---- a row that is added to

pub added_tail : (old fixed more whole : List ℕ) (begin : ℕ) → whole ≡ (old ++ fixed) ++ more → begin ≡ length old → slice_range whole begin (length whole) ≡ fixed ++ more
added_tail old fixed more whole begin e f =
    let all : whole ≡ old ++ (fixed ++ more) = e ∙ append_assoc old fixed more in
    let rest : drop begin whole ≡ fixed ++ more = rw (all, f) (drop_at old (fixed ++ more) (length old) refl) in
    let far : length (fixed ++ more) ≤ length whole - begin = omega (arith, ap length all, length-append old (fixed ++ more), f) in
    rw rest (take_all (length whole - begin) (fixed ++ more) far)

-- where it stands
pub cell_within : (es : List Extent) (cs : List ℕ) (ss : List Scalar) (n at : ℕ) → IsCut 0 es (length cs) → IsSomeAnd (slice_get (objects_in 0 es cs ss) n) (λ o. at < length o.leaves) →
    begin 0 es n + at < length cs
cell_within es cs ss n at h there =
    let cell = cell_there es cs ss n at h there in
    let far = bounds 0 es (length cs) n h cell.0 in
    omega (arith, cell.1, far.0, far.1)
