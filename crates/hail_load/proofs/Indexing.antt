-- The parts that indexes lead to, and what stands before them.
use Rattle.std.proofs.Common.{◌≡◌, ℕ, zero, suc, ◌+◌, ◌*◌, ◌<◌, ◌≤◌, List, [], ◌∷◌, ◌++◌, length, map, take, Some, None, Ok, Err, slice_get, refl, sym, ap, ◌∙◌, arith, suc-mul, zero-mul}
use Rattle.std.specs.Prelude.{sum_by, slice_index}
use Rattle.std.proofs.lemmas.List.{take-map, length-map, length-append, take-append-le, take_all}
use Rattle.std.proofs.lemmas.List.Sums.{sum_by-cons}
use Rattle.std.proofs.lemmas.Option.{slice_get-map, slice_get-get_or, slice_get_past}
use Rattle.demands.specs.declared.fault.Fault.TheVariants.{At}
use Rattle.type_definitions.specs.declared.definition.TypeDef.{TypeDef}
use Rattle.type_definitions.specs.Leaves.{times}
use Rattle.typed_heap.specs.Objects.{leaf_classes}
use Rattle.hail_load.specs.declared.fault.LoadKind.TheVariants.{OutOfRange}
use Rattle.hail_load.specs.declared.parts.Part.{Part}
use Rattle.hail_load.specs.declared.parts.Part.TheVariants.{Value}
use Rattle.hail_load.specs.declared.parts.Spot.{Spot}
use Rattle.hail_load.specs.declared.tree.Index.{Index}
use Rattle.hail_load.specs.Parts.{size_of, part_with}
use Rattle.hail_load.specs.PartsSoFar.{field_spot}

field_there : (fields : List ℕ) (n : ℕ) → n < length fields → slice_get (map Value fields) n ≡ Some (Value (slice_index fields n))
field_there fields n l = slice_get-map Value fields n ∙ rw (slice_get-get_or fields n 0 l) refl

get_left : (xs ys : List Part) (n : ℕ) → n < length xs → slice_get (xs ++ ys) n ≡ slice_get xs n
get_left [] ys n l = absurd (omega (arith, l))
get_left (x ∷ xs) ys zero l = refl
get_left (x ∷ xs) ys (suc n) l = get_left xs ys n (omega (arith, l))

get_last : (xs : List Part) (p : Part) (n : ℕ) → n ≡ length xs → slice_get (xs ++ p ∷ []) n ≡ Some p
get_last [] p n e = rw e refl
get_last (x ∷ xs) p zero e = absurd (omega (arith, e))
get_last (x ∷ xs) p (suc n) e = get_last xs p n (omega (arith, e))

-- ---- fields

found_there : (g : List TypeDef) (s : Spot) (ps : List Part) (i : Index) (p : Part) (sum : ℕ) → slice_get ps i.number.number.magnitude ≡ Some p → sum_by (size_of g) (take i.number.number.magnitude ps) ≡ sum →
    part_with g s ps i (slice_get ps i.number.number.magnitude) ≡ Ok (record { object = s.object; at = s.at + sum; part = p })
found_there g s ps i p sum there e = rw (there, e) refl

pub struct_there : (g : List TypeDef) (s : Spot) (fields : List ℕ) (i : Index) → i.number.number.magnitude < length fields →
    part_with g s (map Value fields) i (slice_get (map Value fields) i.number.number.magnitude) ≡ Ok (field_spot g s fields i.number.number.magnitude)
struct_there g s fields i l =
    let n = i.number.number.magnitude in
    found_there g s (map Value fields) i (Value (slice_index fields n)) (sum_by (size_of g) (map Value (take n fields))) (field_there fields n l) (ap (λ (ps : List Part). sum_by (size_of g) ps) (take-map Value n fields))

pub struct_past : (g : List TypeDef) (s : Spot) (fields : List ℕ) (i : Index) → length fields ≤ i.number.number.magnitude →
    part_with g s (map Value fields) i (slice_get (map Value fields) i.number.number.magnitude) ≡ Err (At OutOfRange i.number.place)
struct_past g s fields i l =
    let past : length (map Value fields) ≤ i.number.number.magnitude = omega (arith, l, length-map fields Value) in
    rw (slice_get_past (map Value fields) i.number.number.magnitude past) refl

pub ruleset fields = (struct_there, struct_past)

-- ---- elements

times_there : (many n : ℕ) (p : Part) → n < many → slice_get (times many (p ∷ [])) n ≡ Some p
times_there zero n p l = absurd (omega (arith, l))
times_there (suc many) zero p l = refl
times_there (suc many) (suc n) p l = times_there many n p (omega (arith, l))

times_past : (many n : ℕ) (p : Part) → many ≤ n → slice_get (times many (p ∷ [])) n ≡ None
times_past zero n p l = refl
times_past (suc many) zero p l = absurd (omega (arith, l))
times_past (suc many) (suc n) p l = times_past many n p (omega (arith, l))

times_before : (g : List TypeDef) (many n : ℕ) (p : Part) → n ≤ many → sum_by (size_of g) (take n (times many (p ∷ []))) ≡ n * size_of g p
times_before g many zero p l = sym (zero-mul (size_of g p))
times_before g zero (suc n) p l = absurd (omega (arith, l))
times_before g (suc many) (suc n) p l =
    let more = times_before g many n p (omega (arith, l)) in
    sum_by-cons (size_of g) p (take n (times many (p ∷ []))) ∙ omega (arith, more, suc-mul n (size_of g p))

pub element_there : (g : List TypeDef) (s : Spot) (t many : ℕ) (i : Index) → i.number.number.magnitude < many →
    part_with g s (times many (Value t ∷ [])) i (slice_get (times many (Value t ∷ [])) i.number.number.magnitude) ≡ Ok (record { object = s.object; at = s.at + i.number.number.magnitude * length (leaf_classes g t); part = Value t })
element_there g s t many i l =
    let n = i.number.number.magnitude in
    found_there g s (times many (Value t ∷ [])) i (Value t) (n * length (leaf_classes g t)) (times_there many n (Value t) l) (times_before g many n (Value t) (omega (arith, l)))

pub element_past : (g : List TypeDef) (s : Spot) (t many : ℕ) (i : Index) → many ≤ i.number.number.magnitude →
    part_with g s (times many (Value t ∷ [])) i (slice_get (times many (Value t ∷ [])) i.number.number.magnitude) ≡ Err (At OutOfRange i.number.place)
element_past g s t many i l = rw (times_past many i.number.number.magnitude (Value t) l) refl

pub ruleset elements = (element_there, element_past)

-- ---- hybrids

pub fixed_there : (g : List TypeDef) (s : Spot) (fixed : List ℕ) (last : Part) (i : Index) → i.number.number.magnitude < length fixed →
    part_with g s (map Value fixed ++ last ∷ []) i (slice_get (map Value fixed ++ last ∷ []) i.number.number.magnitude) ≡ Ok (field_spot g s fixed i.number.number.magnitude)
fixed_there g s fixed last i l =
    let n = i.number.number.magnitude in
    let many : length (map Value fixed) ≡ length fixed = length-map fixed Value in
    let within : n < length (map Value fixed) = omega (arith, many, l) in
    let near : n ≤ length (map Value fixed) = omega (arith, within) in
    found_there g s (map Value fixed ++ last ∷ []) i (Value (slice_index fixed n)) (sum_by (size_of g) (map Value (take n fixed)))
    (get_left (map Value fixed) (last ∷ []) n within ∙ field_there fixed n l)
    (ap (λ (ps : List Part). sum_by (size_of g) ps) (take-append-le n (map Value fixed) (last ∷ []) near ∙ take-map Value n fixed))

pub last_there : (g : List TypeDef) (s : Spot) (fixed : List ℕ) (last : Part) (i : Index) → i.number.number.magnitude ≡ length fixed →
    part_with g s (map Value fixed ++ last ∷ []) i (slice_get (map Value fixed ++ last ∷ []) i.number.number.magnitude) ≡ Ok (record { object = s.object; at = s.at + sum_by (size_of g) (map Value fixed); part = last })
last_there g s fixed last i e =
    let n = i.number.number.magnitude in
    let many : length (map Value fixed) ≡ length fixed = length-map fixed Value in
    let near : n ≤ length (map Value fixed) = omega (arith, many, e) in
    let all : n ≡ length (map Value fixed) = omega (arith, many, e) in
    found_there g s (map Value fixed ++ last ∷ []) i last (sum_by (size_of g) (map Value fixed)) (get_last (map Value fixed) last n all)
    (ap (λ (ps : List Part). sum_by (size_of g) ps) (take-append-le n (map Value fixed) (last ∷ []) near ∙ take_all n (map Value fixed) (omega (arith, all))))

pub hybrid_past : (g : List TypeDef) (s : Spot) (fixed : List ℕ) (last : Part) (i : Index) → length fixed < i.number.number.magnitude →
    part_with g s (map Value fixed ++ last ∷ []) i (slice_get (map Value fixed ++ last ∷ []) i.number.number.magnitude) ≡ Err (At OutOfRange i.number.place)
hybrid_past g s fixed last i l =
    let past : length (map Value fixed ++ last ∷ []) ≤ i.number.number.magnitude = omega (arith, l, length-append (map Value fixed) (last ∷ []), length-map fixed Value) in
    rw (slice_get_past (map Value fixed ++ last ∷ []) i.number.number.magnitude past) refl

pub ruleset hybrids = (fixed_there, last_there, hybrid_past)
