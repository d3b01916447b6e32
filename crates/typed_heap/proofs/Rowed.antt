-- Rows with all that is kept true of them, when an object is added, taken away or changed.
use Rattle.std.proofs.Common.{◌≡◌, ℕ, zero, suc, ◌+◌, ◌-◌, ◌<◌, ◌≤◌, ◌^◌, Bool, true, false, List, [], ◌∷◌, ◌++◌, length, take, drop, map, Some, slice_get, sym, ap, subst, ◌∙◌, arith}
use Rattle.std.specs.Prelude.{slice_set, slice_range}
use Rattle.std.specs.List.{take-map}
use Rattle.std.proofs.lemmas.List.{length-append, length-map, length-take, map-append, take-append-drop}
use Rattle.std.proofs.lemmas.List.Elements.{All-append, All-take}
use Rattle.type_definitions.specs.declared.definition.TypeDef.{TypeDef}
use Rattle.mu_values.specs.Constants.{width_of}
use Rattle.mu_values.specs.declared.scalars.Scalar.{Scalar}
use Rattle.typed_heap.specs.Objects.{object_of, zeros, replaced, with_filled}
use Rattle.typed_heap.specs.declared.objects.Initial.{Initial}
use Rattle.typed_heap.specs.declared.objects.Extent.{Extent}
use Rattle.typed_heap.specs.Rows.{initial_of, shown, objects_in, firsts, first_by, IsCut, IsKnown, AreOwn, IsRowed, begin, end}
use Rattle.typed_heap.specs.Repeating.{Repeats, AllRepeat}
use Rattle.typed_heap.specs.Lemmas.Rows.{within, range_kept, range_last, pushed, cut_pushed, front, cut_of_front}
use Rattle.typed_heap.specs.Lemmas.Firsts.{zeros_shown, firsts_known}
use Rattle.typed_heap.proofs.Apart.{apart_pushed, apart_front}
use Rattle.typed_heap.specs.Lemmas.Filled.{object_filled}

-- ---- leaves that repeat

repeat_unkept : (from : ℕ) (es : List Extent) (cs ds : List ℕ) → IsCut from es (length cs) → AllRepeat from es (cs ++ ds) → AllRepeat from es cs
repeat_unkept from [] cs ds h r = tt
repeat_unkept from (e ∷ es) cs ds h r = (rw (← range_kept cs ds from e.end h.0 (within e.end es (length cs) h.2)) r.0, repeat_unkept e.end es cs ds h.2 r.1)

repeat_pushed : (from : ℕ) (es : List Extent) (cs ds : List ℕ) (fixed run : ℕ) (dead : Bool) → IsCut from es (length cs) → Repeats fixed run ds → AllRepeat from es cs →
    AllRepeat from (es ++ record { end = length cs + length ds; fixed = fixed; run = run; dead = dead } ∷ []) (cs ++ ds)
repeat_pushed from [] cs ds fixed run dead h again r = (rw (range_last cs ds from h) again, tt)
repeat_pushed from (e ∷ es) cs ds fixed run dead h again r =
    (rw (range_kept cs ds from e.end h.0 (within e.end es (length cs) h.2)) r.0, repeat_pushed e.end es cs ds fixed run dead h.2 again r.1)

repeat_take : (from : ℕ) (es : List Extent) (cs : List ℕ) (k : ℕ) → AllRepeat from es cs → AllRepeat from (take k es) cs
repeat_take from es cs zero r = tt
repeat_take from [] cs (suc k) r = tt
repeat_take from (e ∷ es) cs (suc k) r = (r.0, repeat_take e.end es cs k r.1)

repeat_front : (es : List Extent) (cs : List ℕ) (k n : ℕ) → IsCut 0 es (length cs) → k ≤ length es → n ≡ begin 0 es k → AllRepeat 0 es cs → AllRepeat 0 (take k es) (take n cs)
repeat_front es cs k n h l e r = repeat_unkept 0 (take k es) (take n cs) (drop n cs) (cut_of_front es cs k n h l e) (rw (take-append-drop n cs) (repeat_take 0 es cs k r))

pub repeat_killed : (from : ℕ) (es : List Extent) (cs : List ℕ) (n : ℕ) (e : Extent) → slice_get es n ≡ Some e → AllRepeat from es cs → AllRepeat from (slice_set es n (record e { dead = true })) cs
repeat_killed from [] cs n e f r = tt
repeat_killed from (x ∷ es) cs zero e f r =
    let same : x ≡ e = cc in
    let P = λ (y : Extent). Repeats y.fixed y.run (slice_range cs from y.end) × AllRepeat y.end es cs in
    subst P same r
repeat_killed from (x ∷ es) cs (suc n) e f r = (r.0, repeat_killed x.end es cs n e f r.1)

pub repeats_at : (from : ℕ) (es : List Extent) (cs : List ℕ) (n : ℕ) (e : Extent) → slice_get es n ≡ Some e → AllRepeat from es cs → Repeats e.fixed e.run (slice_range cs (begin from es n) e.end)
repeats_at from [] cs n e f r = cc
repeats_at from (x ∷ es) cs zero e f r =
    let same : x ≡ e = cc in
    let P = λ (y : Extent). Repeats y.fixed y.run (slice_range cs from y.end) in
    subst P same r.0
repeats_at from (x ∷ es) cs (suc zero) e f r = repeats_at x.end es cs zero e f r.1
repeats_at from (x ∷ es) cs (suc (suc n)) e f r = repeats_at x.end es cs (suc n) e f r.1

-- ---- all of it

-- an object more
pub rowed_pushed : (cs : List ℕ) (is : List Initial) (es : List Extent) (many : ℕ) (g : List TypeDef) (ds : List ℕ) (fixed run : ℕ) → IsRowed cs is es many → Repeats fixed run ds → length ds < 2 ^ 32 → length es + 1 < 2 ^ 32 →
    IsRowed (cs ++ ds) (is ++ firsts g ds) (es ++ record { end = length cs + length ds; fixed = fixed; run = run; dead = false } ∷ []) many
rowed_pushed cs is es many g ds fixed run h again small few =
    let both : length (is ++ firsts g ds) ≡ length is + length ds = length-append is (firsts g ds) ∙ ap (λ (n : ℕ). length is + n) (length-map ds (λ c. first_by (width_of (slice_get g c)))) in
    let cells = length-append cs ds in
    record {
      even = omega (arith, both, cells, h.even);
      cut = rw cells (cut_pushed 0 es (length cs) (length ds) fixed run false h.cut small);
      few = rw (length-append es (record { end = length cs + length ds; fixed = fixed; run = run; dead = false } ∷ [])) few;
      known = All-append (IsKnown many) is (firsts g ds) h.known (firsts_known many g ds);
      apart = apart_pushed is g ds h.apart;
      repeats = repeat_pushed 0 es cs ds fixed run false h.cut again h.repeats;
    }

pub shown_pushed : (cs : List ℕ) (is : List Initial) (es : List Extent) (gs : List Scalar) (many : ℕ) (g : List TypeDef) (ds : List ℕ) (fixed run : ℕ) → IsRowed cs is es many →
    shown (es ++ record { end = length cs + length ds; fixed = fixed; run = run; dead = false } ∷ []) (cs ++ ds) (is ++ firsts g ds) gs ≡ shown es cs is gs ++ object_of g ds ∷ []
shown_pushed cs is es gs many g ds fixed run h =
    let ss = map (initial_of gs) is in
    let even : length ss ≡ length cs = length-map is (initial_of gs) ∙ h.even in
    let zero : map (initial_of gs) (firsts g ds) ≡ zeros g ds = zeros_shown gs g ds in
    let zs : length (zeros g ds) ≡ length ds = sym (ap length zero) ∙ length-map (firsts g ds) (initial_of gs) ∙ length-map ds (λ c. first_by (width_of (slice_get g c))) in
    let all : map (initial_of gs) (is ++ firsts g ds) ≡ ss ++ zeros g ds = map-append (initial_of gs) is (firsts g ds) ∙ ap (λ (r : List Scalar). ss ++ r) zero in
    rw all (pushed 0 es cs ds ss (zeros g ds) fixed run false even zs h.cut)

-- the first objects alone
pub rowed_front : (cs : List ℕ) (is : List Initial) (es : List Extent) (many k n : ℕ) → IsRowed cs is es many → k ≤ length es → n ≡ begin 0 es k → IsRowed (take n cs) (take n is) (take k es) many
rowed_front cs is es many k n h l e =
    record {
      even = omega (arith, length-take n cs, length-take n is, h.even);
      cut = cut_of_front es cs k n h.cut l e;
      few = omega (arith, length-take k es, h.few);
      known = All-take (IsKnown many) n is h.known;
      apart = apart_front is n h.apart;
      repeats = repeat_front es cs k n h.cut l e h.repeats;
    }

pub shown_front : (cs : List ℕ) (is : List Initial) (es : List Extent) (gs : List Scalar) (many k n : ℕ) → IsRowed cs is es many → k ≤ length es → n ≡ begin 0 es k →
    shown (take k es) (take n cs) (take n is) gs ≡ take k (shown es cs is gs)
shown_front cs is es gs many k n h l e =
    let ss = map (initial_of gs) is in
    let even : length ss ≡ length cs = length-map is (initial_of gs) ∙ h.even in
    rw (sym (take-map (initial_of gs) n is)) (front es cs ss k n even h.cut l e)

-- cells that were given other scalars
pub rowed_filled : (cs : List ℕ) (is js : List Initial) (es : List Extent) (many more : ℕ) → IsRowed cs is es many → length js ≡ length is → AreOwn js more → IsRowed cs js es more
rowed_filled cs is js es many more h long own =
    record {
      even = long ∙ h.even;
      cut = h.cut;
      few = h.few;
      known = own.known;
      apart = own.apart;
      repeats = h.repeats;
    }

pub shown_filled : (cs : List ℕ) (is js : List Initial) (es : List Extent) (gs hs : List Scalar) (many n at : ℕ) (ss : List Scalar) → IsRowed cs is es many → n < length es → at + length ss ≤ end es n - begin 0 es n →
    map (initial_of hs) js ≡ replaced (map (initial_of gs) is) (begin 0 es n + at) ss → shown es cs js hs ≡ with_filled (shown es cs is gs) n at ss (slice_get (shown es cs is gs) n)
shown_filled cs is js es gs hs many n at ss h l near e =
    let old = map (initial_of gs) is in
    ap (λ (xs : List Scalar). objects_in 0 es cs xs) e ∙ object_filled es cs old n at ss (length-map is (initial_of gs) ∙ h.even) h.cut l near
