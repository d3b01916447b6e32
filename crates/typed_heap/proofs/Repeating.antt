-- Leaves that repeat: few of them tell whether all are whole runs.
use Rattle.std.proofs.Common.{◌≡◌, ◌⊎◌, inl, inr, ℕ, zero, suc, ◌+◌, ◌-◌, ◌*◌, ◌/◌, ◌%◌, ◌<◌, ◌≤◌, min, Bool, true, List, [], ◌∷◌, ◌++◌, length, take, drop, refl, sym, ap, subst, ◌∙◌, arith, Decides}
use Rattle.std.specs.Prelude.{slice_index, slice_range}
use Rattle.std.proofs.lemmas.Bool.{cases_lt}
use Rattle.std.proofs.lemmas.Bool.Decides.{same_from_decides}
use Rattle.std.proofs.lemmas.List.{length-append, length-take, length-drop, get_or-append_right, get_or-take, get_or-drop, ext_get_or}
use Rattle.std.proofs.Math.Nat.{mod-lt, mod-eq_of_lt, mod-eq-sub-mod, mod-add-div', add-mul-mod_self_right, add-mod_right}
use Rattle.type_definitions.specs.Leaves.{times}
use Rattle.typed_heap.specs.Fits.{begins, are_runs}
use Rattle.typed_heap.specs.Repeating.{Repeats, Enough}
use Rattle.typed_heap.specs.Lemmas.Runs.{AreRuns, runs_decide, whole_long, times_at, times_length, begun}

-- the first leaves that are looked at are enough, and one run at least
pub record Looks (found : List ℕ) (many fixed step known : ℕ) : Type 0 where
  pub long : many ≤ known
  pub enough : Enough found many fixed step known

pub whole_looks : (found : List ℕ) (many fixed step known : ℕ) → Repeats fixed step found → many ≤ length found → step % many ≡ 0 → min (length found) (fixed + step) ≤ known → Looks found many fixed step known
whole_looks found many fixed step known repeats long whole own = record { long = go (cases_lt fixed (length found)); enough = record { own = own; whole = inl whole } }
  where
    go : (fixed < length found) ⊎ (length found ≤ fixed) → many ≤ known
    go (inl l) = let far = whole_long step many (repeats.some l) whole (cases_lt step many) in omega (arith, far, own, long)
    go (inr l) = omega (arith, l, own, long)

-- what is known of leaves `found` that repeat, and whose first `known` are those of runs of `run`
record Known (run found : List ℕ) (fixed step known : ℕ) : Type 0 where
  some : 0 < length run
  repeats : Repeats fixed step found
  enough : Enough found (length run) fixed step known
  first : (k : ℕ) → k < known → k < length found → slice_index found k ≡ slice_index run (k % length run)

-- a place far behind, by its distance from the beginning of the second run
far_place : (run found : List ℕ) (fixed step known a q : ℕ) → Known run found fixed step known → a < length run → fixed + step + a + q * length run < length found → fixed + step + length run ≤ known →
    slice_index found (fixed + a + q * length run) ≡ slice_index run ((fixed + a + q * length run) % length run) →
    slice_index found (fixed + step + a + q * length run) ≡ slice_index run ((fixed + step + a + q * length run) % length run)
far_place run found fixed step known a q h low within enough before =
    let m = length run in
    let here : slice_index found (fixed + a + q * m) ≡ slice_index found (fixed + a + q * m + step) = h.repeats.again (fixed + a + q * m) (omega arith) (omega arith) in
    let moved : fixed + a + q * m + step ≡ fixed + step + a + q * m = omega arith in
    let late : slice_index found (fixed + step + a) ≡ slice_index run ((fixed + step + a) % m) = h.first (fixed + step + a) (omega arith) (omega arith) in
    let early : slice_index found (fixed + a) ≡ slice_index run ((fixed + a) % m) = h.first (fixed + a) (omega arith) (omega arith) in
    let one : slice_index found (fixed + a) ≡ slice_index found (fixed + a + step) = h.repeats.again (fixed + a) (omega arith) (omega arith) in
    let swapped : fixed + a + step ≡ fixed + step + a = omega arith in
    let late_mod : (fixed + step + a + q * m) % m ≡ (fixed + step + a) % m = add-mul-mod_self_right (fixed + step + a) q m in
    let early_mod : (fixed + a + q * m) % m ≡ (fixed + a) % m = add-mul-mod_self_right (fixed + a) q m in
    sym (ap (λ (k : ℕ). slice_index found k) moved) ∙ sym here ∙ before ∙ ap (λ (k : ℕ). slice_index run k) early_mod ∙ sym early ∙ one
    ∙ ap (λ (k : ℕ). slice_index found k) swapped ∙ late ∙ sym (ap (λ (k : ℕ). slice_index run k) late_mod)

-- a place behind those that are known, where the leaves repeat by whole runs of the others
whole_place : (run found : List ℕ) (fixed step k : ℕ) → Repeats fixed step found → step % length run ≡ 0 → fixed + step ≤ k → k < length found →
    slice_index found (k - step) ≡ slice_index run ((k - step) % length run) → slice_index found k ≡ slice_index run (k % length run)
whole_place run found fixed step k repeats whole late within before =
    let m = length run in
    let q = step / m in
    let sum : step % m + q * m ≡ step = mod-add-div' step m in
    let parts : q * m ≡ step = omega (arith, sum, whole) in
    let e : k - step + q * m ≡ k = omega (arith, parts, late) in
    let moved : k - step + step ≡ k = omega (arith, late) in
    let here : slice_index found (k - step) ≡ slice_index found (k - step + step) = repeats.again (k - step) (omega arith) (omega arith) in
    let same : (k - step + q * m) % m ≡ (k - step) % m = add-mul-mod_self_right (k - step) q m in
    sym (ap (λ (j : ℕ). slice_index found j) moved) ∙ sym here ∙ before ∙ ap (λ (j : ℕ). slice_index run j) (sym same ∙ ap (λ (j : ℕ). j % m) e)

-- a place behind those that are known, where the places before it are told
told_next : (run found : List ℕ) (fixed step known k : ℕ) → Known run found fixed step known → known ≤ k → k < length found →
    ((j : ℕ) → j < k → slice_index found j ≡ slice_index run (j % length run)) → slice_index found k ≡ slice_index run (k % length run)
told_next run found fixed step known k h late within before = go h.enough.whole
  where
    far : fixed + step ≤ k
    far = omega (arith, h.enough.own, late, within)

    some : 0 < step
    some = h.repeats.some (omega (arith, h.enough.own, late, within))

    go : (step % length run ≡ 0) ⊎ (min (length found) (fixed + step + length run) ≤ known) → slice_index found k ≡ slice_index run (k % length run)
    go (inl whole) = whole_place run found fixed step k h.repeats whole far within (before (k - step) (omega (arith, some, far)))
    go (inr more) =
        let m = length run in
        let enough : fixed + step + m ≤ known = omega (arith, more, late, within) in
        let rest = k - (fixed + step) in
        let a = rest % m in
        let q = rest / m in
        let parts : a + q * m ≡ rest = mod-add-div' rest m in
        let low : a < m = mod-lt rest h.some in
        let e : fixed + step + a + q * m ≡ k = omega (arith, parts, far) in
        let less : fixed + a + q * m < k = omega (arith, e, some) in
        let told = far_place run found fixed step known a q h low (omega (arith, e)) enough (before (fixed + a + q * m) less) in
        let P : ℕ → Type 0 = λ n. slice_index found n ≡ slice_index run (n % m) in
        subst P e told

told_by : (run found : List ℕ) (fixed step known k : ℕ) → Known run found fixed step known → k < length found →
    ((j : ℕ) → j < k → j < length found → slice_index found j ≡ slice_index run (j % length run)) → (k < known) ⊎ (known ≤ k) → slice_index found k ≡ slice_index run (k % length run)
told_by run found fixed step known k h within before (inl l) = h.first k l within
told_by run found fixed step known k h within before (inr l) = told_next run found fixed step known k h l within (λ j m. before j m (omega arith))

told_to : (run found : List ℕ) (fixed step known n : ℕ) → Known run found fixed step known → (k : ℕ) → k < n → k < length found → slice_index found k ≡ slice_index run (k % length run)
told_to run found fixed step known zero h k l within = absurd (omega (arith, l))
told_to run found fixed step known (suc n) h k l within =
    told_by run found fixed step known k h within (λ j m w. told_to run found fixed step known n h j (omega arith) w) (cases_lt k known)

-- ---- the leaves that are compared: the first run, and each one behind it up to `known` with the one that stands a run before it

range_at : (xs : List ℕ) (from to i : ℕ) → from + i < to → slice_index (slice_range xs from to) i ≡ slice_index xs (from + i)
range_at xs from to i l = get_or-take (to - from) (drop from xs) i 0 (omega (arith, l)) ∙ get_or-drop from xs i 0

-- one of the first leaves, where they are the same and those before it are told
told_back : (run found : List ℕ) (known k : ℕ) → begins run found ≡ true → slice_range found (length run) known ≡ take (known - length run) found → 0 < length run → k < known →
    ((j : ℕ) → j < k → slice_index found j ≡ slice_index run (j % length run)) → (k < length run) ⊎ (length run ≤ k) → slice_index found k ≡ slice_index run (k % length run)
told_back run found known k b e some l before (inl low) = begun run found b k low ∙ ap (λ (j : ℕ). slice_index run j) (sym (mod-eq_of_lt low))
told_back run found known k b e some l before (inr high) =
    let i = k - length run in
    let at : length run + i ≡ k = omega (arith, high) in
    sym (ap (λ (j : ℕ). slice_index found j) at)
    ∙ sym (range_at found (length run) known i (omega (arith, at, l)))
    ∙ ap (λ (xs : List ℕ). slice_index xs i) e
    ∙ get_or-take (known - length run) found i 0 (omega (arith, high, l))
    ∙ before i (omega (arith, some, high))
    ∙ ap (λ (j : ℕ). slice_index run j) (sym (mod-eq-sub-mod high))

same_told : (run found : List ℕ) (known n : ℕ) → begins run found ≡ true → slice_range found (length run) known ≡ take (known - length run) found → 0 < length run → (k : ℕ) → k < n → k < known →
    slice_index found k ≡ slice_index run (k % length run)
same_told run found known zero b e some k l m = absurd (omega (arith, l))
same_told run found known (suc n) b e some k l m =
    told_back run found known k b e some m (λ j x. same_told run found known n b e some j (omega (arith, l, x)) (omega (arith, m, x))) (cases_lt k (length run))

-- they are the same where all are whole runs
runs_same : (run found : List ℕ) (known : ℕ) → known ≤ length found → length run ≤ known → AreRuns run found → slice_range found (length run) known ≡ take (known - length run) found
runs_same run found known within long h =
    let m = length run in
    let left : length (slice_range found m known) ≡ known - m = length-take (known - m) (drop m found) ∙ omega (arith, length-drop m found, within) in
    let right : length (take (known - m) found) ≡ known - m = length-take (known - m) found ∙ omega (arith, within) in
    ext_get_or 0 (slice_range found m known) (take (known - m) found) (left ∙ sym right)
    (λ i l. (let low : i < known - m = omega (arith, l, left) in
    let turned : m + i ≡ i + m = omega arith in
    range_at found m known i (omega (arith, low))
    ∙ h.each (m + i) (omega (arith, low, within))
    ∙ ap (λ (j : ℕ). slice_index run j) (ap (λ (j : ℕ). j % m) turned ∙ add-mod_right i m)
    ∙ sym (h.each i (omega (arith, low, within)))
    ∙ sym (get_or-take (known - m) found i 0 low)))

-- comparing them tells whether all are whole runs
pub same_tells : (run found : List ℕ) (fixed step known : ℕ) (same : Bool) → 0 < length run → length found % length run ≡ 0 → Repeats fixed step found → begins run found ≡ true → length run ≤ known → known ≤ length found →
    Enough found (length run) fixed step known → Decides same (slice_range found (length run) known ≡ take (known - length run) found) → same ≡ are_runs run found
same_tells run found fixed step known same some whole repeats b long within enough decides =
    let first = λ (e : slice_range found (length run) known ≡ take (known - length run) found) (k : ℕ) (l : k < known) (m : k < length found). same_told run found known known b e some k l l in
    let all = λ (e : slice_range found (length run) known ≡ take (known - length run) found) (k : ℕ) (l : k < length found).
    told_to run found fixed step known (length found) (record { some = some; repeats = repeats; enough = enough; first = first e }) k l l in
    let tells : Decides same (AreRuns run found) = (λ t. record { whole = whole; each = all (decides.0 t) }, λ h. decides.1 (runs_same run found known within long h)) in
    same_from_decides same (are_runs run found) tells (runs_decide run found some)

-- ---- what repeats

some_times : (many : ℕ) (run : List ℕ) → 0 < length (times many run) → 0 < length run
some_times zero run h = absurd (omega (arith, h))
some_times (suc many) [] h = some_times many [] h
some_times (suc many) (x ∷ xs) h = omega arith

pub hybrid_repeats : (fixed run : List ℕ) (many : ℕ) → Repeats (length fixed) (length run) (fixed ++ times many run)
hybrid_repeats fixed run many =
    let all = length-append fixed (times many run) in
    let long = times_length many run in
    record {
      again = λ k l m.
          get_or-append_right fixed (times many run) (length fixed) k 0 refl l
          ∙ times_at many run (k - length fixed) (omega (arith, all, long, l, m))
          ∙ ap (λ (j : ℕ). slice_index run j) (sym (add-mod_right (k - length fixed) (length run)))
          ∙ ap (λ (j : ℕ). slice_index run (j % length run)) (omega (arith, l))
          ∙ sym (times_at many run (k + length run - length fixed) (omega (arith, all, long, l, m)))
          ∙ sym (get_or-append_right fixed (times many run) (length fixed) (k + length run) 0 refl (omega (arith, l)));
      some = λ l. some_times many run (omega (arith, all, l));
    }
