-- Beginnings of lists, and whole runs of lists.
use Rattle.std.proofs.Common.{◌≡◌, ◌⊎◌, inl, inr, ℕ, zero, suc, ◌+◌, ◌-◌, ◌*◌, ◌/◌, ◌%◌, ◌<◌, ◌≤◌, Bool, true, false, ◌&&◌, ◌==◌, List, [], ◌∷◌, length, refl, sym, ap, ◌∙◌, arith, Decides, eqb-true, eq-eqb, suc-mul, zero-mul}
use Rattle.std.specs.Prelude.{slice_index, nat_eq}
use Rattle.std.specs.List.{starts_with}
use Rattle.std.specs.Cmp.Derive.{both_true}
use Rattle.std.proofs.lemmas.List.{length-append, get_or_append_left, get_or-append_right, ext_get_or}
use Rattle.std.proofs.lemmas.Slice.Eq.{bytes_eq-Decides}
use Rattle.std.proofs.lemmas.Bool.{cases_lt}
use Rattle.std.proofs.Math.Nat.{mod-eq_of_lt, mod-eq-sub-mod, mul-mod_left, mod-add-div'}
use Rattle.type_definitions.specs.Leaves.{times}
use Rattle.typed_heap.specs.Fits.{begins, are_runs}

pub begins_is : (wanted found : List ℕ) → starts_with nat_eq found wanted ≡ begins wanted found
begins_is [] found = refl
begins_is (c ∷ cs) [] = refl
begins_is (c ∷ cs) (d ∷ ds) = ap (λ b. nat_eq c d && b) (begins_is cs ds)

both : (x y : Bool) → (x && y) ≡ true → (x ≡ true) × (y ≡ true)
both true true h = (refl, refl)
both true false h = cc
both false y h = cc

begun_more : (c d : ℕ) (cs ds : List ℕ) → (begins cs ds ≡ true → (k : ℕ) → k < length cs → slice_index ds k ≡ slice_index cs k) → begins (c ∷ cs) (d ∷ ds) ≡ true → (k : ℕ) → k < length (c ∷ cs) →
    slice_index (d ∷ ds) k ≡ slice_index (c ∷ cs) k
begun_more c d cs ds rest b zero l = sym (eqb-true c d (both (c == d) (begins cs ds) b).0)
begun_more c d cs ds rest b (suc k) l = rest (both (c == d) (begins cs ds) b).1 k (omega (arith, l))

-- where leaves begin with others, each of those is found at its place
pub begun : (wanted found : List ℕ) → begins wanted found ≡ true → (k : ℕ) → k < length wanted → slice_index found k ≡ slice_index wanted k
begun [] found b k l = absurd (omega (arith, l))
begun (c ∷ cs) [] b k l = cc
begun (c ∷ cs) (d ∷ ds) b k l = begun_more c d cs ds (begun cs ds) b k l

begins_if : (wanted found : List ℕ) → length wanted ≤ length found → ((k : ℕ) → k < length wanted → slice_index found k ≡ slice_index wanted k) → begins wanted found ≡ true
begins_if [] found l h = refl
begins_if (c ∷ cs) [] l h = absurd (omega (arith, l))
begins_if (c ∷ cs) (d ∷ ds) l h = both_true (eq-eqb c d (sym (h 0 (omega arith)))) (begins_if cs ds (omega (arith, l)) (λ k m. h (suc k) (omega (arith, m))))

suc_times : (n m : ℕ) → suc n * m ≡ m + n * m
suc_times n m = suc-mul n m ∙ omega arith

pub times_length : (n : ℕ) (xs : List ℕ) → length (times n xs) ≡ n * length xs
times_length zero xs = sym (zero-mul (length xs))
times_length (suc n) xs = length-append xs (times n xs) ∙ ap (λ (m : ℕ). length xs + m) (times_length n xs) ∙ sym (suc_times n (length xs))

times_step : (q : ℕ) (run : List ℕ) (k : ℕ) → ((j : ℕ) → j < q * length run → slice_index (times q run) j ≡ slice_index run (j % length run)) → k < suc q * length run →
    (k < length run) ⊎ (length run ≤ k) → slice_index (times (suc q) run) k ≡ slice_index run (k % length run)
times_step q run k rest l (inl m) = get_or_append_left run (times q run) 0 k m ∙ ap (λ (j : ℕ). slice_index run j) (sym (mod-eq_of_lt m))
times_step q run k rest l (inr m) =
    get_or-append_right run (times q run) (length run) k 0 refl m
    ∙ rest (k - length run) (omega (arith, l, m, suc_times q (length run)))
    ∙ ap (λ (j : ℕ). slice_index run j) (sym (mod-eq-sub-mod m))

pub times_at : (q : ℕ) (run : List ℕ) (k : ℕ) → k < q * length run → slice_index (times q run) k ≡ slice_index run (k % length run)
times_at zero run k l = absurd (omega (arith, l, zero-mul (length run)))
times_at (suc q) run k l = times_step q run k (λ j m. times_at q run j m) l (cases_lt k (length run))

-- whole runs: as many leaves as some runs have, and at each place the leaf of the run
pub record AreRuns (run found : List ℕ) : Type 0 where
  pub whole : length found % length run ≡ 0
  pub each : (k : ℕ) → k < length found → slice_index found k ≡ slice_index run (k % length run)

runs_if : (run found : List ℕ) → 0 < length run → found ≡ times (length found / length run) run → AreRuns run found
runs_if run found some e =
    let q = length found / length run in
    let long : length found ≡ q * length run = ap length e ∙ times_length q run in
    record {
      whole = ap (λ (n : ℕ). n % length run) long ∙ mul-mod_left q (length run);
      each = λ k l. ap (λ (xs : List ℕ). slice_index xs k) e ∙ times_at q run k (omega (arith, l, long));
    }

if_runs : (run found : List ℕ) → 0 < length run → AreRuns run found → found ≡ times (length found / length run) run
if_runs run found some h =
    let q = length found / length run in
    let long : q * length run ≡ length found = omega (arith, mod-add-div' (length found) (length run), h.whole) in
    let same : length found ≡ length (times q run) = sym (times_length q run ∙ long) in
    ext_get_or 0 found (times q run) same (λ i l. h.each i l ∙ sym (times_at q run i (omega (arith, l, long))))

pub runs_decide : (run found : List ℕ) → 0 < length run → Decides (are_runs run found) (AreRuns run found)
runs_decide run found some =
    let d = bytes_eq-Decides found (times (length found / length run) run) in
    (λ e. runs_if run found some (d.0 e), λ h. d.1 (if_runs run found some h))

no_false : (b : Bool) → (b ≡ true → ⊥) → false ≡ b
no_false true f = absurd (f refl)
no_false false f = refl

pub no_runs : (run found : List ℕ) → 0 < length run → (AreRuns run found → ⊥) → false ≡ are_runs run found
no_runs run found some f = no_false (are_runs run found) (λ e. f ((runs_decide run found some).0 e))

-- whole runs, if any, begin with one
pub runs_begin : (run found : List ℕ) → length run ≤ length found → AreRuns run found → begins run found ≡ true
runs_begin run found l h = begins_if run found l (λ k m. h.each k (omega (arith, l, m)) ∙ ap (λ (j : ℕ). slice_index run j) (mod-eq_of_lt m))

pub whole_long : (n m : ℕ) → 0 < n → n % m ≡ 0 → (n < m) ⊎ (m ≤ n) → m ≤ n
whole_long n m some whole (inl l) = absurd (omega (arith, mod-eq_of_lt l, whole, some))
whole_long n m some whole (inr l) = l

true_false : (b : Bool) → b ≡ true → b ≡ false → ⊥
true_false b t f = cc

pub begin_otherwise : (run found : List ℕ) → 0 < length run → 0 < length found → length found % length run ≡ 0 → begins run found ≡ false → false ≡ are_runs run found
begin_otherwise run found some any whole b =
    let long = whole_long (length found) (length run) any whole (cases_lt (length found) (length run)) in
    no_runs run found some (λ h. true_false (begins run found) (runs_begin run found long h) b)

pub le_times : (n m : ℕ) → 0 < m → n ≤ n * m
le_times zero m l = omega arith
le_times (suc n) m l = let rest = le_times n m l in let step = suc_times n m in omega arith

pub times_none : (n : ℕ) (xs : List ℕ) → length xs ≡ 0 → times n xs ≡ []
times_none zero xs h = refl
times_none (suc n) [] h = times_none n [] h
times_none (suc n) (x ∷ xs) h = absurd (omega (arith, h))
