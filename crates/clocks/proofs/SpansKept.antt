-- What the next place changes of the clocks by place.
use Rattle.std.proofs.Common.{add-one, ◌≡◌, ◌≢◌, ◌∙◌, ℕ, ◌+◌, ◌<◌, ◌≤◌, ◌==◌, List, [], ◌∷◌, ◌++◌, length, slice_index, refl, sym, ap, arith, inl, inr, length-append}
use Rattle.std.specs.Prelude.{nat_lt, if◌then◌else◌}
use Rattle.std.proofs.Math.Seq.{get_or-append_seam}
use Rattle.std.proofs.lemmas.List.{get_or_past, get_or_append_left, get_or-append-add}
use Rattle.std.proofs.lemmas.Bool.{cases_lt, cases_order}
use Rattle.std.proofs.lemmas.Bool.Decides.{nat_tests}
use Rattle.clocks.specs.Spans.{begin_in, number_in, Laid}

-- a place that there is already, or the next, begins where it did
begin-kept : (ends : List ℕ) (e p : ℕ) → p ≤ length ends → begin_in (ends ++ e ∷ []) p ≡ begin_in ends p
begin-kept ends e p h = get_or_append_left (0 ∷ ends) (e ∷ []) 0 p (omega arith)

-- a place that there is already ends where it did
end-kept : (ends : List ℕ) (e p : ℕ) → p < length ends → slice_index (ends ++ e ∷ []) p ≡ slice_index ends p
end-kept ends e p h = get_or_append_left ends (e ∷ []) 0 p h

-- the next place ends at its end
end-next : (ends : List ℕ) (e p : ℕ) → p ≡ length ends → slice_index (ends ++ e ∷ []) p ≡ e
end-next ends e p h = rw h (get_or-append_seam ends e [] 0)

-- no later place is there
end-past : (ends : List ℕ) (e p : ℕ) → length ends < p → slice_index (ends ++ e ∷ []) p ≡ 0
end-past ends e p h = get_or_past (ends ++ e ∷ []) p 0 (omega (arith, length-append ends (e ∷ [])))

-- the next end keeps the order of the ends
pub laid-next : (ends numbers more : List ℕ) (e : ℕ) → e ≡ length numbers + length more → length more ≤ 64 → Laid ends numbers → Laid (ends ++ e ∷ []) (numbers ++ more)
laid-next ends numbers more e at small laid = record {
  rising = λ p h. elim (cases_lt p (length ends)) [
    | inl lt ↦ omega (arith, begin-kept ends e p (omega arith), end-kept ends e p lt, laid.rising p lt)
    | inr ge ↦
        let last : p ≡ length ends = omega (arith, length-append ends (e ∷ [])) in
        omega (arith, begin-kept ends e p (omega arith), end-next ends e p last, ap (begin_in ends) last, laid.last)
  ];
  narrow = λ p. elim (cases_order p (length ends)) [
    | inl last ↦ omega (arith, begin-kept ends e p (omega arith), end-next ends e p last, ap (begin_in ends) last, laid.last)
    | inr (inl lt) ↦ omega (arith, begin-kept ends e p (omega arith), end-kept ends e p lt, laid.narrow p)
    | inr (inr gt) ↦ omega (arith, end-past ends e p gt)
  ];
  inside = λ p. elim (cases_order p (length ends)) [
    | inl last ↦ omega (arith, end-next ends e p last, length-append numbers more)
    | inr (inl lt) ↦ omega (arith, end-kept ends e p lt, laid.inside p, length-append numbers more)
    | inr (inr gt) ↦ omega (arith, end-past ends e p gt)
  ];
  last = rw (length-append ends (e ∷ []) ∙ add-one (length ends)) (end-next ends e (length ends) refl ∙ at ∙ sym (length-append numbers more));
}

-- numbers that are added change no number before them
read-kept : (numbers more : List ℕ) (start stop u : ℕ) → stop ≤ length numbers → (if nat_lt (start + u) stop then slice_index (numbers ++ more) (start + u) else 0) ≡ (if nat_lt (start + u) stop then slice_index numbers (start + u) else 0)
read-kept numbers more start stop u h = grind (arith, nat_tests, get_or_append_left)

-- the numbers that are added are read from where the others end
read-next : (numbers more : List ℕ) (start stop u : ℕ) → start ≡ length numbers → stop ≡ length numbers + length more → (if nat_lt (start + u) stop then slice_index (numbers ++ more) (start + u) else 0) ≡ slice_index more u
read-next numbers more start stop u begins ends = grind (arith, nat_tests, get_or-append-add numbers more u 0, get_or_past more u 0)

-- nothing is read below an end of 0
read-none : (start stop u x : ℕ) → stop ≡ 0 → (if nat_lt (start + u) stop then x else 0) ≡ 0
read-none start stop u x none = grind (arith, nat_tests)

-- the choice at the next place
picked : (p n x y : ℕ) → p ≡ n → x ≡ (if p == n then x else y)
picked p n x y h = grind (arith, nat_tests)

-- the choice at another place
passed : (p n x y : ℕ) → p ≢ n → y ≡ (if p == n then x else y)
passed p n x y h = grind (arith, nat_tests)

-- the next place has the numbers that were put, and the others keep theirs
pub number-next : (ends numbers more : List ℕ) (e p u : ℕ) → e ≡ length numbers + length more → Laid ends numbers → number_in (ends ++ e ∷ []) (numbers ++ more) p u ≡ (if p == length ends then slice_index more u else number_in ends numbers p u)
number-next ends numbers more e p u at laid =
    let new : ℕ = slice_index more u in
    let old : ℕ = number_in ends numbers p u in
    elim (cases_order p (length ends)) [
      | inl last ↦
          read-next numbers more (begin_in (ends ++ e ∷ []) p) (slice_index (ends ++ e ∷ []) p) u (begin-kept ends e p (omega arith) ∙ ap (begin_in ends) last ∙ laid.last) (end-next ends e p last ∙ at)
          ∙ picked p (length ends) new old last
      | inr (inl lt) ↦
          rw (begin-kept ends e p (omega arith), end-kept ends e p lt) (read-kept numbers more (begin_in ends p) (slice_index ends p) u (laid.inside p))
          ∙ passed p (length ends) new old (omega arith)
      | inr (inr gt) ↦
          read-none (begin_in (ends ++ e ∷ []) p) (slice_index (ends ++ e ∷ []) p) u (slice_index (numbers ++ more) (begin_in (ends ++ e ∷ []) p + u)) (end-past ends e p gt)
          ∙ sym (read-none (begin_in ends p) (slice_index ends p) u (slice_index numbers (begin_in ends p + u)) (get_or_past ends p 0 (omega arith)))
          ∙ passed p (length ends) new old (omega arith)
    ]
