-- The first run of a text.
use Rattle.std.specs.Prelude.{◌≡◌, ℕ, ◌+◌, ◌-◌, ◌<◌, ◌≤◌, Bool, true, false, ◌&&◌, ◌==◌, not, List, [], ◌∷◌, ◌++◌, length, filter, slice_range, if◌then◌else◌, refl}
use Rattle.std.proofs.Common.{◌∙◌, sym, ap, arith, get_or, take, drop, append_assoc, length-drop}
use Rattle.std.proofs.lemmas.List.{drop_more, get_or-drop, take_more, length-take-le, append-nil}
use Rattle.std.proofs.lemmas.List.Splits.{slice_split-cons_yes, slice_split-cons_no}
use Rattle.std.specs.List.{slice_split, onto_first}
use Rattle.ir_lex.specs.Bytes.{is_blank}
use Rattle.ir_lex.specs.Gaps.{slash_next, begins_gap}
use Rattle.mu_threads.specs.ScheduleTexts.{without_comments, Run, placed, has_bytes, runs_from}

-- the parts of a text that does not begin in a comment
abbrev pub parts : List ℕ → List (List ℕ)
parts text = slice_split is_blank (without_comments false text)

-- bytes in front of the first part
abbrev pub onto : List ℕ → List (List ℕ) → List (List ℕ)
onto front [] = front ∷ []
onto front (part ∷ rest) = (front ++ part) ∷ rest

onto_more : (front : List ℕ) (b : ℕ) (ps : List (List ℕ)) → onto front (onto_first b ps) ≡ onto (front ++ b ∷ []) ps
onto_more front b [] = refl
onto_more front b (p ∷ ps) = rw append_assoc refl

-- the first run of what stands from `from` on has at least the bytes up to `end`
pub record IsBegun (bytes : List ℕ) (from end : ℕ) : Type 0 where
  pub front : parts (drop from bytes) ≡ onto (slice_range bytes from end) (parts (drop end bytes))

-- a byte of a run goes onto the first part
onto_part : (b : ℕ) (s : List ℕ) → begins_gap (b ∷ s) ≡ false → parts (b ∷ s) ≡ onto_first b (parts s)
onto_part b s h =
    let no_blank : is_blank b ≡ false = grind arith in
    let no_comment : (b == 47 && slash_next s) ≡ false = grind arith in
    rw no_comment (slice_split-cons_no is_blank b (without_comments false s) no_blank)

onto_one : (b : ℕ) (ps : List (List ℕ)) → onto_first b ps ≡ onto (b ∷ []) ps
onto_one b [] = refl
onto_one b (p ∷ ps) = refl

-- a byte more of a part of a text
range_more : (bytes : List ℕ) (from end : ℕ) → from ≤ end → end < length bytes → slice_range bytes from (end + 1) ≡ slice_range bytes from end ++ get_or bytes end 0 ∷ []
range_more bytes from end h k =
    let many : end + 1 - from ≡ (end - from) + 1 = omega arith in
    let there : from + (end - from) ≡ end = omega arith in
    let within : end - from < length (drop from bytes) = omega (arith, length-drop from bytes) in
    let same : get_or (drop from bytes) (end - from) 0 ≡ get_or bytes end 0 = get_or-drop from bytes (end - from) 0 ∙ ap (λ i. get_or bytes i 0) there in
    ap (λ n. take n (drop from bytes)) many ∙ take_more (drop from bytes) (end - from) 0 within ∙ ap (λ b. take (end - from) (drop from bytes) ++ b ∷ []) same

-- the parts from a byte of a run on
parts_at : (bytes : List ℕ) (i : ℕ) → i < length bytes → begins_gap (drop i bytes) ≡ false → parts (drop i bytes) ≡ onto_first (get_or bytes i 0) (parts (drop (i + 1) bytes))
parts_at bytes i h g =
    let k : begins_gap (get_or bytes i 0 ∷ drop (i + 1) bytes) ≡ false = sym (ap begins_gap (drop_more bytes i 0 h)) ∙ g in
    ap parts (drop_more bytes i 0 h) ∙ onto_part (get_or bytes i 0) (drop (i + 1) bytes) k

-- the first run of what stands from `from` on has the bytes up to `end` at least
pub begins : (bytes : List ℕ) (from : ℕ) → from < length bytes → begins_gap (drop from bytes) ≡ false → IsBegun bytes from (from + 1)
begins bytes from h g =
    let none : from - from ≡ 0 = omega arith in
    let one : slice_range bytes from (from + 1) ≡ get_or bytes from 0 ∷ [] = range_more bytes from from (omega arith) h ∙ ap (λ n. take n (drop from bytes) ++ get_or bytes from 0 ∷ []) none in
    record { front = parts_at bytes from h g ∙ onto_one (get_or bytes from 0) (parts (drop (from + 1) bytes)) ∙ ap (λ x. onto x (parts (drop (from + 1) bytes))) (sym one) }

pub goes_on : (bytes : List ℕ) (from end : ℕ) → IsBegun bytes from end → from < end → end < length bytes → begins_gap (drop end bytes) ≡ false → IsBegun bytes from (end + 1)
goes_on bytes from end begun behind h g =
    record {
      front = begun.front
          ∙ ap (onto (slice_range bytes from end)) (parts_at bytes end h g)
          ∙ onto_more (slice_range bytes from end) (get_or bytes end 0) (parts (drop (end + 1) bytes))
          ∙ ap (λ x. onto x (parts (drop (end + 1) bytes))) (sym (range_more bytes from end (omega arith) h));
    }

-- the first part is empty where a gap begins
gap_part : (b : ℕ) (s : List ℕ) (c : Bool) → (b == 47 && slash_next s) ≡ c → begins_gap (b ∷ s) ≡ true → (rest : List (List ℕ)) × (parts (b ∷ s) ≡ [] ∷ rest)
gap_part b s true k h = (slice_split is_blank (without_comments true s), rw k (slice_split-cons_yes is_blank 32 (without_comments true s) refl))
gap_part b s false k h =
    let blank : is_blank b ≡ true = grind arith in
    (parts s, rw k (slice_split-cons_yes is_blank b (without_comments false s) blank))

-- and where the text ends
first_part : (s : List ℕ) → (0 < length s → begins_gap s ≡ true) → (rest : List (List ℕ)) × (parts s ≡ [] ∷ rest)
first_part [] h = ([], refl)
first_part (b ∷ s) h = gap_part b s (b == 47 && slash_next s) refl (h (omega arith))

-- a part that is not empty, and then an empty one
first_run : (from end : ℕ) (x before after : List ℕ) (rest : List (List ℕ)) → parts before ≡ onto x (parts after) → parts after ≡ [] ∷ rest → from + length x ≡ end → from < end →
    runs_from false from before ≡ record { place = from; bytes = x } ∷ runs_from false end after
first_run from end x before after rest h k long behind =
    let whole : parts before ≡ (x ++ []) ∷ rest = h ∙ ap (onto x) k in
    let some : (length x == 0) ≡ false = grind arith in
    let e : from + length x + 1 ≡ end + 0 + 1 = omega arith in
    rw (whole, k, append-nil x, some, e) refl

-- a run ends where a gap begins or the text ends
pub is_run : (bytes : List ℕ) (from end : ℕ) → IsBegun bytes from end → from < end → end ≤ length bytes → (end < length bytes → begins_gap (drop end bytes) ≡ true) →
    runs_from false from (drop from bytes) ≡ record { place = from; bytes = slice_range bytes from end } ∷ runs_from false end (drop end bytes)
is_run bytes from end begun behind within stops =
    let left : length (drop end bytes) ≡ length bytes - end = length-drop end bytes in
    let next = first_part (drop end bytes) (λ some. stops (omega arith)) in
    let many : length (slice_range bytes from end) ≡ end - from = length-take-le (end - from) (drop from bytes) (omega (arith, length-drop from bytes)) in
    first_run from end (slice_range bytes from end) (drop from bytes) (drop end bytes) next.0 begun.front next.1 (omega arith) behind

pub ruleset runs_step = (begins, goes_on, is_run)
