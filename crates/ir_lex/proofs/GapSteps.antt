-- One byte more of blanks and comments.
use Rattle.std.proofs.Common.{◌≡◌, ℕ, zero, suc, ◌+◌, ◌<◌, ◌≤◌, Bool, List, [], ◌∷◌, length, get_or, drop, Some, None, refl, ◌∙◌, arith, add-one}
use Rattle.ir_lex.specs.Gaps.{slash_next}
use Rattle.ir_lex.specs.Scanner.{gap_step, gap_len}

pub gap_none : (c : Bool) (bs : List ℕ) (i : ℕ) → length bs ≤ i → gap_len c (drop i bs) ≡ 0
unfolding gap_len
gap_none c [] zero h = refl
gap_none c [] (suc i) h = refl
gap_none c (b ∷ bs) zero h = absurd (omega arith)
gap_none c (b ∷ bs) (suc i) h = gap_none c bs i (omega arith)

more_suc : (c d : Bool) (bs : List ℕ) (i : ℕ) → i < length bs → gap_step c (get_or bs i 0) (slash_next (drop (suc i) bs)) ≡ Some d → gap_len c (drop i bs) ≡ suc (gap_len d (drop (suc i) bs))
unfolding gap_len
more_suc c d [] i h e = absurd (omega arith)
more_suc c d (b ∷ bs) zero h e = rw (e, gap_len) refl
more_suc c d (b ∷ bs) (suc i) h e = more_suc c d bs i (omega arith) e

stop_suc : (c : Bool) (bs : List ℕ) (i : ℕ) → i < length bs → gap_step c (get_or bs i 0) (slash_next (drop (suc i) bs)) ≡ None → gap_len c (drop i bs) ≡ 0
unfolding gap_len
stop_suc c [] i h e = absurd (omega arith)
stop_suc c (b ∷ bs) zero h e = rw (e, gap_len) refl
stop_suc c (b ∷ bs) (suc i) h e = stop_suc c bs i (omega arith) e

pub gap_more : (c d : Bool) (bs : List ℕ) (i : ℕ) → i < length bs → gap_step c (get_or bs i 0) (slash_next (drop (i + 1) bs)) ≡ Some d → gap_len c (drop i bs) ≡ 1 + gap_len d (drop (i + 1) bs)
gap_more c d bs i h e = rw add-one (more_suc c d bs i h (rw add-one at e) ∙ omega arith)

pub gap_stop : (c : Bool) (bs : List ℕ) (i : ℕ) → i < length bs → gap_step c (get_or bs i 0) (slash_next (drop (i + 1) bs)) ≡ None → gap_len c (drop i bs) ≡ 0
gap_stop c bs i h e = stop_suc c bs i h (rw add-one at e)
