-- The runs of a text are those behind a gap.
use Rattle.std.specs.Prelude.{◌≡◌, ℕ, ◌+◌, ◌<◌, ◌≤◌, Bool, true, false, ◌&&◌, ◌==◌, not, List, [], ◌∷◌, length, filter, if◌then◌else◌, refl}
use Rattle.std.proofs.Common.{◌∙◌, sym, ap, arith, get_or, drop, rules}
use Rattle.std.proofs.lemmas.List.{drop_more}
use Rattle.std.proofs.Math.ListN.{drop_of_length-le}
use Rattle.std.proofs.lemmas.List.Splits.{slice_split-cons_yes}
use Rattle.std.specs.List.{slice_split}
use Rattle.ir_lex.specs.Bytes.{is_blank, is_line_feed}
use Rattle.ir_lex.specs.Gaps.{slash_next, begins_gap}
use Rattle.mu_threads.specs.ScheduleTexts.{without_comments, placed, has_bytes, runs_from}

-- a blank at the front is of no run
behind_blank : (i x : ℕ) (rest : List ℕ) → is_blank x ≡ true →
    filter has_bytes (placed i (slice_split is_blank (x ∷ rest))) ≡ filter has_bytes (placed (i + 1) (slice_split is_blank rest))
behind_blank i x rest h =
    let e : i + 0 + 1 ≡ i + 1 = omega arith in
    rw (slice_split-cons_yes is_blank x rest h) (rw e refl)

feed_is_blank : (b : ℕ) → is_line_feed b ≡ true → is_blank b ≡ true
feed_is_blank b h = grind arith

pub in_comment : (i b : ℕ) (s : List ℕ) (l : Bool) → is_line_feed b ≡ l → runs_from true i (b ∷ s) ≡ runs_from (not l) (i + 1) s
in_comment i b s true h = rw h (behind_blank i b (without_comments false s) (feed_is_blank b h))
in_comment i b s false h = rw h (behind_blank i 32 (without_comments true s) refl)

slash_or_blank : (b : ℕ) (s : List ℕ) → begins_gap (b ∷ s) ≡ true → (b == 47 && slash_next s) ≡ false → (is_blank b ≡ true) × ((b == 47) ≡ false)
slash_or_blank b s h k = grind arith

at_gap : (i b : ℕ) (s : List ℕ) (c : Bool) → (b == 47 && slash_next s) ≡ c → begins_gap (b ∷ s) ≡ true → runs_from false i (b ∷ s) ≡ runs_from (b == 47) (i + 1) s
at_gap i b s true k h =
    let slash : (b == 47) ≡ true = grind arith in
    rw k (rw slash (behind_blank i 32 (without_comments true s) refl))
at_gap i b s false k h =
    let both = slash_or_blank b s h k in
    rw k (rw both.1 (behind_blank i b (without_comments false s) both.0))

-- one byte more of a comment
pub more_comment : (bs : List ℕ) (i : ℕ) → i < length bs → runs_from true i (drop i bs) ≡ runs_from (not (is_line_feed (get_or bs i 0))) (i + 1) (drop (i + 1) bs)
more_comment bs i h = rw (drop_more bs i 0 h) (in_comment i (get_or bs i 0) (drop (i + 1) bs) (is_line_feed (get_or bs i 0)) refl)

-- one byte more of a gap
pub more_gap : (bs : List ℕ) (i : ℕ) → i < length bs → begins_gap (drop i bs) ≡ true → runs_from false i (drop i bs) ≡ runs_from (get_or bs i 0 == 47) (i + 1) (drop (i + 1) bs)
more_gap bs i h g =
    let k : begins_gap (get_or bs i 0 ∷ drop (i + 1) bs) ≡ true = sym (ap begins_gap (drop_more bs i 0 h)) ∙ g in
    rw (drop_more bs i 0 h) (at_gap i (get_or bs i 0) (drop (i + 1) bs) (get_or bs i 0 == 47 && slash_next (drop (i + 1) bs)) refl k)

-- behind the last byte there are no runs, whether it is of a comment or not
pub at_end : (c : Bool) (bs : List ℕ) (i : ℕ) → length bs ≤ i → runs_from c i (drop i bs) ≡ runs_from false i (drop i bs)
at_end c bs i h = rw (drop_of_length-le bs h) refl

pub ruleset gaps = (more_comment, more_gap, at_end)
