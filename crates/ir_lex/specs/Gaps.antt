-- What stands between tokens: blanks and comments, in any order.
use Rattle.std.specs.Prelude.{◌≡◌, ℕ, Bool, true, false, List, [], ◌∷◌, ◌++◌, ◌&&◌, ◌||◌, ◌==◌, not}
use Rattle.std.specs.List.{list_all}
use Rattle.ir_lex.specs.Bytes.{is_blank, is_line_feed}

-- a line feed comes next, or the end of the text
abbrev pub ends_line : List ℕ → Bool
ends_line [] = true
ends_line (b ∷ bs) = is_line_feed b

-- the bytes are blanks and comments, where `after` stands behind them
pub data IsGap (after : List ℕ) : List ℕ → Type 0 where
  none : IsGap after []
  blank : (byte : ℕ) (gap : List ℕ) → is_blank byte ≡ true → IsGap after gap → IsGap after (byte ∷ gap)
  -- `//` and any bytes, up to the next line feed or the end of the text
  comment : (body gap : List ℕ) → list_all (λ b. not (is_line_feed b)) body ≡ true → ends_line (gap ++ after) ≡ true → IsGap after gap → IsGap after (47 ∷ 47 ∷ (body ++ gap))

-- the bytes begin with a slash
abbrev pub slash_next : List ℕ → Bool
slash_next [] = false
slash_next (b ∷ bs) = b == 47

-- the bytes begin with a blank or with `//`
abbrev pub begins_gap : List ℕ → Bool
begins_gap [] = false
begins_gap (b ∷ bs) = is_blank b || (b == 47 && slash_next bs)
