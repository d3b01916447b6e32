-- Grammars of whole texts.
use Rattle.std.specs.Prelude.{◌≡◌, Bool, true, false, List, [], ◌∷◌, ◌&&◌, not}
use Rattle.text_forms.specs.declared.symbol.Symbol.{Symbol}
use Rattle.text_forms.specs.Tokens.{is_last}
use Rattle.text_forms.specs.Forms.{every, Form, token, nothing, never, both, on, made, left_out, past, many, lines}
use Rattle.text_forms.specs.Begins.{derives_some, decides, steady}
use Rattle.text_forms.specs.Limits.{widen}

abbrev pub none_last : List Symbol → Bool
none_last [] = true
none_last (x ∷ xs) = not (is_last x) && none_last xs

abbrev pub all_last : List Symbol → Bool
all_last [] = true
all_last (x ∷ xs) = is_last x && all_last xs

-- it derives no last token
abbrev pub ordinary : {A : Type 0} → Form A → Bool
ordinary (token xs) = none_last xs
ordinary (nothing a) = true
ordinary never = true
ordinary (both f g) = ordinary f && ordinary g
ordinary (on xs f g) = ordinary f && ordinary g
ordinary (made h f) = ordinary f
ordinary (left_out xs a) = true
ordinary (past f) = ordinary f
ordinary (many f) = ordinary f
ordinary (lines fl flags step f xs g s) = every fl (λ y. ordinary (f y)) && ordinary g

-- it derives one last token, at the end
abbrev pub ends : {A : Type 0} → Form A → Bool
ends (token xs) = all_last xs
ends (nothing a) = false
ends never = true
ends (both f g) = ordinary f && ends g
ends (on xs f g) = ends f && ends g
ends (made h f) = ends f
ends (left_out xs a) = true
ends (past f) = ends f
ends (many f) = false
ends (lines fl flags step f xs g s) = every fl (λ y. ordinary (f y)) && ends g

-- the grammar of a whole text, which is read by one token of look-ahead, limits and words that are left out included
pub record IsGrammar {A : Type 0} (f : Form A) : Type 0 where
  pub decided : decides f ≡ true
  pub decided_in_full : decides (widen f) ≡ true
  pub some : derives_some f ≡ true
  pub own : steady f ≡ true
  pub ends : ends f ≡ true
