-- Grammars as data. A form says which lists of tokens stand at a place, and what each of them means.
--
--   in a grammar       as a form                               means
--   "(" or a name      token (symbols.Open ∷ [])               the token
--   (nothing)          nothing a                               a
--   x y                both x y                                the two meanings
--   x | y              on S x y         x begins with S        the meaning of the one that stands there
--   x?                 on S (made Some x) (nothing None)
--   x* ")"             until S x        S closes the list      the list of the meanings
--   at most n of x     up_to n S x                             the same
--
-- `made` gives a meaning of its own. `left_out` is a word that the grammar knows and the profile leaves out; `past` is what
-- would be an element if the limit of its list were not reached. Neither derives anything: they say which fault stands there.
use Rattle.std.specs.Prelude.{ℕ, suc, Bool, true, false, List, nat_le, ◌&&◌}
use Rattle.text_forms.specs.declared.symbol.Symbol.{Symbol}
use Rattle.text_forms.specs.Tokens.{Tok}

-- up to three tests, which may tell how a list goes on
pub data Flags : Type 0 → Type 1 where
  no_flag : Flags (Unit {0})
  one_flag : Flags Bool
  two_flags : Flags (Bool × Bool)
  three_flags : Flags (Bool × Bool × Bool)

pub data Form : Type 0 → Type 1 where
  -- one token, of one of these symbols
  token : List Symbol → Form Tok
  -- no token, with this meaning
  nothing : {A : Type 0} → A → Form A
  -- no list of tokens at all
  never : {A : Type 0} → Form A
  -- one form and then the other
  both : {A B : Type 0} → Form A → Form B → Form (A × B)
  -- the first form, which begins with one of these symbols, or else the second
  on : {A : Type 0} → List Symbol → Form A → Form A → Form A
  -- the form, with a meaning made from its own
  made : {A B : Type 0} → (A → B) → Form A → Form B
  -- one of these words, which the profile leaves out, with what it would mean
  left_out : {A : Type 0} → List Symbol → A → Form A
  -- the form, past the limit of the list that it would be an element of
  past : {A : Type 0} → Form A → Form A
  -- any number of the form: for a grammar as it is written. It is derived, and never read
  many : {A : Type 0} → Form A → Form (List A)
  -- any number of elements, and then the form that closes the list, which begins with one of these symbols. Elements lead from
  -- state to state, and the flags of the state tell what form the next element has
  lines : {A B S F : Type 0} → Flags F → (S → F) → (S → A → S) → (F → Form A) → List Symbol → Form B → S → Form (List A × B)

-- ---- lists

-- any number of the form, up to and with one of these symbols
abbrev pub until : {A : Type 0} → List Symbol → Form A → Form (List A)
until xs f = made (λ x. x.0) (lines no_flag (λ _. tt {0}) (λ s _. s) (λ _. f) xs (token xs) (tt {0}))

-- the form where the limit is not reached
abbrev pub within : {A : Type 0} → Form A → Bool → Form A
within f false = f
within f true = past f

-- the same where k elements stand before these, and at most n may stand in all
abbrev pub up_to_from : {A : Type 0} → ℕ → ℕ → List Symbol → Form A → Form (List A)
up_to_from k n xs f = made (λ x. x.0) (lines one_flag (λ k. nat_le n k) (λ k _. suc k) (within f) xs (token xs) k)

-- at most n of the form, up to and with one of these symbols
abbrev pub up_to : {A : Type 0} → ℕ → List Symbol → Form A → Form (List A)
up_to n xs f = up_to_from 0 n xs f

-- ---- one form and then another, of which one alone has a meaning

infixr 20 ◌▸◌
abbrev pub ◌▸◌ : {A B : Type 0} → Form A → Form B → Form B
f ▸ g = made (λ x. x.1) (both f g)

infixl 30 ◌◂◌
abbrev pub ◌◂◌ : {A B : Type 0} → Form A → Form B → Form A
f ◂ g = made (λ x. x.0) (both f g)

-- ---- all values of the flags

-- the test holds for each of them
abbrev pub every : {F : Type 0} → Flags F → (F → Bool) → Bool
every no_flag p = p (tt {0})
every one_flag p = p false && p true
every two_flags p = (p (false, false) && p (false, true)) && (p (true, false) && p (true, true))
every three_flags p =
    ((p (false, false, false) && p (false, false, true)) && (p (false, true, false) && p (false, true, true)))
    && ((p (true, false, false) && p (true, false, true)) && (p (true, true, false) && p (true, true, true)))
