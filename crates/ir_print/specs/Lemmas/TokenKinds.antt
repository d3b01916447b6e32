-- A symbol tells what kind of token it is.
use Rattle.std.proofs.Common.{◌≡◌, ℕ, Bool, true, false, List, [], ◌∷◌, length, refl}
use Rattle.std.specs.Prelude.{◌&&◌, not, nat_le}
use Rattle.std.specs.List.{list_all}
use Rattle.std.specs.Str.{bytes_eq}
use Rattle.std.specs.Char.{is_ascii_alphabetic}
use Rattle.std.proofs.lemmas.Bool.{leb-true, cases_Bool}
use mathlib.Core.Logic.{inl, inr}
use Rattle.text_forms.specs.declared.symbol.Symbol.{Symbol}
use Rattle.text_forms.specs.declared.symbol.Symbol.TheVariants as symbols
use Rattle.text_forms.specs.Tokens.{has}
use Rattle.text_forms.specs.Lemmas.Tests.{and_true, not_true}
use Rattle.ir_lex.specs.declared.token.TokenKind.{TokenKind}
use Rattle.ir_lex.specs.declared.token.TokenKind.TheVariants as kinds
use Rattle.ir_lex.specs.declared.token.Mark.{Mark}
use Rattle.ir_lex.specs.declared.token.Mark.TheVariants as marks
use Rattle.ir_lex.specs.Bytes.{is_word_byte}
use Rattle.ir_lex.specs.Spellings.{word}
use Rattle.ir_lex.specs.Lexemes.{longest_token}
use Rattle.ir_lex.specs.WordTable.{Row, look_up, words, directives, common_names}
use Rattle.ir_lex.specs.Seen.{mark_symbol, symbol_of}
use Rattle.ir_tree.specs.Lists.{globals}
use Rattle.ir_print.specs.Lemmas.Prints.{IsWord}

-- ---- names and numbers

looked_up : (xs : List Symbol) (absent : Symbol) (rows : List Row) (spelling : List ℕ) → has xs absent ≡ false → list_all (λ (r : Row). not (has xs r.1)) rows ≡ true → has xs (look_up absent rows spelling) ≡ false
looked_up xs absent [] spelling none all = none
looked_up xs absent (r ∷ rs) spelling none all =
    let parts = and_true (not (has xs r.1)) _ all in
    elim (cases_Bool (bytes_eq spelling r.0)) [
      | inl e ↦ rw e (not_true (has xs r.1) parts.0)
      | inr e ↦ rw e (looked_up xs absent rs spelling none parts.1)
    ]

-- neither a mark nor a word nor a directive is one of these
pub record AreNames (xs : List Symbol) : Type 0 where
  pub mark : (m : Mark) → has xs (mark_symbol m) ≡ false
  pub word : (spelling : List ℕ) → has xs (look_up symbols.Other words spelling) ≡ false
  pub directive : (spelling : List ℕ) → has xs (look_up symbols.Other directives spelling) ≡ false
  pub object : has xs symbols.Object ≡ false

global_mark : (m : Mark) → has globals (mark_symbol m) ≡ false
global_mark marks.Open = refl
global_mark marks.Close = refl
global_mark marks.OpenBrace = refl
global_mark marks.CloseBrace = refl
global_mark marks.Less = refl
global_mark marks.Greater = refl
global_mark marks.OpenBracket = refl
global_mark marks.CloseBracket = refl
global_mark marks.Equals = refl
global_mark marks.Colon = refl
global_mark marks.Ampersand = refl
global_mark marks.Arrow = refl

local_mark : (m : Mark) → has (symbols.Local ∷ []) (mark_symbol m) ≡ false
local_mark marks.Open = refl
local_mark marks.Close = refl
local_mark marks.OpenBrace = refl
local_mark marks.CloseBrace = refl
local_mark marks.Less = refl
local_mark marks.Greater = refl
local_mark marks.OpenBracket = refl
local_mark marks.CloseBracket = refl
local_mark marks.Equals = refl
local_mark marks.Colon = refl
local_mark marks.Ampersand = refl
local_mark marks.Arrow = refl

number_mark : (m : Mark) → has (symbols.Number ∷ []) (mark_symbol m) ≡ false
number_mark marks.Open = refl
number_mark marks.Close = refl
number_mark marks.OpenBrace = refl
number_mark marks.CloseBrace = refl
number_mark marks.Less = refl
number_mark marks.Greater = refl
number_mark marks.OpenBracket = refl
number_mark marks.CloseBracket = refl
number_mark marks.Equals = refl
number_mark marks.Colon = refl
number_mark marks.Ampersand = refl
number_mark marks.Arrow = refl

global_names : AreNames globals
unfolding words directives
global_names = record { mark = global_mark; word = λ s. looked_up globals symbols.Other words s refl refl; directive = λ s. looked_up globals symbols.Other directives s refl refl; object = refl }

local_names : AreNames (symbols.Local ∷ [])
unfolding words directives
local_names = record { mark = local_mark; word = λ s. looked_up (symbols.Local ∷ []) symbols.Other words s refl refl; directive = λ s. looked_up (symbols.Local ∷ []) symbols.Other directives s refl refl; object = refl }

numbers : AreNames (symbols.Number ∷ [])
unfolding words directives
numbers = record { mark = number_mark; word = λ s. looked_up (symbols.Number ∷ []) symbols.Other words s refl refl; directive = λ s. looked_up (symbols.Number ∷ []) symbols.Other directives s refl refl; object = refl }

differs : {A : Type 0} (x : Bool) → x ≡ false → x ≡ true → A
differs x f t = absurd (cc)

pub told_global : (k : TokenKind) (spelling : List ℕ) → has globals (symbol_of k spelling) ≡ true → k ≡ kinds.Global
told_global kinds.Global s h = refl
told_global kinds.Local s h = differs _ refl h
told_global kinds.Object s h = differs _ refl h
told_global kinds.Directive s h = differs _ (global_names.directive s) h
told_global kinds.Word s h = differs _ (global_names.word s) h
told_global kinds.Number s h = differs _ refl h
told_global (kinds.Mark m) s h = differs _ (global_names.mark m) h

-- a global name is none of the other kinds
local_common : (spelling : List ℕ) → has (symbols.Local ∷ []) (look_up symbols.Global common_names spelling) ≡ false
unfolding common_names
local_common spelling = looked_up (symbols.Local ∷ []) symbols.Global common_names spelling refl refl

number_common : (spelling : List ℕ) → has (symbols.Number ∷ []) (look_up symbols.Global common_names spelling) ≡ false
unfolding common_names
number_common spelling = looked_up (symbols.Number ∷ []) symbols.Global common_names spelling refl refl

pub told_local : (k : TokenKind) (spelling : List ℕ) → has (symbols.Local ∷ []) (symbol_of k spelling) ≡ true → k ≡ kinds.Local
told_local kinds.Global s h = differs _ (local_common s) h
told_local kinds.Local s h = refl
told_local kinds.Object s h = differs _ refl h
told_local kinds.Directive s h = differs _ (local_names.directive s) h
told_local kinds.Word s h = differs _ (local_names.word s) h
told_local kinds.Number s h = differs _ refl h
told_local (kinds.Mark m) s h = differs _ (local_names.mark m) h

pub told_number : (k : TokenKind) (spelling : List ℕ) → has (symbols.Number ∷ []) (symbol_of k spelling) ≡ true → k ≡ kinds.Number
told_number kinds.Global s h = differs _ (number_common s) h
told_number kinds.Local s h = differs _ refl h
told_number kinds.Object s h = differs _ refl h
told_number kinds.Directive s h = differs _ (numbers.directive s) h
told_number kinds.Word s h = differs _ (numbers.word s) h
told_number kinds.Number s h = refl
told_number (kinds.Mark m) s h = differs _ (numbers.mark m) h

-- ---- words of the grammar

-- the tests that a spelling must pass
abbrev pub word_test : Symbol → List ℕ → Bool
word_test s [] = false
word_test s (b ∷ bs) = (is_ascii_alphabetic b && list_all is_word_byte bs) && (nat_le (length (b ∷ bs)) longest_token && has (s ∷ []) (look_up symbols.Other words (b ∷ bs)))

pub word_is : (s : Symbol) (spelling : List ℕ) → word_test s spelling ≡ true → IsWord s kinds.Word spelling
word_is s [] h = absurd (cc)
word_is s (b ∷ bs) h =
    let parts = and_true (is_ascii_alphabetic b && list_all is_word_byte bs) _ h in
    let bytes = and_true (is_ascii_alphabetic b) (list_all is_word_byte bs) parts.0 in
    let others = and_true (nat_le (length (b ∷ bs)) longest_token) _ parts.1 in
    record {
      spells = word b bs bytes.0 bytes.1;
      is_token = record { short = leb-true (length (b ∷ bs)) longest_token others.0; number = λ e. absurd (cc) };
      symbol = others.1;
    }
