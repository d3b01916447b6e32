-- The words of forms of one token: marks, words and directives of the grammar, names and numbers.
use Rattle.std.proofs.Common.{◌≡◌, ℕ, ◌<◌, ◌^◌, Bool, true, false, List, [], ◌∷◌, length, refl, sym, ap, subst, ◌∙◌}
use Rattle.std.specs.Prelude.{◌&&◌, ◌||◌, nat_le}
use Rattle.std.specs.List.{list_all}
use Rattle.std.proofs.lemmas.Bool.{leb-true}
use Rattle.text_forms.specs.declared.symbol.Symbol.{Symbol}
use Rattle.text_forms.specs.declared.symbol.Symbol.TheVariants as symbols
use Rattle.text_forms.specs.Tokens.{Tok, has}
use Rattle.text_forms.specs.Forms.{never}
use Rattle.text_forms.specs.Lemmas.Tests.{and_true}
use Rattle.ir_lex.specs.declared.token.TokenKind.{TokenKind}
use Rattle.ir_lex.specs.declared.token.TokenKind.TheVariants as kinds
use Rattle.ir_lex.specs.declared.token.Mark.{Mark}
use Rattle.ir_lex.specs.declared.token.Number.{Number}
use Rattle.ir_lex.specs.declared.name.Numeral.{Numeral}
use Rattle.ir_lex.specs.Bytes.{is_blank, is_directive_byte, is_name_byte}
use Rattle.ir_lex.specs.Spellings.{mark_bytes, global, directive, mark as mark_spells}
use Rattle.ir_lex.specs.Lexemes.{IsToken, longest_token}
use Rattle.ir_lex.specs.Scanner.{number_of}
use Rattle.ir_lex.specs.Printed.{Piece}
use Rattle.ir_lex.specs.WordTable.{look_up, directives, common_names}
use Rattle.ir_lex.specs.Seen.{mark_symbol}
use Rattle.ir_lex.specs.TokenForms.{mark, numeral}
use Rattle.ir_lex.specs.Lemmas.Cursors.{numbers_are_meant}
use Rattle.ir_tree.specs.Words.{one_of}
use Rattle.ir_tree.specs.Lists.{globals, global as global_form, local as local_form}
use Rattle.ir_print.specs.Words.{mark as mark_piece, word as word_piece, directive as directive_piece, number as number_piece, number_text, global_words, local_words}
use Rattle.ir_print.specs.Placeless.{bare_name, bare_number}
use Rattle.ir_print.specs.Lemmas.Apart.{stands_tight, some}
use Rattle.ir_print.specs.Lemmas.Numbers.{IsSpelled, spelled}
use Rattle.ir_print.specs.Lemmas.Prints.{AllGood, IsWord, Prints, tok, erased_one, mark_prints, name_prints, made_prints, on_prints}
use Rattle.ir_print.specs.Lemmas.Members.{Closes}
use Rattle.ir_print.specs.Lemmas.TokenKinds.{told_global, told_local, told_number, word_test, word_is}

-- ---- names

pub global_prints : Prints false false global_form bare_name bare_name global_words
unfolding global_form
global_prints = name_prints globals kinds.Global told_global

pub local_prints : Prints false false local_form bare_name bare_name local_words
unfolding local_form
local_prints = name_prints (symbols.Local ∷ []) kinds.Local told_local

-- ---- marks, words and directives

mark_is : (s : Symbol) (m : Mark) → nat_le (length (mark_bytes m)) longest_token ≡ true → has (s ∷ []) (mark_symbol m) ≡ true → IsWord s (kinds.Mark m) (mark_bytes m)
mark_is s m short same = record { spells = mark_spells m; is_token = record { short = leb-true (length (mark_bytes m)) longest_token short; number = λ e. absurd (cc) }; symbol = same }

pub mark_at : (s : Symbol) (m : Mark) → nat_le (length (mark_bytes m)) longest_token ≡ true → has (s ∷ []) (mark_symbol m) ≡ true
    → Prints (stands_tight (kinds.Mark m)) true (mark s) (λ _. 0) (λ _. 0) (λ space _. mark_piece space m ∷ [])
mark_at s m short same = mark_prints s (kinds.Mark m) (mark_bytes m) (mark_is s m short same)

pub word_at : (s : Symbol) (spelling : List ℕ) → word_test s spelling ≡ true → Prints false false (mark s) (λ _. 0) (λ _. 0) (λ space _. word_piece space spelling ∷ [])
word_at s spelling h = mark_prints s kinds.Word spelling (word_is s spelling h)

-- directives and the names of common instructions, behind their first byte
abbrev pub directive_test : Symbol → List ℕ → Bool
directive_test s body = ((nat_le 1 (length body) && list_all is_directive_byte body) && nat_le (length (46 ∷ body)) longest_token) && has (s ∷ []) (look_up symbols.Other directives (46 ∷ body))

abbrev pub common_test : Symbol → List ℕ → Bool
common_test s body = ((nat_le 1 (length body) && list_all is_name_byte body) && nat_le (length (64 ∷ body)) longest_token) && has (s ∷ []) (look_up symbols.Global common_names (64 ∷ body))

pub directive_at : (s : Symbol) (body : List ℕ) → directive_test s body ≡ true → Prints false false (mark s) (λ _. 0) (λ _. 0) (λ space _. directive_piece space (46 ∷ body) ∷ [])
directive_at s body h =
    let a = and_true ((nat_le 1 (length body) && list_all is_directive_byte body) && nat_le (length (46 ∷ body)) longest_token) (has (s ∷ []) (look_up symbols.Other directives (46 ∷ body))) h in
    let b = and_true (nat_le 1 (length body) && list_all is_directive_byte body) (nat_le (length (46 ∷ body)) longest_token) a.0 in
    let c = and_true (nat_le 1 (length body)) (list_all is_directive_byte body) b.0 in
    mark_prints s kinds.Directive (46 ∷ body) (record {
      spells = directive body (leb-true 1 (length body) c.0) c.1;
      is_token = record { short = leb-true (length (46 ∷ body)) longest_token b.1; number = λ e. absurd (cc) };
      symbol = a.1;
    })

pub common_at : (s : Symbol) (body : List ℕ) → common_test s body ≡ true → Prints false false (mark s) (λ _. 0) (λ _. 0) (λ space _. record { space = space; kind = kinds.Global; spelling = 64 ∷ body } ∷ [])
common_at s body h =
    let a = and_true ((nat_le 1 (length body) && list_all is_name_byte body) && nat_le (length (64 ∷ body)) longest_token) (has (s ∷ []) (look_up symbols.Global common_names (64 ∷ body))) h in
    let b = and_true (nat_le 1 (length body) && list_all is_name_byte body) (nat_le (length (64 ∷ body)) longest_token) a.0 in
    let c = and_true (nat_le 1 (length body)) (list_all is_name_byte body) b.0 in
    mark_prints s kinds.Global (64 ∷ body) (record {
      spells = global body (leb-true 1 (length body) c.0) c.1;
      is_token = record { short = leb-true (length (64 ∷ body)) longest_token b.1; number = λ e. absurd (cc) };
      symbol = a.1;
    })

-- ---- one of several words

abbrev pub all_words : {A : Type 0} → (A → List ℕ) → List (Symbol × A) → Bool
all_words text [] = true
all_words text (w ∷ ws) = word_test w.0 (text w.1) && all_words text ws

pub one_of_prints : {A : Type 0} (text : A → List ℕ) (ws : List (Symbol × A)) → all_words text ws ≡ true → Prints false false (one_of ws) (λ x. (0, x.1)) (λ x. (0, x.1)) (λ space x. word_piece space (text x.1) ∷ [])
one_of_prints {A} text [] h = loose_never
  where
    loose_never : {B : Type 0} {e : B → B} {p : List ℕ → B → List Piece} → Prints false false (never {A = B}) e e p
    loose_never = record {
      again = λ s ts a good d. absurd d;
      apart = λ s ts a blank good d o loose. absurd d;
      ends = λ s ts a d o h. absurd d;
      placed = λ ts b d. absurd d;
    }
one_of_prints {A} text (w ∷ ws) h =
    let parts = and_true (word_test w.0 (text w.1)) (all_words text ws) h in
    on_prints (made_prints {h = λ place. (place, w.1)} (word_at w.0 (text w.1) parts.0) (λ _. refl) (λ _ _. refl)) (one_of_prints text ws parts.1)

-- ---- numbers

one_number : (n : Number) → IsSpelled n → n.magnitude < 2 ^ 128 → number_of (number_text n) ≡ n
one_number n is small = numbers_are_meant (number_text n) n is.means small

-- a number token stands for a number that its text spells
pub record IsMeant (n : Numeral) : Type 0 where
  pub is : IsSpelled n.number
  pub again : number_of (number_text n.number) ≡ n.number

pub number_is_meant : (n : Numeral) (spelling : List ℕ) → n.number ≡ number_of spelling → IsToken kinds.Number spelling → IsMeant n
number_is_meant n spelling e is =
    let (m, means, small) = is.number refl in
    let same : m ≡ n.number = sym (e ∙ numbers_are_meant spelling m means small) in
    let s = spelled spelling m means small in
    let pair = subst (λ (z : Number). IsSpelled z × (number_of (number_text z) ≡ z)) same (s, one_number m s small) in
    record { is = pair.0; again = pair.1 }

pub numeral_prints : Prints false false numeral bare_number bare_number (λ space n. number_piece space n ∷ [])
unfolding numeral
numeral_prints = record {
  again = λ space ts n good (t, (q, h), r).
      let g = (subst AllGood q good).0 in
      let k = told_number g.kind t.spelling (subst (λ (z : Symbol). has (symbols.Number ∷ []) z ≡ true) g.symbol h) in
      let is = number_is_meant n t.spelling (ap (λ (z : Numeral). z.number) r) (subst (λ (z : TokenKind). IsToken z t.spelling) k g.is_token) in
      (tok (number_piece space n), (refl, refl), ap (λ (z : Number). record { place = 0; number = z }) (sym is.again));
  apart = λ space ts n blank good (t, (q, h), r) o loose.
      let g = (subst AllGood q good).0 in
      let k = told_number g.kind t.spelling (subst (λ (z : Symbol). has (symbols.Number ∷ []) z ≡ true) g.symbol h) in
      let is = number_is_meant n t.spelling (ap (λ (z : Numeral). z.number) r) (subst (λ (z : TokenKind). IsToken z t.spelling) k g.is_token) in
      (record { blanks = blank; spells = is.is.spells; is_token = is.is.is_token }, loose, tt);
  ends = λ space ts n d o h. absurd (cc);
  placed = λ ts y (t, (q, h), r).
      let one = erased_one ts t q in (
        record { place = one.only.place; number = number_of one.only.spelling },
        (one.only, (one.parts, subst (λ (z : Tok). has (symbols.Number ∷ []) z.symbol ≡ true) (sym one.same) h), refl),
        ap (λ (z : Tok). record { place = z.place; number = number_of z.spelling }) one.same ∙ sym r,
      );
}

-- ---- the marks that close lists

pub close_is : (s : Symbol) (m : Mark) (space : List ℕ) → list_all is_blank space ≡ true → (stands_tight (kinds.Mark m) || some space) ≡ true → nat_le (length (mark_bytes m)) longest_token ≡ true
    → has (s ∷ []) (mark_symbol m) ≡ true → Closes (s ∷ []) (mark_piece space m)
close_is s m space blank loose short same =
    let is = mark_is s m short same in
    record { is = record { blanks = blank; spells = is.spells; is_token = is.is_token }; loose = loose; symbol = is.symbol }
