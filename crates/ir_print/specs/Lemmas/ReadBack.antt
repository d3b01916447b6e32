-- The canonical text reads back.
use Rattle.std.proofs.Common.{◌≡◌, ℕ, suc, ◌+◌, length, Bool, true, false, List, [], ◌∷◌, ◌++◌, map, Option, None, refl, sym, ap, subst, ◌∙◌, append_assoc}
use Rattle.std.specs.Prelude.{nat_le, ◌||◌, ◌≤◌}
use Rattle.std.specs.List.{list_all, flat_map}
use Rattle.std.proofs.lemmas.Bool.{leb-true, cases_Bool}
use Rattle.std.proofs.Common.{arith, inl, inr}
use Rattle.text_forms.specs.Forms.{within}
use Rattle.ir_print.specs.Lemmas.Choices.{Said}
use Rattle.text_forms.specs.declared.symbol.Symbol.TheVariants as symbols
use Rattle.text_forms.specs.Tokens.{Tok}
use Rattle.text_forms.specs.Derives.{Derives}
use Rattle.text_forms.specs.Lemmas.Judged.{is_unambiguous}
use Rattle.ir_lex.specs.declared.token.Token.{Token}
use Rattle.ir_lex.specs.declared.token.LexFault.{LexFault}
use Rattle.ir_lex.specs.Bytes.{is_blank}
use Rattle.ir_lex.specs.Spellings.{Spells}
use Rattle.ir_lex.specs.Lexemes.{IsToken}
use Rattle.ir_lex.specs.Texts.{IsNext, Lexes, ends, stops, reads, spelling_of}
use Rattle.ir_lex.specs.Printed.{Piece, text_of, tokens_of}
use Rattle.ir_lex.specs.Seen.{symbol_of, tok_of, seen}
use Rattle.ir_lex.specs.Walk.{tokens_from}
use Rattle.ir_lex.specs.Lemmas.Nexts.{next_spelling}
use Rattle.ir_lex.specs.Lemmas.Lists.{one_list, pieces_read_back}
use Rattle.ir_lex.specs.Lemmas.Cursors.{from_lexes}
use Rattle.ir_tree.specs.declared.items.Item.{Item}
use Rattle.ir_tree.specs.declared.items.Item.TheVariants as items
use Rattle.ir_tree.specs.Items.{item, bundle}
use Rattle.ir_tree.specs.Lemmas.Grammatical.{is_grammar}
use Rattle.ir_print.specs.Words.{word_text, on_new_line}
use Rattle.ir_print.specs.Items.{typedef_words, funcsig_words, constant_words, global_cell_words, funcdecl_words, funcdef_words, item_words, item_text, bundle_text}
use Rattle.ir_print.specs.Placeless.{bare_item, bare_bundle}
use Rattle.ir_print.specs.Laws.{ReadsBack, ReadsBackOnly, IsRead, AllRead, ItemsReadBack}
use Rattle.ir_print.specs.Lemmas.Texts.{text_append}
use Rattle.ir_print.specs.Lemmas.Apart.{some, Apart, after, apart_append, stand_apart}
use Rattle.ir_print.specs.Lemmas.Prints.{IsGood, AllGood, tok, toks, toks_append, erase}
use Rattle.ir_print.specs.Lemmas.Members.{Members, within_is, within_again, members_placed}
use Rattle.ir_print.specs.Lemmas.ItemForms.{item_prints}

-- ---- the tokens of a text are good, save the last

abbrev AlmostGood : List Tok → Type 0
AlmostGood [] = Unit {0}
AlmostGood (t ∷ []) = Unit {0}
AlmostGood (t ∷ s ∷ ts) = IsGood t × AlmostGood (s ∷ ts)

one_more : (t : Tok) (ts : List Tok) → IsGood t → AlmostGood ts → AlmostGood (t ∷ ts)
one_more t [] g a = tt
one_more t (s ∷ ts) g a = (g, a)

almost_split : (u : List Tok) (x : Tok) (v : List Tok) → AlmostGood (u ++ x ∷ v) → AllGood u × AlmostGood (x ∷ v)
almost_split [] x v a = (tt, a)
almost_split (t ∷ []) x v (g, a) = ((g, tt), a)
almost_split (t ∷ s ∷ u) x v (g, a) = let (b, c) = almost_split (s ∷ u) x v a in ((g, b), c)

token_good : (text : List ℕ) (at : ℕ) (t : Token) → IsNext text at t → IsGood (tok_of text t)
token_good text at t is =
    let e = sym (next_spelling text at t is) in
    record { kind = t.kind; spells = subst (Spells t.kind) e is.longest.spells; is_token = subst (IsToken t.kind) e is.is_token; symbol = refl }

seen_good : (text : List ℕ) (at : ℕ) (ts : List Token) (end : Option LexFault) → Lexes text at ts end → AlmostGood (seen text ts end)
seen_good text _ _ _ (ends at is) = tt
seen_good text _ _ _ (stops at f is) = tt
seen_good text _ _ _ (reads at t more end is later) = one_more (tok_of text t) (seen text more end) (token_good text at t is) (seen_good text t.to more end later)

text_good : (text : List ℕ) → AlmostGood (tokens_from text 0)
text_good text =
    let list = one_list text in
    subst AlmostGood (sym (from_lexes text 0 list.0 list.1 list.2)) (seen_good text 0 list.0 list.1 list.2)

-- ---- the words of items

abbrev pieces_from : List ℕ → List Item → List Piece
pieces_from space [] = []
pieces_from space (x ∷ xs) = item_words space x ++ pieces_from on_new_line xs

-- the end of a text, without its place
abbrev end_tok : Tok
end_tok = record { symbol = symbols.End; place = 0; spelling = [] }

abbrev ItemsOf : Tok → ℕ → List Tok → List Item → Type 0
ItemsOf t k ts xs = Members item 16384 (symbols.End ∷ []) t k ts xs

record Some (ts : List Tok) : Type 0 where
  first : Tok
  others : List Tok
  parts : ts ≡ first ∷ others

some_append : (u v : List Tok) → Some v → Some (u ++ v)
some_append [] v s = s
some_append (t ∷ u) v s = record { first = t; others = u ++ v; parts = refl }

items_some : (xs : List Item) (t : Tok) (k : ℕ) (ts : List Tok) → ItemsOf t k ts xs → Some ts
items_some [] t k ts (q, h) = record { first = t; others = []; parts = q }
items_some (x ∷ xs) t k ts (u, v, q, d, rest) = subst Some (sym q) (some_append u v (items_some xs t (suc k) v rest))

record ItemsAgain (space : List ℕ) (k : ℕ) (xs : List Item) : Type 0 where
  derived : ItemsOf end_tok k (toks (pieces_from space xs) ++ end_tok ∷ []) (map bare_item xs)
  apart : (o : Bool) → (o || some space) ≡ true → Apart o (pieces_from space xs)

or_some : (o : Bool) → (o || some on_new_line) ≡ true
or_some true = refl
or_some false = refl

items_again : (xs : List Item) (space : List ℕ) → list_all is_blank space ≡ true → (t : Tok) (k : ℕ) (ts : List Tok) → AlmostGood ts → ItemsOf t k ts xs → ItemsAgain space k xs
items_again [] space blank t k ts good d = record { derived = (refl, refl); apart = λ o h. tt }
items_again (x ∷ xs) space blank t k ts good (u, v, q, d, rest) =
    let s = items_some xs t (suc k) v rest in
    let (gu, gs) = almost_split u s.first s.others (subst AlmostGood (q ∙ ap (λ (l : List Tok). u ++ l) s.parts) good) in
    let gv : AlmostGood v = subst AlmostGood (sym s.parts) gs in
    let here = within_is item (nat_le 16384 k) u x d in
    let r = items_again xs on_new_line refl t (suc k) v gv rest in
    let ws = item_words space x in
    let more = pieces_from on_new_line xs in
    record {
      derived = (
        toks ws,
        toks more ++ end_tok ∷ [],
        ap (λ (l : List Tok). l ++ end_tok ∷ []) (toks_append ws more) ∙ append_assoc (toks ws) (toks more) (end_tok ∷ []),
        within_again item (nat_le 16384 k) u (toks ws) x (bare_item x) d (item_prints.again space u x gu here),
        r.derived,
      );
      apart = λ o h. apart_append o ws more (item_prints.apart space u x blank gu here o h) (r.apart (after o ws) (or_some (after o ws)));
    }

bundle_unplaces : (ts : List Tok) (b : List Item) → Derives bundle (erase ts) b → (a : List Item) × Derives bundle ts a × (bare_bundle a ≡ b)
unfolding bundle
bundle_unplaces ts b (x, d, q) =
    let r = members_placed item bare_item bare_item item_words item_prints 16384 (symbols.End ∷ []) x.1 x.0 0 ts d in
    (r.members, ((r.members, r.last), r.derived, refl), r.same ∙ sym q)

-- ---- their text

whole_text : (ps : List Piece) (last : List ℕ) → text_of ps last ≡ flat_map word_text ps ++ last
whole_text [] last = refl
whole_text (p ∷ ps) last =
    ap (λ (l : List ℕ). p.space ++ (p.spelling ++ l)) (whole_text ps last)
    ∙ sym (append_assoc p.space p.spelling (flat_map word_text ps ++ last))
    ∙ sym (append_assoc (p.space ++ p.spelling) (flat_map word_text ps) last)

-- the first word of an item stands behind its blanks
item_line : (x : Item) → flat_map word_text (item_words on_new_line x) ≡ on_new_line ++ flat_map word_text (item_words [] x)
unfolding item_words typedef_words funcsig_words constant_words global_cell_words funcdecl_words funcdef_words
item_line (items.Typedef x) = refl
item_line (items.Funcsig x) = refl
item_line (items.Const x) = refl
item_line (items.GlobalCell x) = refl
item_line (items.Funcdecl x) = refl
item_line (items.Funcdef x) = refl

-- a line feed ends an item, or begins the next
lines_text : (xs : List Item) → flat_map word_text (pieces_from on_new_line xs) ++ on_new_line ≡ on_new_line ++ flat_map item_text xs
lines_text [] = refl
lines_text (x ∷ xs) =
    let one = flat_map word_text (item_words [] x) in
    let more = flat_map word_text (pieces_from on_new_line xs) in
    let rest = flat_map item_text xs in
    ap (λ (l : List ℕ). l ++ on_new_line) (text_append (item_words on_new_line x) (pieces_from on_new_line xs) ∙ ap (λ (l : List ℕ). l ++ more) (item_line x))
    ∙ append_assoc (on_new_line ++ one) more on_new_line
    ∙ ap (λ (l : List ℕ). (on_new_line ++ one) ++ l) (lines_text xs)
    ∙ ap (λ (l : List ℕ). 10 ∷ l) (sym (append_assoc one on_new_line rest))

last_blank : List Item → List ℕ
last_blank [] = []
last_blank (x ∷ xs) = on_new_line

last_is_blank : (xs : List Item) → list_all is_blank (last_blank xs) ≡ true
unfolding last_blank
last_is_blank [] = refl
last_is_blank (x ∷ xs) = refl

bundle_is : (xs : List Item) → text_of (pieces_from [] xs) (last_blank xs) ≡ bundle_text xs
unfolding last_blank
bundle_is [] = refl
bundle_is (x ∷ xs) =
    let one = flat_map word_text (item_words [] x) in
    let more = flat_map word_text (pieces_from on_new_line xs) in
    whole_text (pieces_from [] (x ∷ xs)) on_new_line
    ∙ ap (λ (l : List ℕ). l ++ on_new_line) (text_append (item_words [] x) (pieces_from on_new_line xs))
    ∙ append_assoc one more on_new_line
    ∙ ap (λ (l : List ℕ). one ++ l) (lines_text xs)
    ∙ sym (append_assoc one on_new_line (flat_map item_text xs))

-- ---- its tokens

seen_tokens : (text : List ℕ) (ps : List Piece) (at : ℕ) → map (spelling_of text) (tokens_of at ps) ≡ map (λ (p : Piece). p.spelling) ps → erase (seen text (tokens_of at ps) None) ≡ toks ps ++ end_tok ∷ []
seen_tokens text [] at e = refl
seen_tokens text (p ∷ ps) at e =
    let from = at + length p.space in
    let t : Token = record { kind = p.kind; from = from; to = from + length p.spelling } in
    let here : spelling_of text t ≡ p.spelling = cc in
    let later : map (spelling_of text) (tokens_of (from + length p.spelling) ps) ≡ map (λ (p : Piece). p.spelling) ps = cc in
    ap (λ (l : List ℕ). record { symbol = symbol_of p.kind l; place = 0; spelling = l } ∷ erase (seen text (tokens_of (from + length p.spelling) ps) None)) here
    ∙ ap (λ (l : List Tok). tok p ∷ l) (seen_tokens text ps (from + length p.spelling) later)

printed_tokens : (xs : List Item) → Apart true (pieces_from [] xs) → erase (tokens_from (bundle_text xs) 0) ≡ toks (pieces_from [] xs) ++ end_tok ∷ []
printed_tokens xs apart =
    let ps = pieces_from [] xs in
    let last = last_blank xs in
    let (lexed, spelled) = pieces_read_back ps last (stand_apart true ps last apart (last_is_blank xs)) in
    subst (λ (text : List ℕ). erase (tokens_from text 0) ≡ toks ps ++ end_tok ∷ []) (bundle_is xs)
    (ap erase (from_lexes (text_of ps last) 0 (tokens_of 0 ps) None lexed) ∙ seen_tokens (text_of ps last) ps 0 spelled)

-- ---- the law

bundle_again : (ts : List Tok) (b : List Item) → AlmostGood ts → Derives bundle ts b → Derives bundle (erase (tokens_from (bundle_text b) 0)) (bare_bundle b)
unfolding bundle
bundle_again ts b good (x, d, q) =
    let r = items_again b [] refl x.1 0 ts good (subst (λ (l : List Item). ItemsOf x.1 0 ts l) (sym q) d) in
    subst (λ (l : List Tok). Derives bundle l (bare_bundle b)) (sym (printed_tokens b (r.apart true refl))) ((bare_bundle b, end_tok), r.derived, refl)

pub reads_back : ReadsBack
reads_back text b d =
    let (c, dc, same) = bundle_unplaces (tokens_from (bundle_text b) 0) (bare_bundle b) (bundle_again (tokens_from text 0) b (text_good text) d) in
    (c, dc, sym same)

pub reads_back_only : ReadsBackOnly
reads_back_only text b c d e =
    let (a, da, same) = reads_back text b d in
    same ∙ ap bare_bundle (is_unambiguous bundle is_grammar (tokens_from (bundle_text b) 0) a c da e)

-- ---- items that each some text has

said_item : (front back : List Item) (x : Item) (t : Tok) (k : ℕ) (ts : List Tok) → AlmostGood ts → ItemsOf t k ts (front ++ x ∷ back) → Said item x
said_item [] back x t k ts good (u, v, q, d, rest) =
    let s = items_some back t (suc k) v rest in
    let (gu, gs) = almost_split u s.first s.others (subst AlmostGood (q ∙ ap (λ (l : List Tok). u ++ l) s.parts) good) in
    record { tokens = u; good = gu; derived = within_is item (nat_le 16384 k) u x d }
said_item (y ∷ front) back x t k ts good (u, v, q, d, rest) =
    let s = items_some (front ++ x ∷ back) t (suc k) v rest in
    let (gu, gs) = almost_split u s.first s.others (subst AlmostGood (q ∙ ap (λ (l : List Tok). u ++ l) s.parts) good) in
    said_item front back x t (suc k) v (subst AlmostGood (sym s.parts) gs) rest

is_said : (x : Item) → IsRead x → Said item x
unfolding bundle
is_said x (text, front, back, (y, d, q)) = said_item front back x y.1 0 (tokens_from text 0) (text_good text) (subst (λ (l : List Item). ItemsOf y.1 0 (tokens_from text 0) l) (sym q) d)

below : (n k m : ℕ) → k + suc m ≤ n → nat_le n k ≡ false
below n k m fits = elim (cases_Bool (nat_le n k)) [
  | inl e ↦ absurd (let least = leb-true n k e in omega arith)
  | inr e ↦ e
]

all_again : (xs : List Item) → AllRead xs → (space : List ℕ) → list_all is_blank space ≡ true → (k : ℕ) → k + length xs ≤ 16384 → ItemsAgain space k xs
all_again [] all space blank k fits = record { derived = (refl, refl); apart = λ o h. tt }
all_again (x ∷ xs) (r, all) space blank k fits =
    let s = is_said x r in
    let later = all_again xs all on_new_line refl (suc k) (omega arith) in
    let ws = item_words space x in
    let more = pieces_from on_new_line xs in
    record {
      derived = (
        toks ws,
        toks more ++ end_tok ∷ [],
        ap (λ (l : List Tok). l ++ end_tok ∷ []) (toks_append ws more) ∙ append_assoc (toks ws) (toks more) (end_tok ∷ []),
        subst (λ (b : Bool). Derives (within item b) (toks ws) (bare_item x)) (sym (below 16384 k (length xs) (omega arith))) (item_prints.again space s.tokens x s.good s.derived),
        later.derived,
      );
      apart = λ o h. apart_append o ws more (item_prints.apart space s.tokens x blank s.good s.derived o h) (later.apart (after o ws) (or_some (after o ws)));
    }

items_derived : (b : List Item) → ItemsAgain [] 0 b → Derives bundle (erase (tokens_from (bundle_text b) 0)) (bare_bundle b)
unfolding bundle
items_derived b r = subst (λ (l : List Tok). Derives bundle l (bare_bundle b)) (sym (printed_tokens b (r.apart true refl))) ((bare_bundle b, end_tok), r.derived, refl)

pub items_read_back : ItemsReadBack
items_read_back b all fits =
    let (c, dc, same) = bundle_unplaces (tokens_from (bundle_text b) 0) (bare_bundle b) (items_derived b (all_again b all [] refl 0 (omega arith))) in
    (c, dc, sym same)
