-- The names of a bundle that is read from a text are tokens of the text, and so are spelled as names.
use Rattle.std.proofs.Common.{◌≡◌, ℕ, suc, Bool, true, false, not, List, [], ◌∷◌, ◌++◌, nat_le, inl, inr, ◌⊎◌, if◌then◌else◌, refl, sym, subst, ◌∙◌, Option, Some, None}
use Rattle.std.specs.List.{list_all}
use Rattle.std.specs.Str.{bytes_eq}
use Rattle.std.proofs.lemmas.Bool.{and_parts, false≢true}
use Rattle.text_forms.specs.declared.symbol.Symbol.{Symbol}
use Rattle.text_forms.specs.declared.symbol.Symbol.TheVariants as symbols
use Rattle.text_forms.specs.Tokens.{Tok, has}
use Rattle.text_forms.specs.Forms.{token, within, ◌◂◌}
use Rattle.text_forms.specs.Derives.{Elements, Derives}
use Rattle.ir_lex.specs.declared.name.Name.{Name}
use Rattle.ir_lex.specs.declared.token.TokenKind.{TokenKind}
use Rattle.ir_lex.specs.declared.token.TokenKind.TheVariants as kinds
use Rattle.ir_lex.specs.declared.token.Mark.{Mark}
use Rattle.ir_lex.specs.declared.token.Mark.TheVariants as marks
use Rattle.ir_lex.specs.declared.token.LexKind.{LexKind}
use Rattle.ir_lex.specs.declared.token.LexKind.TheVariants as faults
use Rattle.ir_lex.specs.declared.token.Token.{Token}
use Rattle.ir_lex.specs.declared.token.LexFault.{LexFault}
use Rattle.ir_lex.specs.Seen.{fault_symbol, mark_symbol, seen, symbol_of}
use Rattle.ir_lex.specs.Spellings.{Spells}
use Rattle.ir_lex.specs.Texts.{Lexes, ends, stops, reads}
use Rattle.ir_lex.specs.TokenForms.{mark, name}
use Rattle.ir_lex.specs.WordTable.{Row, look_up, words, directives, common_names}
use Rattle.ir_lex.specs.Lemmas.Nexts.{next_spelling}
use Rattle.ir_tree.specs.declared.code.Block.{Block}
use Rattle.ir_tree.specs.declared.code.BlockHead.{BlockHead}
use Rattle.ir_tree.specs.declared.code.Inst.{Inst}
use Rattle.ir_tree.specs.declared.code.Line.{Line}
use Rattle.ir_tree.specs.declared.code.Line.TheVariants as body_lines
use Rattle.ir_tree.specs.declared.items.Funcdef.{Funcdef}
use Rattle.ir_tree.specs.declared.definitions.Funcdecl.{Funcdecl}
use Rattle.ir_tree.specs.declared.items.Item.{Item}
use Rattle.ir_tree.specs.declared.items.Item.TheVariants as items
use Rattle.ir_tree.specs.Lists.{globals, global, local}
use Rattle.ir_tree.specs.Blocks.{HeadRest, head}
use Rattle.ir_tree.specs.Bodies.{Body, body, body_rest, flags, step, line, named_line, opened, opened_line, results, parted, blocks_of}
use Rattle.ir_tree.specs.Items.{funcdecl, funcdef, item, bundle as bundle_form}
use Rattle.ir_text.specs.TextAnswers.{bundle_read}
use Rattle.bundle_facts.specs.Spelled.{BlocksAreSpelled, ItemIsSpelled, NamesAreSpelled, NamesOfTextsAreSpelled}

-- ---- tokens

abbrev TokIsSpelled : Tok → Type 0
TokIsSpelled t = (has globals t.symbol ≡ true → Spells kinds.Global t.spelling) × (has (symbols.Local ∷ []) t.symbol ≡ true → Spells kinds.Local t.spelling)

abbrev AreSpelled : List Tok → Type 0
AreSpelled [] = Unit {0}
AreSpelled (t ∷ ts) = TokIsSpelled t × AreSpelled ts

look_up_not : (test : Symbol → Bool) (otherwise : Symbol) (rows : List Row) (s : List ℕ) → test otherwise ≡ false → list_all (λ (r : Row). not (test r.1)) rows ≡ true → test (look_up otherwise rows s) ≡ false
look_up_not test otherwise [] s h all = h
look_up_not test otherwise (r ∷ rows) s h all =
    let parts = and_parts (not (test r.1)) (list_all (λ (r : Row). not (test r.1)) rows) all in
    by (bytes_eq s r.0) (not_true (test r.1) parts.0) (look_up_not test otherwise rows s h parts.1)
  where
    not_true : (b : Bool) → not b ≡ true → b ≡ false
    not_true false e = refl
    not_true true e = absurd (false≢true e)

    by : (b : Bool) → test r.1 ≡ false → test (look_up otherwise rows s) ≡ false → test (if b then r.1 else look_up otherwise rows s) ≡ false
    by true one rest = one
    by false one rest = rest

never : {A : Type 0} (b : Bool) → b ≡ false → b ≡ true → A
never b e h = absurd (false≢true (sym e ∙ h))

tok_spelled : (k : TokenKind) (s : List ℕ) (place : ℕ) → Spells k s → TokIsSpelled (record { symbol = symbol_of k s; place = place; spelling = s })
unfolding words directives common_names
tok_spelled kinds.Global s place h = ((λ e. h), (λ e. never _ (look_up_not (has (symbols.Local ∷ [])) symbols.Global common_names s refl refl) e))
tok_spelled kinds.Local s place h = ((λ e. absurd (false≢true e)), (λ e. h))
tok_spelled kinds.Object s place h = ((λ e. absurd (false≢true e)), (λ e. absurd (false≢true e)))
tok_spelled kinds.Directive s place h = ((λ e. never _ (look_up_not (has globals) symbols.Other directives s refl refl) e), (λ e. never _ (look_up_not (has (symbols.Local ∷ [])) symbols.Other directives s refl refl) e))
tok_spelled kinds.Word s place h = ((λ e. never _ (look_up_not (has globals) symbols.Other words s refl refl) e), (λ e. never _ (look_up_not (has (symbols.Local ∷ [])) symbols.Other words s refl refl) e))
tok_spelled kinds.Number s place h = ((λ e. absurd (false≢true e)), (λ e. absurd (false≢true e)))
tok_spelled (kinds.Mark m) s place h = ((λ e. never _ (no_global m) e), (λ e. never _ (no_local m) e))
  where
    no_global : (m : Mark) → has globals (mark_symbol m) ≡ false
    no_global marks.Open = refl
    no_global marks.Close = refl
    no_global marks.OpenBrace = refl
    no_global marks.CloseBrace = refl
    no_global marks.Less = refl
    no_global marks.Greater = refl
    no_global marks.OpenBracket = refl
    no_global marks.CloseBracket = refl
    no_global marks.Equals = refl
    no_global marks.Colon = refl
    no_global marks.Ampersand = refl
    no_global marks.Arrow = refl

    no_local : (m : Mark) → has (symbols.Local ∷ []) (mark_symbol m) ≡ false
    no_local marks.Open = refl
    no_local marks.Close = refl
    no_local marks.OpenBrace = refl
    no_local marks.CloseBrace = refl
    no_local marks.Less = refl
    no_local marks.Greater = refl
    no_local marks.OpenBracket = refl
    no_local marks.CloseBracket = refl
    no_local marks.Equals = refl
    no_local marks.Colon = refl
    no_local marks.Ampersand = refl
    no_local marks.Arrow = refl

fault_spelled : (k : LexKind) (s : List ℕ) (place : ℕ) → TokIsSpelled (record { symbol = fault_symbol k; place = place; spelling = s })
fault_spelled faults.BadByte s place = ((λ e. absurd (false≢true e)), (λ e. absurd (false≢true e)))
fault_spelled faults.BadName s place = ((λ e. absurd (false≢true e)), (λ e. absurd (false≢true e)))
fault_spelled faults.NumberTooLarge s place = ((λ e. absurd (false≢true e)), (λ e. absurd (false≢true e)))
fault_spelled faults.TooLong s place = ((λ e. absurd (false≢true e)), (λ e. absurd (false≢true e)))

seen_spelled : (text : List ℕ) (at : ℕ) (tokens : List Token) (end : Option LexFault) → Lexes text at tokens end → AreSpelled (seen text tokens end)
seen_spelled text _ _ _ (ends at is) = (((λ e. absurd (false≢true e)), (λ e. absurd (false≢true e))), tt)
seen_spelled text _ _ _ (stops at f is) = (fault_spelled f.kind [] f.place, tt)
seen_spelled text _ _ _ (reads at t more end is later) =
    (subst (λ (s : List ℕ). TokIsSpelled (record { symbol = symbol_of t.kind s; place = t.from; spelling = s })) (sym (next_spelling text at t is)) (tok_spelled t.kind is.spelling t.from is.longest.spells), seen_spelled text t.to more end later)

-- ---- parts of a list of tokens

parts_spelled : (u v : List Tok) → AreSpelled (u ++ v) → AreSpelled u × AreSpelled v
parts_spelled [] v h = (tt, h)
parts_spelled (t ∷ u) v h = let r = parts_spelled u v h.1 in ((h.0, r.0), r.1)

split : (ts u v : List Tok) → ts ≡ u ++ v → AreSpelled ts → AreSpelled u × AreSpelled v
split ts u v e h = parts_spelled u v (subst AreSpelled e h)

global_spelled : (ts : List Tok) (n : Name) → Derives global ts n → AreSpelled ts → Spells kinds.Global n.text
unfolding global name
global_spelled ts n h k = let one : AreSpelled (h.0 ∷ []) = subst AreSpelled h.1.0 k in subst (λ (x : Name). Spells kinds.Global x.text) (sym h.2) (one.0.0 h.1.1)

local_spelled : (ts : List Tok) (n : Name) → Derives local ts n → AreSpelled ts → Spells kinds.Local n.text
unfolding local name
local_spelled ts n h k = let one : AreSpelled (h.0 ∷ []) = subst AreSpelled h.1.0 k in subst (λ (x : Name). Spells kinds.Local x.text) (sym h.2) (one.0.1 h.1.1)

before_spelled : (s : Symbol) (ts : List Tok) (n : Name) → Derives (global ◂ mark s) ts n → AreSpelled ts → Spells kinds.Global n.text
before_spelled s ts n h k = subst (λ (x : Name). Spells kinds.Global x.text) (sym h.2) (global_spelled h.1.0 h.0.0 h.1.3 (split ts h.1.0 h.1.1 h.1.2 k).0)

-- ---- bodies

abbrev LineIsSpelled : Line → Type 0
LineIsSpelled (body_lines.Head h) = Spells kinds.Local h.name.text
LineIsSpelled _ = Unit {0}

abbrev LinesAreSpelled : List Line → Type 0
LinesAreSpelled [] = Unit {0}
LinesAreSpelled (l ∷ ls) = LineIsSpelled l × LinesAreSpelled ls

inst_spelled : (l : Line) (i : Inst) → l ≡ body_lines.Inst i → LineIsSpelled l
inst_spelled l i e = subst LineIsSpelled (sym e) tt

opened_spelled : (full open_list : Bool) (ts : List Tok) (l : Line) → Derives (opened full open_list) ts l → LineIsSpelled l
unfolding results
opened_spelled false false ts l h = inst_spelled l _ h.2
opened_spelled true false ts l h = absurd h
opened_spelled full true ts l h = subst LineIsSpelled (sym h.2) (by h.0.1)
  where
    by : (o : Option (List Name × Inst)) → LineIsSpelled (opened_line h.0.0 o)
    by None = tt
    by (Some r) = tt

line_spelled : (full crowded open_list : Bool) (ts : List Tok) (l : Line) → Derives (line (full, crowded, open_list)) ts l → AreSpelled ts → LineIsSpelled l
line_spelled full crowded open_list ts l (inl h) k = subst LineIsSpelled (sym h.2) (by h.0.1)
  where
    by : (y : Inst ⊎ HeadRest) → LineIsSpelled (named_line h.0.0 y)
    by (inl i) = tt
    by (inr r) = local_spelled h.1.0 h.0.0 h.1.3 (split ts h.1.0 h.1.1 h.1.2 k).0
line_spelled full crowded open_list ts l (inr (inl h)) k = opened_spelled full open_list ts l h
line_spelled full crowded open_list ts l (inr (inr h)) k = inst_spelled l h.0 h.2

lines_spelled : (Q : Body → List Tok → Type 0) (s : Body) (ts : List Tok) (ls : List Line) → Elements flags step (λ y. Derives (line y)) Q s ts ls → AreSpelled ts → LinesAreSpelled ls
lines_spelled Q s ts [] h k = tt
lines_spelled Q s ts (l ∷ ls) h k =
    let parts = split ts h.0 h.1 h.2 k in
    (line_spelled (flags s).0 (flags s).1 (flags s).2 h.0 l h.3 parts.0, lines_spelled Q (step s l) h.1 ls h.4 parts.1)

parted_spelled : (ls : List Line) → LinesAreSpelled ls → BlocksAreSpelled (parted ls).1
parted_spelled [] h = tt
parted_spelled (body_lines.Inst i ∷ ls) h = parted_spelled ls h.1
parted_spelled (body_lines.Head x ∷ ls) h = (h.0, parted_spelled ls h.1)
parted_spelled (body_lines.EmptyList ∷ ls) h = parted_spelled ls h.1

head_spelled : (ts : List Tok) (h : BlockHead) → Derives head ts h → AreSpelled ts → Spells kinds.Local h.name.text
unfolding head
head_spelled ts x h k = subst (λ (x : BlockHead). Spells kinds.Local x.name.text) (sym h.2) (local_spelled h.1.0 h.0.0 h.1.3 (split ts h.1.0 h.1.1 h.1.2 k).0)

rest_spelled : (ts : List Tok) (x : List Line × ℕ) → Derives body_rest ts x → AreSpelled ts → LinesAreSpelled x.0
unfolding body_rest
rest_spelled ts x h k = lines_spelled (λ _ v. Derives (mark symbols.BraceClose) v x.1) _ ts x.0 h k

body_spelled : (ts : List Tok) (bs : List Block) → Derives body ts bs → AreSpelled ts → BlocksAreSpelled bs
unfolding body
body_spelled ts bs h k =
    let x = h.1 in
    let outer = split ts x.1.0 x.1.1 x.1.2 k in
    let inner = split x.1.1 x.1.4.0 x.1.4.1 x.1.4.2 outer.1 in
    let first : Spells kinds.Local x.0.1.0.name.text = head_spelled x.1.4.0 x.0.1.0 x.1.4.3 inner.0 in
    let rest : LinesAreSpelled x.0.1.1.0 = rest_spelled x.1.4.1 x.0.1.1 x.1.4.4 inner.1 in
    let made : BlocksAreSpelled (blocks_of x.0.1.0 x.0.1.1.0) = (first, parted_spelled x.0.1.1.0 rest) in
    subst BlocksAreSpelled (sym h.2) (subst (λ (a : BlockHead × (List Line × ℕ)). BlocksAreSpelled (blocks_of a.0 a.1.0)) (sym x.2) made)

-- ---- items

funcdecl_spelled : (ts : List Tok) (d : Funcdecl) → Derives funcdecl ts d → AreSpelled ts → ItemIsSpelled (items.Funcdecl d)
unfolding funcdecl
funcdecl_spelled ts d h k =
    let a = split ts h.1.0 h.1.1 h.1.2 k in
    let b = split h.1.1 h.1.4.0 h.1.4.1 h.1.4.2 a.1 in
    subst (λ (d : Funcdecl). Spells kinds.Global d.name.text) (sym h.2) (global_spelled h.1.4.0 h.0.1.0 h.1.4.3 b.0)

funcdef_spelled : (ts : List Tok) (d : Funcdef) → Derives funcdef ts d → AreSpelled ts → ItemIsSpelled (items.Funcdef d)
unfolding funcdef
funcdef_spelled ts d h k =
    let a = split ts h.1.0 h.1.1 h.1.2 k in
    let n = h.1.4 in
    let b = split h.1.1 n.0 n.1 n.2 a.1 in
    let v = n.4 in
    let c = split n.1 v.0 v.1 v.2 b.1 in
    let s = v.4 in
    let e = split v.1 s.0 s.1 s.2 c.1 in
    subst (λ (d : Funcdef). ItemIsSpelled (items.Funcdef d)) (sym h.2)
    (before_spelled symbols.Version n.0 h.0.1.0 n.3 b.0, local_spelled v.0 h.0.1.1.0 v.3 c.0, body_spelled s.1 h.0.1.1.1.1 s.4 e.1)

item_spelled : (ts : List Tok) (i : Item) → Derives item ts i → AreSpelled ts → ItemIsSpelled i
unfolding item
item_spelled ts i (inl h) k = subst ItemIsSpelled (sym h.2) tt
item_spelled ts i (inr (inl h)) k = subst ItemIsSpelled (sym h.2) tt
item_spelled ts i (inr (inr (inl h))) k = subst ItemIsSpelled (sym h.2) tt
item_spelled ts i (inr (inr (inr (inl h)))) k = subst ItemIsSpelled (sym h.2) tt
item_spelled ts i (inr (inr (inr (inr (inl h))))) k = subst ItemIsSpelled (sym h.2) (funcdecl_spelled ts h.0 h.1 k)
item_spelled ts i (inr (inr (inr (inr (inr (inl h)))))) k = subst ItemIsSpelled (sym h.2) (funcdef_spelled ts h.0 h.1 k)
item_spelled ts i (inr (inr (inr (inr (inr (inr h)))))) k = absurd h

within_spelled : (full : Bool) (ts : List Tok) (i : Item) → Derives (within item full) ts i → AreSpelled ts → ItemIsSpelled i
within_spelled false ts i h k = item_spelled ts i h k
within_spelled true ts i h k = absurd h

items_spelled : (many : ℕ) (Q : ℕ → List Tok → Type 0) (n : ℕ) (ts : List Tok) (is : List Item) →
    Elements (λ k. nat_le many k) (λ k _. suc k) (λ full. Derives (within item full)) Q n ts is → AreSpelled ts → NamesAreSpelled is
items_spelled many Q n ts [] h k = tt
items_spelled many Q n ts (i ∷ is) h k =
    let parts = split ts h.0 h.1 h.2 k in
    (within_spelled (nat_le many n) h.0 i h.3 parts.0, items_spelled many Q (suc n) h.1 is h.4 parts.1)

bundle_spelled : (ts : List Tok) (is : List Item) → Derives bundle_form ts is → AreSpelled ts → NamesAreSpelled is
unfolding bundle_form
bundle_spelled ts is h k = subst NamesAreSpelled (sym h.2) (items_spelled 16384 (λ _ v. Derives (token (symbols.End ∷ [])) v h.0.1) 0 ts h.0.0 h.1 k)

pub names_spelled : NamesOfTextsAreSpelled
names_spelled bytes bundle (bundle_read tokens end b lexes derives) = bundle_spelled (seen bytes tokens end) bundle derives (seen_spelled bytes 0 tokens end lexes)
