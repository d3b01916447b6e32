-- What it means that words print a form, and how the words of a form are made of those of its parts.
use Rattle.std.proofs.Common.{◌≡◌, ℕ, Bool, true, false, List, [], ◌∷◌, ◌++◌, Some, None, refl, sym, ap, subst, ◌∙◌, inl, inr}
use Rattle.std.specs.Prelude.{◌||◌, ◌&&◌, ◌⊎◌, option_map}
use Rattle.std.specs.List.{list_all}
use Rattle.text_forms.specs.declared.symbol.Symbol.{Symbol}
use Rattle.text_forms.specs.Tokens.{Tok, has}
use Rattle.text_forms.specs.Forms.{Form, nothing, both, on, made, left_out, ◌▸◌, ◌◂◌}
use Rattle.text_forms.specs.Derives.{Derives}
use Rattle.ir_lex.specs.declared.token.TokenKind.{TokenKind}
use Rattle.ir_lex.specs.declared.name.Name.{Name}
use Rattle.ir_lex.specs.Bytes.{is_blank}
use Rattle.ir_lex.specs.Spellings.{Spells}
use Rattle.ir_lex.specs.Lexemes.{IsToken}
use Rattle.ir_lex.specs.Printed.{Piece, IsPiece}
use Rattle.ir_lex.specs.Seen.{symbol_of}
use Rattle.ir_lex.specs.TokenForms.{mark, name}
use Rattle.ir_tree.specs.Lists.{optional}
use Rattle.ir_print.specs.Words.{spaced, optional_words}
use Rattle.ir_print.specs.Placeless.{bare_name}
use Rattle.ir_print.specs.Lemmas.Apart.{is_mark, stands_tight, some, Apart, after, apart_append, after_append}

-- ---- tokens

-- a token of some text
pub record IsGood (t : Tok) : Type 0 where
  pub kind : TokenKind
  pub spells : Spells kind t.spelling
  pub is_token : IsToken kind t.spelling
  pub symbol : t.symbol ≡ symbol_of kind t.spelling

abbrev pub AllGood : List Tok → Type 0
AllGood [] = Unit {0}
AllGood (t ∷ ts) = IsGood t × AllGood ts

good_parts : (u v : List Tok) → AllGood (u ++ v) → AllGood u × AllGood v
good_parts [] v all = (tt, all)
good_parts (t ∷ u) v (g, all) = let (a, b) = good_parts u v all in ((g, a), b)

pub good_split : (ts u v : List Tok) → ts ≡ u ++ v → AllGood ts → AllGood u × AllGood v
good_split ts u v e all = good_parts u v (subst AllGood e all)

-- the token of a word, without its place
abbrev pub tok : Piece → Tok
tok p = record { symbol = symbol_of p.kind p.spelling; place = 0; spelling = p.spelling }

abbrev pub toks : List Piece → List Tok
toks [] = []
toks (p ∷ ps) = tok p ∷ toks ps

pub toks_append : (u v : List Piece) → toks (u ++ v) ≡ toks u ++ toks v
toks_append [] v = refl
toks_append (p ∷ u) v = ap (λ (l : List Tok). tok p ∷ l) (toks_append u v)

-- tokens without their places
abbrev pub unplaced : Tok → Tok
unplaced t = record { symbol = t.symbol; place = 0; spelling = t.spelling }

abbrev pub erase : List Tok → List Tok
erase [] = []
erase (t ∷ ts) = unplaced t ∷ erase ts

pub record Split (ts u v : List Tok) : Type 0 where
  pub front : List Tok
  pub back : List Tok
  pub parts : ts ≡ front ++ back
  pub first : erase front ≡ u
  pub second : erase back ≡ v

pub erased_split : (ts u v : List Tok) → erase ts ≡ u ++ v → Split ts u v
erased_split ts [] v e = record { front = []; back = ts; parts = refl; first = refl; second = e }
erased_split [] (t ∷ u) v e = absurd (cc)
erased_split (s ∷ ts) (t ∷ u) v e =
    let here : unplaced s ≡ t = cc in
    let later : erase ts ≡ u ++ v = cc in
    let r = erased_split ts u v later in
    record {
      front = s ∷ r.front;
      back = r.back;
      parts = ap (λ (l : List Tok). s ∷ l) r.parts;
      first = ap (λ (x : Tok). x ∷ erase r.front) here ∙ ap (λ (l : List Tok). t ∷ l) r.first;
      second = r.second;
    }

pub erased_none : (ts : List Tok) → erase ts ≡ [] → ts ≡ []
erased_none [] e = refl
erased_none (t ∷ ts) e = absurd (cc)

pub record One (ts : List Tok) (t : Tok) : Type 0 where
  pub only : Tok
  pub parts : ts ≡ only ∷ []
  pub same : unplaced only ≡ t

pub erased_one : (ts : List Tok) (t : Tok) → erase ts ≡ t ∷ [] → One ts t
erased_one [] t e = absurd (cc)
erased_one (s ∷ []) t e = record { only = s; parts = refl; same = cc }
erased_one (s ∷ r ∷ ts) t e = absurd (cc)

-- ---- words that print a form

-- p gives the words of what the form means, behind what stands before the first; e is what these words mean, and r the meaning
-- without places. The first flag tells that the first word may stand without a blank, and the second that any word may do so
-- behind the last
pub record Prints {A : Type 0} (m c : Bool) (f : Form A) (e r : A → A) (p : List ℕ → A → List Piece) : Type 0 where
  -- the tokens of the words have that meaning
  pub again : (space : List ℕ) (ts : List Tok) (a : A) → AllGood ts → Derives f ts a → Derives f (toks (p space a)) (e a)
  -- the words stand apart
  pub apart : (space : List ℕ) (ts : List Tok) (a : A) → list_all is_blank space ≡ true → AllGood ts → Derives f ts a → (o : Bool) → (o || (m || some space)) ≡ true → Apart o (p space a)
  pub ends : (space : List ℕ) (ts : List Tok) (a : A) → Derives f ts a → (o : Bool) → c ≡ true → after o (p space a) ≡ true
  -- what tokens mean without their places, they mean with them
  pub placed : (ts : List Tok) (b : A) → Derives f (erase ts) b → (a : A) × Derives f ts a × (r a ≡ b)

loosened : (c x y : Bool) → (c || y) ≡ true → (c ≡ true → x ≡ true) → (x || y) ≡ true
loosened true x y h k = rw (k refl) refl
loosened false true y h k = refl
loosened false false y h k = h

pub both_prints : {A B : Type 0} {m c n d : Bool} {f : Form A} {g : Form B} {e1 r1 : A → A} {e2 r2 : B → B} {p1 : List ℕ → A → List Piece} {p2 : List ℕ → B → List Piece} (space : List ℕ)
    → list_all is_blank space ≡ true → (c || (n || some space)) ≡ true → Prints m c f e1 r1 p1 → Prints n d g e2 r2 p2
    → Prints m d (both f g) (λ x. (e1 x.0, e2 x.1)) (λ x. (r1 x.0, r2 x.1)) (λ s x. p1 s x.0 ++ p2 space x.1)
both_prints {A} {B} {m} {c} {n} {d} {f} {g} {e1} {r1} {e2} {r2} {p1} {p2} space blank loose P Q = record {
  again = λ s ts x good (u, v, q, df, dg).
      let (gu, gv) = good_split ts u v q good in
      (toks (p1 s x.0), toks (p2 space x.1), toks_append (p1 s x.0) (p2 space x.1), P.again s u x.0 gu df, Q.again space v x.1 gv dg);
  apart = λ s ts x blank_s good (u, v, q, df, dg) o loose_o.
      let (gu, gv) = good_split ts u v q good in
      apart_append o (p1 s x.0) (p2 space x.1) (P.apart s u x.0 blank_s gu df o loose_o)
      (Q.apart space v x.1 blank gv dg (after o (p1 s x.0)) (loosened c (after o (p1 s x.0)) (n || some space) loose (λ h. P.ends s u x.0 df o h)));
  ends = λ s ts x (u, v, q, df, dg) o h. after_append o (p1 s x.0) (p2 space x.1) ∙ Q.ends space v x.1 dg (after o (p1 s x.0)) h;
  placed = λ ts y (u, v, q, df, dg).
      let r = erased_split ts u v q in
      let (a, da, ea) = P.placed r.front y.0 (subst (λ (l : List Tok). Derives f l y.0) (sym r.first) df) in
      let (b, db, eb) = Q.placed r.back y.1 (subst (λ (l : List Tok). Derives g l y.1) (sym r.second) dg) in
      ((a, b), (r.front, r.back, r.parts, da, db), ap (λ (z : A). (z, r2 b)) ea ∙ ap (λ (z : B). (y.0, z)) eb);
}

pub made_as : {A B : Type 0} {m c : Bool} {f : Form A} {h : A → B} {e1 r1 : A → A} {e2 r2 : B → B} {p1 : List ℕ → A → List Piece} {p2 : List ℕ → B → List Piece}
    → Prints m c f e1 r1 p1 → ((a : A) → e2 (h a) ≡ h (e1 a)) → ((a : A) → r2 (h a) ≡ h (r1 a)) → ((space : List ℕ) (a : A) → p2 space (h a) ≡ p1 space a) → Prints m c (made h f) e2 r2 p2
made_as {A} {B} {m} {c} {f} {h} {e1} {r1} {e2} {r2} {p1} {p2} P same_meaning same_without same_words = record {
  again = λ s ts b good (a, d, q).
      subst (λ (z : B). Derives (made h f) (toks (p2 s z)) (e2 z)) (sym q)
      (e1 a, subst (λ (w : List Piece). Derives f (toks w) (e1 a)) (sym (same_words s a)) (P.again s ts a good d), same_meaning a);
  apart = λ s ts b blank good (a, d, q) o loose.
      subst (λ (z : B). Apart o (p2 s z)) (sym q) (subst (Apart o) (sym (same_words s a)) (P.apart s ts a blank good d o loose));
  ends = λ s ts b (a, d, q) o k.
      ap (λ (z : B). after o (p2 s z)) q ∙ ap (after o) (same_words s a) ∙ P.ends s ts a d o k;
  placed = λ ts b (a, d, q).
      let (x, dx, ex) = P.placed ts a d in
      (h x, (x, dx, refl), same_without x ∙ ap h ex ∙ sym q);
}

pub made_prints : {A B : Type 0} {m c : Bool} {f : Form A} {h : A → B} {e1 : A → A} {e2 : B → B} {p1 : List ℕ → A → List Piece} {p2 : List ℕ → B → List Piece}
    → Prints m c f e1 e1 p1 → ((a : A) → e2 (h a) ≡ h (e1 a)) → ((space : List ℕ) (a : A) → p2 space (h a) ≡ p1 space a) → Prints m c (made h f) e2 e2 p2
made_prints P same_meaning same_words = made_as P same_meaning same_meaning same_words

either_loose : (o m n s : Bool) → (o || ((m && n) || s)) ≡ true → ((o || (m || s)) ≡ true) × ((o || (n || s)) ≡ true)
either_loose true m n s h = (refl, refl)
either_loose false true true s h = (refl, refl)
either_loose false true false s h = (refl, h)
either_loose false false true s h = (h, refl)
either_loose false false false s h = (h, h)

both_hold : (c d : Bool) → (c && d) ≡ true → (c ≡ true) × (d ≡ true)
both_hold true d h = (refl, h)
both_hold false d h = absurd (cc)

pub on_prints : {A : Type 0} {m c n d : Bool} {xs : List Symbol} {f g : Form A} {e r : A → A} {p : List ℕ → A → List Piece}
    → Prints m c f e r p → Prints n d g e r p → Prints (m && n) (c && d) (on xs f g) e r p
on_prints {A} {m} {c} {n} {d} {xs} {f} {g} {e} {r} {p} P Q = record {
  again = λ s ts a good t. elim t as (λ _. Derives f (toks (p s a)) (e a) ⊎ Derives g (toks (p s a)) (e a)) [ inl t ↦ inl (P.again s ts a good t) | inr t ↦ inr (Q.again s ts a good t) ];
  apart = λ s ts a blank good t o loose.
      let (one, two) = either_loose o m n (some s) loose in
      elim t as (λ _. Apart o (p s a)) [ inl t ↦ P.apart s ts a blank good t o one | inr t ↦ Q.apart s ts a blank good t o two ];
  ends = λ s ts a t o h.
      let (one, two) = both_hold c d h in
      elim t as (λ _. after o (p s a) ≡ true) [ inl t ↦ P.ends s ts a t o one | inr t ↦ Q.ends s ts a t o two ];
  placed = λ ts b t. elim t as (λ _. (a : A) × (Derives f ts a ⊎ Derives g ts a) × (r a ≡ b)) [
    | inl t ↦ let (a, da, ea) = P.placed ts b t in (a, inl da, ea)
    | inr t ↦ let (a, da, ea) = Q.placed ts b t in (a, inr da, ea)
  ];
}

pub nothing_prints : {A : Type 0} {a : A} {e : A → A} {p : List ℕ → A → List Piece} → e a ≡ a → ((space : List ℕ) → p space a ≡ []) → Prints true false (nothing a) e e p
nothing_prints {A} {a} {e} {p} same_meaning no_words = record {
  again = λ s ts b good (q, r). (ap (λ (z : A). toks (p s z)) r ∙ ap toks (no_words s), ap e r ∙ same_meaning);
  apart = λ s ts b blank good (q, r) o loose. subst (λ (z : A). Apart o (p s z)) (sym r) (subst (Apart o) (sym (no_words s)) tt);
  ends = λ s ts b d o h. absurd (cc);
  placed = λ ts b (q, r). (a, (erased_none ts q, refl), same_meaning ∙ sym r);
}

pub left_out_prints : {A : Type 0} {xs : List Symbol} {a : A} {e : A → A} {p : List ℕ → A → List Piece} → Prints true true (left_out xs a) e e p
left_out_prints = record {
  again = λ s ts a good d. absurd d;
  apart = λ s ts a blank good d o loose. absurd d;
  ends = λ s ts a d o h. absurd d;
  placed = λ ts b d. absurd d;
}

pub always_loose : (o m : Bool) → (o || (m || true)) ≡ true
always_loose true m = refl
always_loose false true = refl
always_loose false false = refl

-- the same words, always behind a space
pub spaced_prints : {A : Type 0} {m c : Bool} {f : Form A} {e r : A → A} {p : List ℕ → A → List Piece} → Prints m c f e r p → Prints true c f e r (λ _ a. p spaced a)
spaced_prints {A} {m} {c} {f} {e} {r} {p} P = record {
  again = λ s ts a good d. P.again spaced ts a good d;
  apart = λ s ts a blank good d o loose. P.apart spaced ts a refl good d o (always_loose o m);
  ends = λ s ts a d o h. P.ends spaced ts a d o h;
  placed = P.placed;
}

or_loose : (o x : Bool) → x ≡ true → (o || x) ≡ true
or_loose true x h = refl
or_loose false x h = h

-- the same words, always behind these blanks
pub fixed_prints : {A : Type 0} {m c : Bool} {f : Form A} {e r : A → A} {p : List ℕ → A → List Piece} (space : List ℕ) → list_all is_blank space ≡ true → (m || some space) ≡ true
    → Prints m c f e r p → Prints true c f e r (λ _ a. p space a)
fixed_prints {A} {m} {c} {f} {e} {r} {p} space blanks here P = record {
  again = λ _ ts a good d. P.again space ts a good d;
  apart = λ _ ts a blank good d o loose. P.apart space ts a blanks good d o (or_loose o (m || some space) here);
  ends = λ _ ts a d o h. P.ends space ts a d o h;
  placed = P.placed;
}

-- x?, behind a space
pub optional_prints : {A : Type 0} {m c : Bool} {s : Symbol} {f : Form A} {e : A → A} {p : List ℕ → A → List Piece}
    → Prints m c f e e p → Prints true (c && false) (optional s f) (option_map e) (option_map e) (λ _ o. optional_words p o)
optional_prints {A} {m} {c} {s} {f} {e} {p} P =
    let some_prints : Prints true c (made Some f) (option_map e) (option_map e) (λ _ o. optional_words p o) = made_prints (spaced_prints P) (λ a. refl) (λ s a. refl) in
    let none_prints : Prints true false (nothing None) (option_map e) (option_map e) (λ _ o. optional_words p o) = nothing_prints refl (λ _. refl) in
    on_prints some_prints none_prints

-- one form and then another, of which one alone has a meaning; the other has the same words always
pub after_prints : {A B : Type 0} {m c n d : Bool} {f : Form A} {g : Form B} {e1 r1 : A → A} {e2 r2 : B → B} {ws : List ℕ → List Piece} {p : List ℕ → B → List Piece} (space : List ℕ)
    → list_all is_blank space ≡ true → (c || (n || some space)) ≡ true → Prints m c f e1 r1 (λ s _. ws s) → Prints n d g e2 r2 p → Prints m d (f ▸ g) e2 r2 (λ s x. ws s ++ p space x)
after_prints space blank loose P Q = made_as (both_prints space blank loose P Q) (λ _. refl) (λ _. refl) (λ _ _. refl)

pub before_prints : {A B : Type 0} {m c n d : Bool} {f : Form A} {g : Form B} {e1 r1 : A → A} {e2 r2 : B → B} {p : List ℕ → A → List Piece} {ws : List ℕ → List Piece} (space : List ℕ)
    → list_all is_blank space ≡ true → (c || (n || some space)) ≡ true → Prints m c f e1 r1 p → Prints n d g e2 r2 (λ s _. ws s) → Prints m d (f ◂ g) e1 r1 (λ s x. p s x ++ ws space)
before_prints space blank loose P Q = made_as (both_prints space blank loose P Q) (λ _. refl) (λ _. refl) (λ _ _. refl)

-- the same meaning, and words that are equal
pub worded_prints : {A : Type 0} {m c : Bool} {f : Form A} {e r : A → A} {p : List ℕ → A → List Piece} (q : List ℕ → A → List Piece)
    → ((space : List ℕ) (a : A) → q space a ≡ p space a) → Prints m c f e r p → Prints m c f e r q
worded_prints {A} {m} {c} {f} {e} {r} {p} q same P = record {
  again = λ s ts a good d. subst (λ (w : List Piece). Derives f (toks w) (e a)) (sym (same s a)) (P.again s ts a good d);
  apart = λ s ts a blank good d o loose. subst (Apart o) (sym (same s a)) (P.apart s ts a blank good d o loose);
  ends = λ s ts a d o h. ap (after o) (same s a) ∙ P.ends s ts a d o h;
  placed = P.placed;
}

-- ---- forms of one token

-- the spelling is that of a token, which is this symbol to the grammars
pub record IsWord (s : Symbol) (kind : TokenKind) (spelling : List ℕ) : Type 0 where
  pub spells : Spells kind spelling
  pub is_token : IsToken kind spelling
  pub symbol : has (s ∷ []) (symbol_of kind spelling) ≡ true

pub mark_prints : (s : Symbol) (kind : TokenKind) (spelling : List ℕ) → IsWord s kind spelling
    → Prints (stands_tight kind) (is_mark kind) (mark s) (λ _. 0) (λ _. 0) (λ space _. record { space = space; kind = kind; spelling = spelling } ∷ [])
unfolding mark
mark_prints s kind spelling is = record {
  again = λ space ts a good d. (tok (record { space = space; kind = kind; spelling = spelling }), (refl, is.symbol), refl);
  apart = λ space ts a blank good d o loose. (record { blanks = blank; spells = is.spells; is_token = is.is_token }, loose, tt);
  ends = λ space ts a d o h. h;
  placed = λ ts y (t, (q, h), r).
      let one = erased_one ts t q in
      (one.only.place, (one.only, (one.parts, subst (λ (z : Tok). has (s ∷ []) z.symbol ≡ true) (sym one.same) h), refl), ap (λ (z : Tok). z.place) one.same ∙ sym r);
}

-- a name: its symbol tells what kind of token it is
pub name_prints : (xs : List Symbol) (kind : TokenKind) → ((k : TokenKind) (spelling : List ℕ) → has xs (symbol_of k spelling) ≡ true → k ≡ kind)
    → Prints false false (name xs) bare_name bare_name (λ space n. record { space = space; kind = kind; spelling = n.text } ∷ [])
unfolding name
name_prints xs kind told = record {
  again = λ space ts n good (t, (q, h), r).
      let g = (subst AllGood q good).0 in
      let k : g.kind ≡ kind = told g.kind t.spelling (subst (λ (z : Symbol). has xs z ≡ true) g.symbol h) in
      let same : t.symbol ≡ symbol_of kind n.text = g.symbol ∙ ap (λ (z : TokenKind). symbol_of z t.spelling) k ∙ ap (λ (z : Name). symbol_of kind z.text) (sym r) in
      (tok (record { space = space; kind = kind; spelling = n.text }), (refl, subst (λ (z : Symbol). has xs z ≡ true) same h), refl);
  apart = λ space ts n blank good (t, (q, h), r) o loose.
      let g = (subst AllGood q good).0 in
      let k : g.kind ≡ kind = told g.kind t.spelling (subst (λ (z : Symbol). has xs z ≡ true) g.symbol h) in
      let w : t.spelling ≡ n.text = ap (λ (z : Name). z.text) (sym r) in
      let is : IsPiece (record { space = space; kind = kind; spelling = n.text }) = record {
        blanks = blank;
        spells = subst (λ (z : TokenKind). Spells z n.text) k (subst (Spells g.kind) w g.spells);
        is_token = subst (λ (z : TokenKind). IsToken z n.text) k (subst (IsToken g.kind) w g.is_token);
      } in
      (is, tight_or o (stands_tight kind) (some space) loose, tt);
  ends = λ space ts a d o h. absurd (cc);
  placed = λ ts y (t, (q, h), r).
      let one = erased_one ts t q in (
        record { place = one.only.place; text = one.only.spelling },
        (one.only, (one.parts, subst (λ (z : Tok). has xs z.symbol ≡ true) (sym one.same) h), refl),
        ap (λ (z : Tok). record { place = z.place; text = z.spelling }) one.same ∙ sym r,
      );
}
  where
    tight_or : (o t s : Bool) → (o || (false || s)) ≡ true → (o || (t || s)) ≡ true
    tight_or true t s h = refl
    tight_or false true s h = refl
    tight_or false false s h = h
