-- The words of a list: its members, and the mark that closes it.
use Rattle.std.proofs.Common.{◌≡◌, ℕ, suc, Bool, true, false, List, [], ◌∷◌, ◌++◌, map, refl, sym, ap, subst, ◌∙◌, append_assoc}
use Rattle.std.specs.Prelude.{◌||◌, nat_le}
use Rattle.std.specs.List.{list_all, flat_map}
use Rattle.std.proofs.lemmas.List.Concat.{flat_map-cons}
use Rattle.text_forms.specs.declared.symbol.Symbol.{Symbol}
use Rattle.text_forms.specs.Tokens.{Tok, has}
use Rattle.text_forms.specs.Forms.{Form, token, within, up_to_from}
use Rattle.text_forms.specs.Derives.{Elements, Derives}
use Rattle.ir_lex.specs.Bytes.{is_blank}
use Rattle.ir_lex.specs.Printed.{Piece, IsPiece}
use Rattle.ir_print.specs.Words.{tight, spaced, listed}
use Rattle.ir_print.specs.Lemmas.Apart.{is_mark, stands_tight, some, Apart, after, apart_append, after_append}
use Rattle.ir_print.specs.Lemmas.Prints.{AllGood, good_split, tok, toks, toks_append, erase, erased_split, erased_one, Prints, always_loose}

-- ---- the words of members

-- the first member behind what stands before it, and the others behind a space
abbrev pub listed_from : {A : Type 0} → (List ℕ → A → List Piece) → List ℕ → List A → List Piece
listed_from words space [] = []
listed_from words space (x ∷ xs) = words space x ++ flat_map (words spaced) xs

pub listed_is : {A : Type 0} (words : List ℕ → A → List Piece) (xs : List A) → listed words xs ≡ listed_from words tight xs
unfolding listed
listed_is words [] = refl
listed_is words (x ∷ xs) = refl

pub spaced_is : {A : Type 0} (words : List ℕ → A → List Piece) (xs : List A) → flat_map (words spaced) xs ≡ listed_from words spaced xs
spaced_is words [] = refl
spaced_is words (x ∷ xs) = flat_map-cons (words spaced) x xs

-- ---- forms within a limit

pub within_is : {A : Type 0} (f : Form A) (b : Bool) (u : List Tok) (x : A) → Derives (within f b) u x → Derives f u x
within_is f true u x d = absurd d
within_is f false u x d = d

pub within_again : {A : Type 0} (f : Form A) (b : Bool) (u v : List Tok) (x y : A) → Derives (within f b) u x → Derives f v y → Derives (within f b) v y
within_again f true u v x y d k = absurd d
within_again f false u v x y d k = k

pub within_prints : {A : Type 0} {m c : Bool} {f : Form A} {e r : A → A} {p : List ℕ → A → List Piece} (b : Bool) → Prints m c f e r p → Prints m c (within f b) e r p
within_prints true P = record {
  again = λ s ts a good d. absurd d;
  apart = λ s ts a blank good d o loose. absurd d;
  ends = λ s ts a d o h. absurd d;
  placed = λ ts b d. absurd d;
}
within_prints false P = P

-- ---- members

abbrev pub Members : {A : Type 0} → Form A → ℕ → List Symbol → Tok → ℕ → List Tok → List A → Type 0
Members {A} f n xs t k ts ys = Elements (λ (k : ℕ). nat_le n k) (λ (k : ℕ) (_ : A). suc k) (λ y. Derives (within f y)) (λ _ v. Derives (token xs) v t) k ts ys

-- the mark that closes a list
pub record Closes (xs : List Symbol) (close : Piece) : Type 0 where
  pub is : IsPiece close
  pub loose : (stands_tight close.kind || some close.space) ≡ true
  pub symbol : has xs (tok close).symbol ≡ true

or_true : (o x : Bool) → x ≡ true → (o || x) ≡ true
or_true true x h = refl
or_true false x h = h

-- the words of one member more
one_more : {A : Type 0} (words : List ℕ → A → List Piece) (close : Piece) (x : A) (xs : List A) → flat_map (words spaced) (x ∷ xs) ++ close ∷ [] ≡ words spaced x ++ (flat_map (words spaced) xs ++ close ∷ [])
one_more words close x xs = ap (λ (l : List Piece). l ++ close ∷ []) (flat_map-cons (words spaced) x xs) ∙ append_assoc (words spaced x) (flat_map (words spaced) xs) (close ∷ [])

more_again : {A : Type 0} {m c : Bool} (f : Form A) (e r : A → A) (p : List ℕ → A → List Piece) → Prints m c f e r p → (n : ℕ) (xs : List Symbol) (t : Tok) (close : Piece) → Closes xs close
    → (ys : List A) (k : ℕ) (ts : List Tok) → AllGood ts → Members f n xs t k ts ys → Members f n xs (tok close) k (toks (flat_map (p spaced) ys ++ close ∷ [])) (map e ys)
more_again f e r p P n xs t close is [] k ts good d = (refl, is.symbol)
more_again f e r p P n xs t close is (y ∷ ys) k ts good (u, v, q, d, rest) =
    let (gu, gv) = good_split ts u v q good in (
      toks (p spaced y),
      toks (flat_map (p spaced) ys ++ close ∷ []),
      ap toks (one_more p close y ys) ∙ toks_append (p spaced y) (flat_map (p spaced) ys ++ close ∷ []),
      within_again f (nat_le n k) u (toks (p spaced y)) y (e y) d (P.again spaced u y gu (within_is f (nat_le n k) u y d)),
      more_again f e r p P n xs t close is ys (suc k) v gv rest,
    )

more_apart : {A : Type 0} {m c : Bool} (f : Form A) (e r : A → A) (p : List ℕ → A → List Piece) → Prints m c f e r p → (n : ℕ) (xs : List Symbol) (t : Tok) (close : Piece) → Closes xs close
    → (ys : List A) (k : ℕ) (ts : List Tok) → AllGood ts → Members f n xs t k ts ys → (o : Bool) → Apart o (flat_map (p spaced) ys ++ close ∷ [])
more_apart {A} {m} f e r p P n xs t close is [] k ts good d o = (is.is, or_true o _ is.loose, tt)
more_apart {A} {m} f e r p P n xs t close is (y ∷ ys) k ts good (u, v, q, d, rest) o =
    let (gu, gv) = good_split ts u v q good in
    subst (Apart o) (sym (one_more p close y ys))
    (apart_append o (p spaced y) (flat_map (p spaced) ys ++ close ∷ []) (P.apart spaced u y refl gu (within_is f (nat_le n k) u y d) o (always_loose o m))
    (more_apart f e r p P n xs t close is ys (suc k) v gv rest (after o (p spaced y))))

pub record Placed {A : Type 0} (f : Form A) (r : A → A) (n : ℕ) (xs : List Symbol) (k : ℕ) (ts : List Tok) (ys : List A) : Type 0 where
  pub members : List A
  pub last : Tok
  pub derived : Members f n xs last k ts members
  pub same : map r members ≡ ys

pub members_placed : {A : Type 0} {m c : Bool} (f : Form A) (e r : A → A) (p : List ℕ → A → List Piece) → Prints m c f e r p → (n : ℕ) (xs : List Symbol) (t : Tok)
    → (ys : List A) (k : ℕ) (ts : List Tok) → Members f n xs t k (erase ts) ys → Placed f r n xs k ts ys
members_placed f e r p P n xs t [] k ts (q, h) =
    let one = erased_one ts t q in
    record { members = []; last = one.only; derived = (one.parts, subst (λ (z : Tok). has xs z.symbol ≡ true) (sym one.same) h); same = refl }
members_placed f e r p P n xs t (y ∷ ys) k ts (u, v, q, d, rest) =
    let s = erased_split ts u v q in
    let (a, da, ea) = P.placed s.front y (subst (λ (l : List Tok). Derives f l y) (sym s.first) (within_is f (nat_le n k) u y d)) in
    let more = members_placed f e r p P n xs t ys (suc k) s.back (subst (λ (l : List Tok). Members f n xs t (suc k) l ys) (sym s.second) rest) in
    record {
      members = a ∷ more.members;
      last = more.last;
      derived = (s.front, s.back, s.parts, within_again f (nat_le n k) u s.front y a d da, more.derived);
      same = ap (λ z. z ∷ map r more.members) ea ∙ ap (λ l. y ∷ l) more.same;
    }

-- ---- lists

list_again : {A : Type 0} {m c : Bool} (f : Form A) (e r : A → A) (p : List ℕ → A → List Piece) → Prints m c f e r p → (n : ℕ) (xs : List Symbol) (t : Tok) (close : Piece) → Closes xs close
    → (space : List ℕ) (ys : List A) (k : ℕ) (ts : List Tok) → AllGood ts → Members f n xs t k ts ys → Members f n xs (tok close) k (toks (listed_from p space ys ++ close ∷ [])) (map e ys)
list_again f e r p P n xs t close is space [] k ts good d = (refl, is.symbol)
list_again f e r p P n xs t close is space (y ∷ ys) k ts good (u, v, q, d, rest) =
    let (gu, gv) = good_split ts u v q good in (
      toks (p space y),
      toks (flat_map (p spaced) ys ++ close ∷ []),
      ap toks (append_assoc (p space y) (flat_map (p spaced) ys) (close ∷ [])) ∙ toks_append (p space y) (flat_map (p spaced) ys ++ close ∷ []),
      within_again f (nat_le n k) u (toks (p space y)) y (e y) d (P.again space u y gu (within_is f (nat_le n k) u y d)),
      more_again f e r p P n xs t close is ys (suc k) v gv rest,
    )

list_apart : {A : Type 0} {m c : Bool} (f : Form A) (e r : A → A) (p : List ℕ → A → List Piece) → Prints m c f e r p → (n : ℕ) (xs : List Symbol) (t : Tok) (close : Piece) → Closes xs close
    → (space : List ℕ) (ys : List A) (k : ℕ) (ts : List Tok) → list_all is_blank space ≡ true → AllGood ts → Members f n xs t k ts ys → (o : Bool) → (o || (m || some space)) ≡ true
    → Apart o (listed_from p space ys ++ close ∷ [])
list_apart {A} {m} f e r p P n xs t close is space [] k ts blank good d o loose = (is.is, or_true o _ is.loose, tt)
list_apart {A} {m} f e r p P n xs t close is space (y ∷ ys) k ts blank good (u, v, q, d, rest) o loose =
    let (gu, gv) = good_split ts u v q good in
    subst (Apart o) (sym (append_assoc (p space y) (flat_map (p spaced) ys) (close ∷ [])))
    (apart_append o (p space y) (flat_map (p spaced) ys ++ close ∷ []) (P.apart space u y blank gu (within_is f (nat_le n k) u y d) o loose)
    (more_apart f e r p P n xs t close is ys (suc k) v gv rest (after o (p space y))))

-- a list with its closing mark
pub up_to_prints : {A : Type 0} {m c : Bool} {f : Form A} {e r : A → A} {p : List ℕ → A → List Piece} {k : ℕ} {xs : List Symbol} (n : ℕ) (close : Piece)
    → Closes xs close → Prints m c f e r p → Prints m (is_mark close.kind) (up_to_from k n xs f) (map e) (map r) (λ space ys. listed_from p space ys ++ close ∷ [])
up_to_prints {A} {m} {c} {f} {e} {r} {p} {k} {xs} n close is P = record {
  again = λ space ts ys good (x, d, q).
      ((map e ys, tok close), list_again f e r p P n xs x.1 close is space ys k ts good (subst (λ (l : List A). Members f n xs x.1 k ts l) (sym q) d), refl);
  apart = λ space ts ys blank good (x, d, q) o loose.
      list_apart f e r p P n xs x.1 close is space ys k ts blank good (subst (λ (l : List A). Members f n xs x.1 k ts l) (sym q) d) o loose;
  ends = λ space ts ys d o h. after_append o (listed_from p space ys) (close ∷ []) ∙ h;
  placed = λ ts ys (x, d, q).
      let found = members_placed f e r p P n xs x.1 x.0 k ts d in
      (found.members, ((found.members, found.last), found.derived, refl), found.same ∙ sym q);
}
