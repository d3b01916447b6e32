-- Reading the elements of a list one at a time.
use Rattle.std.proofs.Common.{◌≡◌, ℕ, ◌+◌, ◌≤◌, Bool, true, false, List, [], ◌∷◌, ◌++◌, length, drop, Result, Ok, Err, refl, sym, ap, ◌∙◌, subst, arith, append_assoc, add_assoc, zero-add, add-zero}
use Rattle.std.specs.Prelude.{slice_set}
use Rattle.std.proofs.Math.Seq.{set-append_seam}
use Rattle.std.proofs.lemmas.List.{append-nil, length-append, drop_at, drop_all}
use Rattle.text_forms.specs.declared.symbol.Symbol.TheVariants as symbols
use Rattle.text_forms.specs.declared.fault.Fault.{Fault}
use Rattle.text_forms.specs.declared.fault.ReadError.{ReadError}
use Rattle.text_forms.specs.declared.fault.ReadError.TheVariants as errors
use Rattle.text_forms.specs.Tokens.{Tok, at, first, rest_of}
use Rattle.text_forms.specs.Forms.{Form, both, made, lines, one_flag}
use Rattle.text_forms.specs.Reading.{read}
use Rattle.text_forms.specs.Answers.{Gives, kept, with_front}
use Rattle.text_forms.specs.Lemmas.Lists.{kept_twice, goes_on_by, is_done_by, fails_by, steady_read}
use Rattle.ir_lex.specs.TokenForms.{mark}
use Rattle.hail_load.specs.declared.tree.Piece.{Piece}
use Rattle.hail_load.specs.declared.tree.Piece.TheVariants as pieces
use Rattle.hail_load.specs.declared.sources.Members.{Members}
use Rattle.hail_load.specs.Sources.{is_open, source_count, all_pieces, element, members, list, source}
use Rattle.hail_load.specs.MembersSoFar.{no_members, followed, listed_with, listed}
use Rattle.hail_load.proofs.Nested.{element_plain}

abbrev Total : Type 0
Total = Result (List Piece × List Tok) Fault

-- the elements from here on
abbrev pub lines_from : ℕ → Bool → Form (List (List Piece) × ℕ)
lines_from n leads = lines one_flag (λ s. s) (λ s e. is_open e) (element (source n)) (symbols.BraceClose ∷ []) (mark symbols.BraceClose) leads

abbrev pub so_far : ℕ → ℕ → Members → List Piece → List Tok → Total
so_far n place m ps ts = kept (λ (x : List (List Piece) × ℕ). listed_with place m ps x.0) (read (lines_from n m.leads) ts)

kept_same : {A B : Type 0} (k l : A → B) → ((a : A) → k a ≡ l a) → (r : Result (A × List Tok) Fault) → kept k r ≡ kept l r
kept_same {A} {B} k l h (Ok x) = ap (λ (b : B). Ok (b, x.1)) (h x.0)
kept_same k l h (Err e) = refl

both_made : {A B C : Type 0} (f : Form A) (g : Form B) (h : A × B → C) (ts : List Tok) (a : A) (rest : List Tok) → read f ts ≡ Ok (a, rest) → read (made h (both f g)) ts ≡ kept (λ y. h (a, y)) (read g rest)
both_made {A} {B} f g h ts a rest e = rw e (kept_twice h (λ (y : B). (a, y)) (read g rest))

both_fails : {A B C : Type 0} (f : Form A) (g : Form B) (h : A × B → C) (ts : List Tok) (e : Fault) → read f ts ≡ Err e → read (made h (both f g)) ts ≡ Err e
both_fails f g h ts e gone = rw gone refl

abbrev whole_list : ℕ × List (List Piece) → List Piece
whole_list x = pieces.List x.0 (source_count x.1) ∷ all_pieces x.1

list_is : (one : Form (List Piece)) (place : ℕ) (ts rest : List Tok) → read (mark symbols.BraceOpen) ts ≡ Ok (place, rest) → read (list one) ts ≡ kept (λ es. whole_list (place, es)) (read (members one) rest)
unfolding list
list_is one place ts rest opened = both_made (mark symbols.BraceOpen) (members one) whole_list ts place rest opened

members_is : (n : ℕ) (ts : List Tok) → read (members (source n)) ts ≡ kept (λ (x : List (List Piece) × ℕ). x.0) (read (lines_from n false) ts)
unfolding members
members_is n ts = refl

-- behind the `{` no element is read yet
pub begins_so_far : (n place : ℕ) (ts rest : List Tok) → read (mark symbols.BraceOpen) ts ≡ Ok (place, rest) → so_far n place no_members [] rest ≡ read (list (source n)) ts
begins_so_far n place ts rest opened =
    sym (list_is (source n) place ts rest opened
    ∙ ap (λ (r : Result (List (List Piece) × List Tok) Fault). kept (λ es. whole_list (place, es)) r) (members_is n rest)
    ∙ kept_twice (λ (es : List (List Piece)). whole_list (place, es)) (λ (x : List (List Piece) × ℕ). x.0) (read (lines_from n false) rest)
    ∙ kept_same (λ (x : List (List Piece) × ℕ). whole_list (place, x.0)) (λ (x : List (List Piece) × ℕ). listed_with place no_members [] x.0)
    (λ x. ap (λ (k : ℕ). pieces.List place k ∷ all_pieces x.0) (sym (zero-add (source_count x.0)))) (read (lines_from n false) rest))

list_fails : (one : Form (List Piece)) (ts : List Tok) (e : Fault) → read (mark symbols.BraceOpen) ts ≡ Err e → read (list one) ts ≡ Err e
unfolding list
list_fails one ts e gone = both_fails (mark symbols.BraceOpen) (members one) whole_list ts e gone

-- a list that does not begin
pub begins_not : (one : Form (List Piece)) (ts rest : List Tok) (e : ReadError) → Gives {A = ℕ} (Err e) rest (read (mark symbols.BraceOpen) ts) → Gives {A = List Piece} (Err e) rest (read (list one) ts)
begins_not one ts rest errors.Memory gone = tt
begins_not one ts rest (errors.Fault e) gone = list_fails one ts e gone

one_more : (e : List Piece) (es : List (List Piece)) → source_count (e ∷ es) ≡ source_count (e ∷ []) + source_count es
one_more [] es = grind arith
one_more (pieces.Number a ∷ []) es = grind arith
one_more (pieces.Null a ∷ []) es = grind arith
one_more (pieces.Global a ∷ []) es = grind arith
one_more (pieces.Object a ∷ []) es = grind arith
one_more (pieces.Reference a b ∷ []) es = grind arith
one_more (pieces.Index a ∷ []) es = grind arith
one_more (pieces.List a b ∷ []) es = grind arith
one_more (p ∷ q ∷ ps) es = grind arith

means : (place : ℕ) (m : Members) (ps e : List Piece) (es : List (List Piece)) → listed_with place m ps (e ∷ es) ≡ listed_with place (followed m e) (ps ++ e) es
means place m ps e es =
    ap (λ (k : ℕ). pieces.List place (m.length + k) ∷ (ps ++ (e ++ all_pieces es))) (one_more e es)
    ∙ ap (λ (k : ℕ). pieces.List place k ∷ (ps ++ (e ++ all_pieces es))) (sym (add_assoc m.length (source_count (e ∷ [])) (source_count es)))
    ∙ ap (λ (qs : List Piece). pieces.List place ((m.length + source_count (e ∷ [])) + source_count es) ∷ qs) (sym (append_assoc ps e (all_pieces es)))

pub goes_on : (n place : ℕ) (m : Members) (ps : List Piece) (ts : List Tok) (e : List Piece) (rest : List Tok) (total : Total) → at (symbols.BraceClose ∷ []) ts ≡ false → read (element (source n) m.leads) ts ≡ Ok (e, rest)
    → so_far n place m ps ts ≡ total → so_far n place (followed m e) (ps ++ e) rest ≡ total
goes_on n place m ps ts e rest total off one so =
    goes_on_by one_flag (λ s. s) (λ s e. is_open e) (element (source n)) (symbols.BraceClose ∷ []) (mark symbols.BraceClose) (λ y. (element_plain n y).element) 0 m.leads
    (λ (x : List (List Piece) × ℕ). listed_with place m ps x.0) (λ (x : List (List Piece) × ℕ). listed_with place (followed m e) (ps ++ e) x.0) ts e rest total (λ es b. means place m ps e es) off
    (steady_read (element (source n) m.leads) (element_plain n m.leads).own (first ts).place 0 ts ∙ one) so

pub fails_with : (n place : ℕ) (m : Members) (ps : List Piece) (ts rest : List Tok) (total : Total) (e : ReadError) → at (symbols.BraceClose ∷ []) ts ≡ false → Gives {A = List Piece} (Err e) rest (read (element (source n) m.leads) ts)
    → so_far n place m ps ts ≡ total → Gives {A = List Piece} (Err e) rest total
fails_with n place m ps ts rest total e off one so =
    fails_by one_flag (λ s. s) (λ s e. is_open e) (element (source n)) (symbols.BraceClose ∷ []) (mark symbols.BraceClose) (λ y. (element_plain n y).element) 0 m.leads
    (λ (x : List (List Piece) × ℕ). listed_with place m ps x.0) ts rest total e off
    (subst (λ (r : Result (List Piece × List Tok) Fault). Gives {A = List Piece} (Err e) rest r) (steady_read (element (source n) m.leads) (element_plain n m.leads).own 0 (first ts).place ts) one) so

closed : (ts : List Tok) → at (symbols.BraceClose ∷ []) ts ≡ true → read (mark symbols.BraceClose) ts ≡ Ok ((first ts).place, rest_of ts)
unfolding mark
closed ts here = rw here refl

all_read : (place : ℕ) (m : Members) (ps : List Piece) → listed_with place m ps [] ≡ listed place m ps
all_read place m ps = ap (λ (k : ℕ). pieces.List place k ∷ (ps ++ [])) (add-zero m.length) ∙ ap (λ (qs : List Piece). pieces.List place m.length ∷ qs) (append-nil ps)

pub is_done : (n place : ℕ) (m : Members) (ps : List Piece) (ts : List Tok) (total : Total) → at (symbols.BraceClose ∷ []) ts ≡ true → so_far n place m ps ts ≡ total → total ≡ Ok (listed place m ps, rest_of ts)
is_done n place m ps ts total here so =
    is_done_by one_flag (λ s. s) (λ s e. is_open e) (element (source n)) (symbols.BraceClose ∷ []) (mark symbols.BraceClose) (λ y. (element_plain n y).element) 0 m.leads
    (λ (x : List (List Piece) × ℕ). listed_with place m ps x.0) ts (first ts).place (rest_of ts) total here (closed ts here) so
    ∙ ap (λ (qs : List Piece). Ok (qs, rest_of ts)) (all_read place m ps)

-- ---- pieces that are put behind others

-- what is put behind no others
pub none_before : (r : Total) → with_front [] r ≡ r
none_before (Ok x) = refl
none_before (Err e) = refl

-- what was read, where it was put behind others
pub record Read (front all : List Piece) (rest : List Tok) (r : Total) : Type 0 where
  pub own : List Piece
  pub all_are : all ≡ front ++ own
  pub read_so : r ≡ Ok (own, rest)

abbrev pieces_in : Total → List Piece
pieces_in (Ok x) = x.0
pieces_in (Err f) = []

abbrev rest_in : Total → List Tok
rest_in (Ok x) = x.1
rest_in (Err f) = []

pub was_read : (front all : List Piece) (rest : List Tok) (r : Total) → with_front front r ≡ Ok (all, rest) → Read front all rest r
was_read front all rest (Ok x) e =
    record {
      own = x.0;
      all_are = sym (ap pieces_in e);
      read_so = ap (λ (ts : List Tok). Ok (x.0, ts)) (ap rest_in e);
    }
was_read front all rest (Err f) e = cc

-- a fault is the same, wherever what is read is put
pub fault_anywhere : (front : List Piece) (e : ReadError) (rest : List Tok) (r : Total) → Gives {A = List Piece} (Err e) rest r → Gives {A = List Piece} (Err e) rest (with_front front r)
fault_anywhere front errors.Memory rest r gone = tt
fault_anywhere front (errors.Fault f) rest r gone = rw gone refl

pub fault_from : (front : List Piece) (e : ReadError) (rest : List Tok) (r : Total) → Gives {A = List Piece} (Err e) rest (with_front front r) → Gives {A = List Piece} (Err e) rest r
fault_from front errors.Memory rest r gone = tt
fault_from front (errors.Fault f) rest (Ok x) gone = cc
fault_from front (errors.Fault f) rest (Err g) gone = gone

-- ---- the piece of the list itself, behind other pieces

-- no pieces of elements are there yet
pub none_behind : (front : List Piece) (p : Piece) (head : ℕ) (out : List Piece) → head ≡ length front → out ≡ front ++ p ∷ [] → (out ≡ (front ++ p ∷ []) ++ drop (head + 1) out) × (drop (head + 1) out ≡ [])
none_behind front p head out h e =
    let far : length (front ++ p ∷ []) ≤ head + 1 = omega (arith, length-append front (p ∷ []), h) in
    let none : drop (head + 1) out ≡ [] = rw e (drop_all (head + 1) (front ++ p ∷ []) far) in
    (rw none (e ∙ sym (append-nil (front ++ p ∷ []))), none)

behind_one : (front : List Piece) (p : Piece) (head : ℕ) (ys : List Piece) → head ≡ length front → drop (head + 1) ((front ++ p ∷ []) ++ ys) ≡ ys
behind_one front p head ys h =
    let far : length (front ++ p ∷ []) ≡ head + 1 = omega (arith, length-append front (p ∷ []), h) in
    drop_at (front ++ p ∷ []) ys (head + 1) far

-- one element more
pub more_behind : (front : List Piece) (p : Piece) (head : ℕ) (out e all : List Piece) → head ≡ length front → out ≡ (front ++ p ∷ []) ++ drop (head + 1) out → all ≡ out ++ e
    → (all ≡ (front ++ p ∷ []) ++ drop (head + 1) all) × (drop (head + 1) all ≡ drop (head + 1) out ++ e)
more_behind front p head out e all h so is =
    let k = drop (head + 1) out in
    let whole : all ≡ (front ++ p ∷ []) ++ (k ++ e) = is ∙ ap (λ (xs : List Piece). xs ++ e) so ∙ append_assoc (front ++ p ∷ []) k e in
    let rest : drop (head + 1) all ≡ k ++ e = ap (λ (xs : List Piece). drop (head + 1) xs) whole ∙ behind_one front p head (k ++ e) h in
    (whole ∙ ap (λ (xs : List Piece). (front ++ p ∷ []) ++ xs) (sym rest), rest)

-- the element that was put last
pub last_put : (out e all : List Piece) (from : ℕ) → from ≡ length out → all ≡ out ++ e → drop from all ≡ e
last_put out e all from h is = ap (λ (xs : List Piece). drop from xs) is ∙ drop_at out e from (sym h)

-- the piece is told how long the list is
pub told_length : (front : List Piece) (p q : Piece) (head : ℕ) (out : List Piece) → head ≡ length front → out ≡ (front ++ p ∷ []) ++ drop (head + 1) out → slice_set out head q ≡ front ++ q ∷ drop (head + 1) out
told_length front p q head out h so =
    let k = drop (head + 1) out in
    let whole : out ≡ front ++ p ∷ k = so ∙ append_assoc front (p ∷ []) k in
    ap (λ (xs : List Piece). slice_set xs head q) whole ∙ ap (λ (n : ℕ). slice_set (front ++ p ∷ k) n q) h ∙ set-append_seam front p k q
