-- Reading a list one element at a time, as a loop does: lists with a state.
use Rattle.std.proofs.Common.{◌≡◌, ℕ, zero, suc, ◌<◌, Bool, true, false, cond, List, [], ◌∷◌, ◌++◌, length, Result, Ok, Err, refl, sym, ap, ◌∙◌, arith, ◌&&◌}
use Rattle.std.proofs.lemmas.List.{length-append}
use Rattle.text_forms.specs.declared.symbol.Symbol.{Symbol}
use Rattle.text_forms.specs.declared.fault.Fault.{Fault}
use Rattle.text_forms.specs.declared.fault.ReadError.{ReadError}
use Rattle.text_forms.specs.declared.fault.ReadError.TheVariants as errors
use Rattle.text_forms.specs.Tokens.{Tok, at, first, too_many_at}
use Rattle.text_forms.specs.Forms.{Flags, Form, token, nothing, never, both, on, made, left_out, past, many, lines, within}
use Rattle.text_forms.specs.Begins.{empties, begins, decides, steady}
use Rattle.text_forms.specs.Reading.{◌>>=◌, elements, read_from, read}
use Rattle.text_forms.specs.Answers.{Gives, kept}
use Rattle.text_forms.specs.Lemmas.Tests.{and_true}
use Rattle.text_forms.specs.Lemmas.Beginnings.{nonempty}
use Rattle.text_forms.specs.Lemmas.Reading.{reads, run}

-- ---- steps that may fail

bind_same : {A B : Type 0} (r : Result A Fault) (f g : A → Result B Fault) → ((x : A) → r ≡ Ok x → f x ≡ g x) → (r >>= f) ≡ (r >>= g)
bind_same (Ok x) f g h = h x refl
bind_same (Err e) f g h = refl

cond_same : {A : Type 0} (b : Bool) (x y z : A) → y ≡ z → cond b x y ≡ cond b x z
cond_same true x y z h = refl
cond_same false x y z h = h

pub kept_twice : {A B C : Type 0} (k : B → C) (h : A → B) (r : Result (A × List Tok) Fault) → kept k (kept h r) ≡ kept (λ x. k (h x)) r
kept_twice k h (Ok x) = refl
kept_twice k h (Err e) = refl

-- ---- a form whose lists have all its limits is read alike wherever it stands

elements_steady : {A B S F : Type 0} (xs : List Symbol) (flags : S → F) (step : S → A → S) (p : F → ℕ → List Tok → Result (A × List Tok) Fault) (q r : List Tok → Result (B × List Tok) Fault) → ((ts : List Tok) → q ts ≡ r ts)
    → (n : ℕ) (s : S) (ts : List Tok) → elements xs flags step p q n s ts ≡ elements xs flags step p r n s ts
unfolding elements
elements_steady xs flags step p q r h zero s ts = refl
elements_steady xs flags step p q r h (suc n) s ts =
    rw (h ts) (cond_same (at xs ts) _ _ _ (bind_same (p (flags s) (first ts).place ts) _ _ (λ x e. rw (elements_steady xs flags step p q r h n (step s x.0) x.1) refl)))

pub steady_read : {A : Type 0} (f : Form A) → steady f ≡ true → (p q : ℕ) (ts : List Tok) → read_from f p ts ≡ read_from f q ts
steady_read (token xs) o p q ts = refl
steady_read (nothing a) o p q ts = refl
steady_read never o p q ts = refl
steady_read (both f g) o p q ts =
    let k = and_true _ _ o in
    rw (steady_read f k.0 p q ts) (bind_same (read_from f q ts) _ _ (λ x e. rw (steady_read g k.1 p q x.1) refl))
steady_read (on xs f g) o p q ts = let k = and_true _ _ o in rw (steady_read f k.0 p q ts, steady_read g k.1 p q ts) refl
steady_read (made h f) o p q ts = rw (steady_read f o p q ts) refl
steady_read (left_out xs a) o p q ts = refl
steady_read (past f) o p q ts = absurd cc
steady_read (many f) o p q ts = refl
steady_read (lines fl flags step f xs g s) o p q ts = elements_steady xs flags step (λ y. read_from (f y)) (read_from g p) (read_from g q) (steady_read g o p q) (suc (length ts)) s ts

-- ---- elements

-- an element has a token, and the next token decides how it is read
pub record IsElement {A : Type 0} (f : Form A) : Type 0 where
  pub some : empties f ≡ false
  pub decided : decides f ≡ true

shorter_by : (x rest ts : List Tok) → (x ≡ [] → ⊥) → ts ≡ x ++ rest → length rest < length ts
shorter_by [] rest ts some e = absurd (some refl)
shorter_by (t ∷ x) rest ts some e = rw e (omega (arith, length-append x rest))

pub shorter : {A : Type 0} (f : Form A) → IsElement f → (p : ℕ) (ts : List Tok) (a : A) (rest : List Tok) → read_from f p ts ≡ Ok (a, rest) → length rest < length ts
shorter f el p ts a rest e =
    let r = reads f el.decided p ts a rest e in
    shorter_by r.front rest ts (λ none. nonempty f r.front a el.some none r.derives) r.parts

-- past its limit an element fails as it would within, where none begins
pub past_read : {A : Type 0} (f : Form A) (p : ℕ) (ts : List Tok) → at (begins f) ts ≡ false → read_from (past f) p ts ≡ read_from f p ts
past_read f p ts off = rw off refl

pub past_found : {A : Type 0} (f : Form A) (p : ℕ) (ts : List Tok) → at (begins f) ts ≡ true → read_from (past f) p ts ≡ Err (too_many_at p)
past_found f p ts here = rw here refl

-- where a limit may be reached: the form is read as ever where it does not pass it, or where it does not begin
pub fits_read : {A : Type 0} (f : Form A) → steady f ≡ true → (full : Bool) (p : ℕ) (ts : List Tok) → full && at (begins f) ts ≡ false → read_from (within f full) p ts ≡ read f ts
fits_read f own false p ts e = steady_read f own p 0 ts
fits_read f own true p ts e = past_read f p ts e ∙ steady_read f own p 0 ts

-- and else TooMany stands where the innermost element begins
pub passes_read : {A : Type 0} (f : Form A) (full : Bool) (p : ℕ) (ts : List Tok) → full && at (begins f) ts ≡ true → read_from (within f full) p ts ≡ Err (too_many_at p)
passes_read f false p ts e = absurd cc
passes_read f true p ts e = past_found f p ts e

-- ---- lists with a state

module _ {A B S F : Type 0} (fl : Flags F) (flags : S → F) (step : S → A → S) (f : F → Form A) (xs : List Symbol) (g : Form B) (el : (y : F) → IsElement (f y)) where
  enough : (p n m : ℕ) (s : S) (ts : List Tok) → length ts < n → length ts < m → run flags step f xs g p n s ts ≡ run flags step f xs g p m s ts
  unfolding elements
  enough p zero m s ts h k = absurd (omega arith)
  enough p (suc n) zero s ts h k = absurd (omega arith)
  enough p (suc n) (suc m) s ts h k =
      cond_same (at xs ts) _ _ _ (bind_same (read_from (f (flags s)) (first ts).place ts) _ _ (λ x e.
      let lt = shorter (f (flags s)) (el (flags s)) _ ts x.0 x.1 e in
      ap (λ r. r >>= λ y. Ok ((x.0 ∷ y.0.0, y.0.1), y.1)) (enough p n m (step s x.0) x.1 (omega arith) (omega arith))))

  -- one turn
  pub another : (p : ℕ) (s : S) (ts : List Tok) → at xs ts ≡ false → read_from (lines fl flags step f xs g s) p ts
      ≡ (read_from (f (flags s)) (first ts).place ts >>= λ x. read_from (lines fl flags step f xs g (step s x.0)) p x.1 >>= λ y. Ok ((x.0 ∷ y.0.0, y.0.1), y.1))
  unfolding elements
  another p s ts off =
      rw off (bind_same (read_from (f (flags s)) (first ts).place ts) _ _ (λ x e.
      let lt = shorter (f (flags s)) (el (flags s)) _ ts x.0 x.1 e in
      ap (λ r. r >>= λ y. Ok ((x.0 ∷ y.0.0, y.0.1), y.1)) (enough p (length ts) (suc (length x.1)) (step s x.0) x.1 lt (omega arith))))

  pub closed : (p : ℕ) (s : S) (ts : List Tok) → at xs ts ≡ true → read_from (lines fl flags step f xs g s) p ts ≡ (read_from g p ts >>= λ y. Ok (([], y.0), y.1))
  unfolding elements
  closed p s ts here = rw here refl

  regroup : {C : Type 0} (k l : List A × B → C) (a : A) → ((ys : List A) (b : B) → k (a ∷ ys, b) ≡ l (ys, b)) → (r : Result ((List A × B) × List Tok) Fault) → kept k (r >>= λ y. Ok ((a ∷ y.0.0, y.0.1), y.1)) ≡ kept l r
  regroup {C} k l a h (Ok x) = ap (λ (c : C). Ok (c, x.1)) (h x.0.0 x.0.1)
  regroup k l a h (Err e) = refl

  pub goes_on_by : {C : Type 0} (p : ℕ) (s : S) (k l : List A × B → C) (ts : List Tok) (a : A) (rest : List Tok) (total : Result (C × List Tok) Fault) → ((ys : List A) (b : B) → k (a ∷ ys, b) ≡ l (ys, b)) → at xs ts ≡ false
      → read_from (f (flags s)) (first ts).place ts ≡ Ok (a, rest) → kept k (read_from (lines fl flags step f xs g s) p ts) ≡ total → kept l (read_from (lines fl flags step f xs g (step s a)) p rest) ≡ total
  goes_on_by p s k l ts a rest total h off one so_far =
      let open_up : read_from (lines fl flags step f xs g s) p ts ≡ (read_from (lines fl flags step f xs g (step s a)) p rest >>= λ y. Ok ((a ∷ y.0.0, y.0.1), y.1)) = another p s ts off ∙ rw one refl in
      sym (regroup k l a h (read_from (lines fl flags step f xs g (step s a)) p rest)) ∙ ap (kept k) (sym open_up) ∙ so_far

  pub is_done_by : {C : Type 0} (p : ℕ) (s : S) (k : List A × B → C) (ts : List Tok) (b : B) (rest : List Tok) (total : Result (C × List Tok) Fault) → at xs ts ≡ true → read_from g p ts ≡ Ok (b, rest)
      → kept k (read_from (lines fl flags step f xs g s) p ts) ≡ total → total ≡ Ok (k ([], b), rest)
  is_done_by p s k ts b rest total here one so_far = sym so_far ∙ ap (kept k) (closed p s ts here) ∙ rw one refl

  pub fails_by : {C : Type 0} (p : ℕ) (s : S) (k : List A × B → C) (ts rest : List Tok) (total : Result (C × List Tok) Fault) (e : ReadError) → at xs ts ≡ false
      → Gives {A = A} (Err e) rest (read_from (f (flags s)) (first ts).place ts) → kept k (read_from (lines fl flags step f xs g s) p ts) ≡ total → Gives {A = C} (Err e) rest total
  fails_by p s k ts rest total errors.Memory off one so_far = tt
  fails_by p s k ts rest total (errors.Fault e) off one so_far =
      let open_up : read_from (lines fl flags step f xs g s) p ts ≡ Err e = another p s ts off ∙ rw one refl in
      sym so_far ∙ rw open_up refl

  pub close_fails_by : {C : Type 0} (p : ℕ) (s : S) (k : List A × B → C) (ts rest : List Tok) (total : Result (C × List Tok) Fault) (e : ReadError) → at xs ts ≡ true
      → Gives {A = B} (Err e) rest (read_from g p ts) → kept k (read_from (lines fl flags step f xs g s) p ts) ≡ total → Gives {A = C} (Err e) rest total
  close_fails_by p s k ts rest total errors.Memory here one so_far = tt
  close_fails_by p s k ts rest total (errors.Fault e) here one so_far =
      let open_up : read_from (lines fl flags step f xs g s) p ts ≡ Err e = closed p s ts here ∙ rw one refl in
      sym so_far ∙ rw open_up refl
