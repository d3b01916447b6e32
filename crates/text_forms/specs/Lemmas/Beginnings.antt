-- What is derived begins as the form says.
use Rattle.std.proofs.Common.{◌≡◌, Bool, true, false, cond, List, [], ◌∷◌, ◌++◌, refl, sym, subst, ◌∙◌, inl, inr}
use Rattle.std.specs.Prelude.{◌&&◌, not}
use Rattle.text_forms.specs.declared.symbol.Symbol.{Symbol}
use Rattle.text_forms.specs.Tokens.{Tok, has, at}
use Rattle.text_forms.specs.Forms.{Flags, Form, token, nothing, never, both, on, made, left_out, past, many, lines}
use Rattle.text_forms.specs.Derives.{Elements, Derives}
use Rattle.text_forms.specs.Begins.{apart, only, union, gather, empties, begins, goes_on, derives_some, decides}
use Rattle.text_forms.specs.Lemmas.Tests.{and_true, and_false, not_true, false_not, or_false, or_left, or_right, is_false, has_left, has_right, only_has, apart_not, gathered, every_at, clear, nil_append, cons_parts, union_none}

-- ---- no tokens

-- where no tokens are elements and what comes behind them, there are none behind them
pub through : {A S F R : Type 0} (flags : S → F) (step : S → A → S) (P : F → List Tok → A → Type 0) (Q : S → List Tok → Type 0) → ((s : S) (v : List Tok) → v ≡ [] → Q s v → R)
    → (xs : List A) (s : S) (ts : List Tok) → ts ≡ [] → Elements flags step P Q s ts xs → R
through flags step P Q h [] s ts p d = h s ts p d
through flags step P Q h (x ∷ xs) s ts p (u, v, q, d, e) = through flags step P Q h xs (step s x) v (nil_append u v (sym p ∙ q)).1 e

pub nonempty : {A : Type 0} (f : Form A) (ts : List Tok) (a : A) → empties f ≡ false → ts ≡ [] → Derives f ts a → ⊥
nonempty (token xs) ts a e p d = absurd (let q = sym (d.0) ∙ p in cc)
nonempty (nothing b) ts a e p d = absurd cc
nonempty never ts a e p d = d
nonempty (both f g) ts a e p (u, v, q, df, dg) =
    let n = nil_append u v (sym p ∙ q) in
    elim (and_false (empties f) (empties g) e) [ inl x ↦ nonempty f u a.0 x n.0 df | inr x ↦ nonempty g v a.1 x n.1 dg ]
nonempty (on xs f g) ts a e p d =
    let n = or_false (empties f) (empties g) e in
    elim d [ inl x ↦ nonempty f ts a n.0 p x | inr x ↦ nonempty g ts a n.1 p x ]
nonempty (made h f) ts a e p (b, d, q) = nonempty f ts b e p d
nonempty (left_out xs b) ts a e p d = d
nonempty (past f) ts a e p d = d
nonempty (many f) ts a e p d = absurd cc
nonempty (lines fl flags step f xs g s) ts a e p d =
    through flags step (λ y. Derives (f y)) (λ _ v. Derives g v a.1) (λ _ v q dg. nonempty g v a.1 e q dg) a.0 s ts p d

pub empty_derived : {A : Type 0} (f : Form A) (ts : List Tok) (a : A) → ts ≡ [] → Derives f ts a → empties f ≡ true
empty_derived (token xs) ts a p d = absurd (let q = sym (d.0) ∙ p in cc)
empty_derived (nothing b) ts a p d = refl
empty_derived never ts a p d = absurd d
empty_derived (both f g) ts a p (u, v, q, df, dg) =
    let n = nil_append u v (sym p ∙ q) in
    rw (empty_derived f u a.0 n.0 df) (empty_derived g v a.1 n.1 dg)
empty_derived (on xs f g) ts a p d =
    elim d [ inl x ↦ or_left _ _ (empty_derived f ts a p x) | inr x ↦ or_right _ _ (empty_derived g ts a p x) ]
empty_derived (made h f) ts a p (b, d, q) = empty_derived f ts b p d
empty_derived (left_out xs b) ts a p d = absurd d
empty_derived (past f) ts a p d = absurd d
empty_derived (many f) ts a p d = refl
empty_derived (lines fl flags step f xs g s) ts a p d =
    through flags step (λ y. Derives (f y)) (λ _ v. Derives g v a.1) (λ _ v q dg. empty_derived g v a.1 q dg) a.0 s ts p d

-- ---- lists whose grammar is decided

-- what the test of a list says
pub record IsList {A B F : Type 0} (f : F → Form A) (xs : List Symbol) (g : Form B) : Type 0 where
  pub closing : decides g ≡ true
  pub closes : derives_some g ≡ true
  pub closing_some : empties g ≡ false
  pub closing_only : only xs (begins g) ≡ true
  pub element : (y : F) → decides (f y) ≡ true
  pub element_some : (y : F) → empties (f y) ≡ false
  pub not_closing : (y : F) (s : Symbol) → has (begins (f y)) s ≡ true → has xs s ≡ false
  pub ends_before : (y : F) (s : Symbol) → has xs s ≡ true → has (goes_on (f y)) s ≡ false
  pub ends_between : (y z : F) (s : Symbol) → has (begins (f z)) s ≡ true → has (goes_on (f y)) s ≡ false

ungathered : {F : Type 0} (fl : Flags F) (p : F → List Symbol) (y : F) (s : Symbol) → has (gather fl p) s ≡ false → has (p y) s ≡ false
ungathered fl p y s e = is_false (has (p y) s) (λ h. let k = gathered fl p y s h in cc)

pub list_parts : {A B S F : Type 0} (fl : Flags F) (flags : S → F) (step : S → A → S) (f : F → Form A) (xs : List Symbol) (g : Form B) (s : S) → decides (lines fl flags step f xs g s) ≡ true → IsList f xs g
list_parts fl flags step f xs g s dec =
    let p = and_true _ _ dec in
    let q = and_true _ _ p.0 in
    let r = and_true _ _ q.0 in
    let k = and_true _ _ q.1 in
    let m = and_true _ _ p.1 in
    let each : (y : _) → (decides (f y) && not (empties (f y))) && apart xs (begins (f y)) ≡ true = λ y. every_at fl (λ y. (decides (f y) && not (empties (f y))) && apart xs (begins (f y))) y m.0 in
    let apart_ends : apart (gather fl (λ y. goes_on (f y))) (xs ++ gather fl (λ y. begins (f y))) ≡ true = m.1 in
    record {
      closing = r.0;
      closes = r.1;
      closing_some = not_true _ k.0;
      closing_only = k.1;
      element = λ y. (and_true _ _ (and_true _ _ (each y)).0).0;
      element_some = λ y. not_true _ (and_true _ _ (and_true _ _ (each y)).0).1;
      not_closing = λ y s h. apart_not xs (begins (f y)) s (and_true _ _ (each y)).1 h;
      ends_before = λ y s h. ungathered fl (λ y. goes_on (f y)) y s (apart_not _ (xs ++ gather fl (λ y. begins (f y))) s apart_ends (has_left xs _ s h));
      ends_between = λ y z s h. ungathered fl (λ y. goes_on (f y)) y s (apart_not _ (xs ++ gather fl (λ y. begins (f y))) s apart_ends (has_right xs _ s (gathered fl (λ y. begins (f y)) z s h)));
    }

-- ---- the first token

pub chosen_has : (b : Bool) (xs : List Symbol) (s : Symbol) → b ≡ true → has xs s ≡ true → has (cond b xs []) s ≡ true
chosen_has true xs s e h = h
chosen_has false xs s e h = absurd cc

-- the first token of what is derived is one that the form begins with
pub first_derived : {A : Type 0} (f : Form A) → decides f ≡ true → (t : Tok) (ts us : List Tok) (a : A) → us ≡ t ∷ ts → Derives f us a → has (begins f) t.symbol ≡ true
first_derived (token xs) dec t ts us a p d =
    let q : a ≡ t = (let e = sym (d.0) ∙ p in cc) in
    subst (λ (x : Tok). has xs x.symbol ≡ true) q d.1
first_derived (nothing b) dec t ts us a p d = absurd (let e = sym (d.0) ∙ p in cc)
first_derived never dec t ts us a p d = absurd d
first_derived (both f g) dec t ts us a p (u, v, q, df, dg) =
    let k = and_true _ _ (and_true _ _ dec).0 in
    elim (cons_parts t ts u v (sym p ∙ q)) [
      | inl (none, all) ↦ has_right (begins f) _ _ (chosen_has (empties f) (begins g) _ (empty_derived f u a.0 none df) (first_derived g k.1 t ts v a.1 all dg))
      | inr (w, some) ↦ has_left (begins f) _ _ (first_derived f k.0 t w u a.0 some df)
    ]
first_derived (on xs f g) dec t ts us a p d =
    let k = and_true _ _ (and_true _ _ dec).0 in
    elim d [ inl x ↦ has_left (begins f) (begins g) _ (first_derived f k.0 t ts us a p x) | inr x ↦ has_right (begins f) (begins g) _ (first_derived g k.1 t ts us a p x) ]
first_derived (made h f) dec t ts us a p (b, d, q) = first_derived f dec t ts us b p d
first_derived (left_out xs b) dec t ts us a p d = absurd d
first_derived (past f) dec t ts us a p d = absurd d
first_derived (many f) dec t ts us a p d = absurd cc
first_derived (lines fl flags step f xs g s) dec t ts us ([], b) p d =
    let l = list_parts fl flags step f xs g s dec in
    has_left (begins g) _ _ (first_derived g l.closing t ts us b p d)
first_derived (lines fl flags step f xs g s) dec t ts us (x ∷ rest, b) p (u, v, q, d, e) =
    let l = list_parts fl flags step f xs g s dec in
    elim (cons_parts t ts u v (sym p ∙ q)) [
      | inl (none, all) ↦ absurd (nonempty (f (flags s)) u x (l.element_some (flags s)) none d)
      | inr (w, some) ↦ has_right (begins g) _ _ (first_derived (f (flags s)) (l.element (flags s)) t w u x some d)
    ]

-- the next token is one of these, where what is derived has one
pub at_derived : {A : Type 0} (f : Form A) → decides f ≡ true → (u : List Tok) (a : A) (k : List Tok) → (u ≡ [] → ⊥) → Derives f u a → at (begins f) (u ++ k) ≡ true
at_derived f dec [] a k some d = absurd (some refl)
at_derived f dec (t ∷ u) a k some d = first_derived f dec t u (t ∷ u) a refl d

-- ---- what comes next, where these do not go on

pub at_only : (xs ys : List Symbol) (ts : List Tok) → only xs ys ≡ true → at ys ts ≡ true → at xs ts ≡ true
at_only xs ys [] o e = absurd cc
at_only xs ys (t ∷ ts) o e = only_has xs ys t.symbol o e

pub at_apart : (xs ys : List Symbol) (ts : List Tok) → apart xs ys ≡ true → at ys ts ≡ true → at xs ts ≡ false
at_apart xs ys [] a e = refl
at_apart xs ys (t ∷ ts) a e = apart_not xs ys t.symbol a e

pub at_none : (xs ys : List Symbol) (ts : List Tok) → ((s : Symbol) → has ys s ≡ true → has xs s ≡ false) → at ys ts ≡ true → at xs ts ≡ false
at_none xs ys [] h e = refl
at_none xs ys (t ∷ ts) h e = h t.symbol e

pub clear_union : (xs ys : List Symbol) (k : List Tok) → clear (union xs ys) k ≡ true → (clear xs k ≡ true) × (clear ys k ≡ true)
clear_union xs ys [] e = (refl, refl)
clear_union xs ys (t ∷ k) e = let n = union_none xs ys t.symbol (not_true _ e) in (false_not _ n.0, false_not _ n.1)

pub clear_chosen : (b : Bool) (xs : List Symbol) (k : List Tok) → b ≡ true → clear (cond b xs []) k ≡ true → clear xs k ≡ true
clear_chosen true xs k e h = h
clear_chosen false xs k e h = absurd cc

-- where nothing goes on with the second form, what it derives or what follows it does not go on with the first
pub clear_second : {B : Type 0} (xs : List Symbol) (g : Form B) → decides g ≡ true → (v : List Tok) (b : B) (k : List Tok) → Derives g v b → apart xs (begins g) ≡ true → clear (union (goes_on g) (cond (empties g) xs [])) k ≡ true → clear xs (v ++ k) ≡ true
clear_second xs g dec [] b k d a c = clear_chosen (empties g) xs k (empty_derived g [] b refl d) (clear_union (goes_on g) _ k c).1
clear_second xs g dec (t ∷ v) b k d a c = false_not _ (apart_not xs (begins g) _ a (first_derived g dec t v (t ∷ v) b refl d))
