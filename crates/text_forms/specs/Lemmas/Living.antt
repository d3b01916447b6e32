-- What tokens can still become.
use Rattle.std.proofs.Common.{◌≡◌, Bool, true, false, cond, List, [], ◌∷◌, ◌++◌, refl, sym, ◌∙◌, inl, inr, append_assoc}
use Rattle.text_forms.specs.declared.symbol.Symbol.{Symbol}
use denote.Enum.Bare.{true_same}
use Rattle.text_forms.specs.contracts.symbol.Symbol.{the_type}
use Rattle.text_forms.specs.Tokens.{Tok, has}
use Rattle.text_forms.specs.Forms.{Flags, Form, token, nothing, never, both, on, made, left_out, past, many, lines}
use Rattle.text_forms.specs.Derives.{Derives}
use Rattle.text_forms.specs.Begins.{empties, begins, derives_some, decides}
use Rattle.text_forms.specs.Limits.{unlimited, widen, Live, LiveInFull}
use Rattle.text_forms.specs.Lemmas.Tests.{and_true, or_true, or_left, has_append}
use Rattle.text_forms.specs.Lemmas.Beginnings.{list_parts}
use Rattle.text_forms.specs.Lemmas.Unlimited.{derives_wide}

-- ---- some tokens that are derived

unfoldable pub Derived : {A : Type 0} → Form A → Type 0
Derived {A} f = (ts : List Tok) × (a : A) × Derives f ts a

pub some_derived : {A : Type 0} (f : Form A) → derives_some f ≡ true → Derived (unlimited f)
unfolding Derived
some_derived (token []) e = absurd cc
some_derived (token (x ∷ xs)) e = let t : Tok = record { symbol = x; place = 0; spelling = [] } in (t ∷ [], t, (refl, or_left _ _ (true_same the_type x x refl)))
some_derived (nothing a) e = ([], a, (refl, refl))
some_derived never e = absurd cc
some_derived (both f g) e =
    let k = and_true _ _ e in
    let p = some_derived f k.0 in
    let q = some_derived g k.1 in
    (p.0 ++ q.0, (p.1, q.1), (p.0, q.0, refl, p.2, q.2))
some_derived (on xs f g) e =
    elim (or_true _ _ e) [
      | inl x ↦ let p = some_derived f x in (p.0, p.1, inl p.2)
      | inr x ↦ let p = some_derived g x in (p.0, p.1, inr p.2)
    ]
some_derived (made h f) e = let p = some_derived f e in (p.0, h p.1, (p.1, p.2, refl))
some_derived (left_out xs a) e = absurd cc
some_derived (past f) e = some_derived f e
some_derived (many f) e = ([], [], refl)
some_derived (lines fl flags step f xs g s) e = let p = some_derived g e in (p.0, ([], p.1), p.2)

pub some_wide : {A : Type 0} (f : Form A) → Derived (unlimited f) → Derived (widen f)
unfolding Derived
some_wide f (ts, a, d) = (ts, a, derives_wide f ts a d)

-- no tokens are derived, limits aside, where the test says so
pub none_derived : {A : Type 0} (f : Form A) → decides f ≡ true → empties f ≡ true → (a : A) × Derives (unlimited f) [] a
none_derived (token xs) dec e = absurd cc
none_derived (nothing a) dec e = (a, (refl, refl))
none_derived never dec e = absurd cc
none_derived (both f g) dec e =
    let k = and_true _ _ e in
    let m = and_true _ _ (and_true _ _ dec).0 in
    let p = none_derived f m.0 k.0 in
    let q = none_derived g m.1 k.1 in
    ((p.0, q.0), ([], [], refl, p.1, q.1))
none_derived (on xs f g) dec e =
    let m = and_true _ _ (and_true _ _ dec).0 in
    elim (or_true _ _ e) [
      | inl x ↦ let p = none_derived f m.0 x in (p.0, inl p.1)
      | inr x ↦ let p = none_derived g m.1 x in (p.0, inr p.1)
    ]
none_derived (made h f) dec e = let p = none_derived f dec e in (h p.0, (p.0, p.1, refl))
none_derived (left_out xs a) dec e = absurd cc
none_derived (past f) dec e = none_derived f (and_true _ _ dec).0 e
none_derived (many f) dec e = absurd cc
none_derived (lines fl flags step f xs g s) dec e = let p = none_derived g (list_parts fl flags step f xs g s dec).closing e in (([], p.0), p.1)

-- ---- completions of a form as it stands

unfoldable pub Completes : {A : Type 0} → Form A → List Tok → Type 0
Completes {A} f ts = (more : List Tok) × (a : A) × Derives f (ts ++ more) a

-- a first part, and tokens that the second can go on from
pub both_goes_on : {A B : Type 0} (f : Form A) (g : Form B) (u v : List Tok) (a : A) → Derives f u a → Completes g v → Completes (both f g) (u ++ v)
unfolding Completes
both_goes_on f g u v a d (more, b, e) = (more, (a, b), (u, v ++ more, append_assoc u v more, d, e))

pub both_begun : {A B : Type 0} (f : Form A) (g : Form B) (u : List Tok) → Derived g → Completes f u → Completes (both f g) u
unfolding Completes Derived
both_begun f g u q (more, a, d) = (more ++ q.0, (a, q.1), (u ++ more, q.0, sym (append_assoc u more q.0), d, q.2))

pub lines_go_on : {A B S F : Type 0} (fl : Flags F) (flags : S → F) (step : S → A → S) (f : F → Form A) (xs : List Symbol) (g : Form B) (s : S) (u v : List Tok) (a : A) → Derives (f (flags s)) u a → Completes (lines fl flags step f xs g (step s a)) v → Completes (lines fl flags step f xs g s) (u ++ v)
unfolding Completes
lines_go_on fl flags step f xs g s u v a d (more, (others, b), e) = (more, (a ∷ others, b), (u, v ++ more, append_assoc u v more, d, e))

pub lines_begun : {A B S F : Type 0} (fl : Flags F) (flags : S → F) (step : S → A → S) (f : F → Form A) (xs : List Symbol) (g : Form B) (s : S) (u : List Tok) → Derived g → Completes (f (flags s)) u → Completes (lines fl flags step f xs g s) u
unfolding Completes Derived
lines_begun fl flags step f xs g s u q (more, a, d) = (more ++ q.0, (a ∷ [], q.1), (u ++ more, q.0, sym (append_assoc u more q.0), d, q.2))

pub lines_closing : {A B S F : Type 0} (fl : Flags F) (flags : S → F) (step : S → A → S) (f : F → Form A) (xs : List Symbol) (g : Form B) (s : S) (u : List Tok) → Completes g u → Completes (lines fl flags step f xs g s) u
unfolding Completes
lines_closing fl flags step f xs g s u (more, b, d) = (more, ([], b), d)

pub made_goes_on : {A B : Type 0} (h : A → B) (f : Form A) (u : List Tok) → Completes f u → Completes (made h f) u
unfolding Completes
made_goes_on h f u (more, a, d) = (more, h a, (a, d, refl))

pub live_is : {A : Type 0} (f : Form A) (ts : List Tok) → Completes (unlimited f) ts → Live f ts
unfolding Completes
live_is f ts c = c

pub is_live : {A : Type 0} (f : Form A) (ts : List Tok) → Live f ts → Completes (unlimited f) ts
unfolding Completes
is_live f ts c = c

pub full_is : {A : Type 0} (f : Form A) (ts : List Tok) → Completes (widen f) ts → LiveInFull f ts
unfolding Completes
full_is f ts c = c

pub is_full : {A : Type 0} (f : Form A) (ts : List Tok) → LiveInFull f ts → Completes (widen f) ts
unfolding Completes
is_full f ts c = c

pub some_left : {A : Type 0} (f : Form A) → derives_some f ≡ true → Completes (unlimited f) []
unfolding Derived Completes
some_left f e = some_derived f e

pub some_live : {A : Type 0} (f : Form A) → derives_some f ≡ true → Live f []
unfolding Derived
some_live f e = some_derived f e

-- ---- a token that the form begins with

pub begins_live : {A : Type 0} (f : Form A) → decides f ≡ true → (t : Tok) → has (begins f) t.symbol ≡ true → Live f (t ∷ [])
unfolding Derived Completes
begins_live (token xs) dec t h = ([], t, (refl, h))
begins_live (nothing a) dec t h = absurd cc
begins_live never dec t h = absurd cc
begins_live (both f g) dec t h =
    let k = and_true _ _ dec in
    let m = and_true _ _ k.0 in
    let n = and_true _ _ k.1 in
    elim (or_true _ _ (sym (has_append (begins f) (cond (empties f) (begins g) []) t.symbol) ∙ h)) [
      | inl x ↦ both_begun (unlimited f) (unlimited g) (t ∷ []) (some_derived g n.0) (begins_live f m.0 t x)
      | inr x ↦
          let y = chosen_both (empties f) (begins g) t.symbol x in
          let e = none_derived f m.0 y.0 in
          both_goes_on (unlimited f) (unlimited g) [] (t ∷ []) e.0 e.1 (begins_live g m.1 t y.1)
    ]
  where
    chosen_both : (b : Bool) (xs : List Symbol) (s : Symbol) → has (cond b xs []) s ≡ true → (b ≡ true) × (has xs s ≡ true)
    chosen_both true xs s e = (refl, e)
    chosen_both false xs s e = absurd cc
begins_live (on xs f g) dec t h =
    let m = and_true _ _ (and_true _ _ dec).0 in
    elim (or_true _ _ (sym (has_append (begins f) (begins g) t.symbol) ∙ h)) [
      | inl x ↦ let l = begins_live f m.0 t x in (l.0, l.1, inl l.2)
      | inr x ↦ let l = begins_live g m.1 t x in (l.0, l.1, inr l.2)
    ]
begins_live (made h f) dec t e = made_goes_on h (unlimited f) (t ∷ []) (begins_live f dec t e)
begins_live (left_out xs a) dec t h = absurd cc
begins_live (past f) dec t h = begins_live f (and_true _ _ dec).0 t h
begins_live (many f) dec t h = absurd cc
begins_live (lines fl flags step f xs g s) dec t h =
    let l = list_parts fl flags step f xs g s dec in
    elim (or_true _ _ (sym (has_append (begins g) (begins (f (flags s))) t.symbol) ∙ h)) [
      | inl x ↦ lines_closing fl flags step (λ y. unlimited (f y)) xs (unlimited g) s (t ∷ []) (begins_live g l.closing t x)
      | inr x ↦ lines_begun fl flags step (λ y. unlimited (f y)) xs (unlimited g) s (t ∷ []) (some_derived g l.closes) (begins_live (f (flags s)) (l.element (flags s)) t x)
    ]
