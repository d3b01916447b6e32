-- Choices of which one alternative alone is printed.
use Rattle.std.proofs.Common.{◌≡◌, ℕ, Bool, false, List, refl, sym, ap, subst, ◌∙◌, inl, inr}
use Rattle.std.specs.Prelude.{◌⊎◌}
use Rattle.text_forms.specs.declared.symbol.Symbol.{Symbol}
use Rattle.text_forms.specs.Tokens.{Tok}
use Rattle.text_forms.specs.Forms.{Form, nothing, both, on, made}
use Rattle.text_forms.specs.Derives.{Derives}
use Rattle.ir_lex.specs.Printed.{Piece}
use Rattle.ir_print.specs.Lemmas.Apart.{Apart}
use Rattle.ir_print.specs.Lemmas.Prints.{AllGood, toks, erase, erased_split, erased_none, Prints}

-- some tokens of a text have this meaning
pub record Said {A : Type 0} (f : Form A) (a : A) : Type 0 where
  pub tokens : List Tok
  pub good : AllGood tokens
  pub derived : Derives f tokens a

-- whatever the other form means, this one means too
abbrev pub Turns : {A : Type 0} → Form A → Form A → Type 0
Turns {A} f k = (ts : List Tok) (a : A) → AllGood ts → Derives f ts a → Said k a

abbrev pub Unplaces : {A : Type 0} → Form A → (A → A) → Type 0
Unplaces {A} f r = (ts : List Tok) (b : A) → Derives f (erase ts) b → (a : A) × Derives f ts a × (r a ≡ b)

pub first_alone : {A : Type 0} {m c : Bool} {xs : List Symbol} {k f : Form A} {e r : A → A} {p : List ℕ → A → List Piece} → Turns f k → Unplaces f r → Prints m c k e r p → Prints m false (on xs k f) e r p
first_alone {A} {m} {c} {xs} {k} {f} {e} {r} {p} turn unplace K = record {
  again = λ s ts a good t. elim t as (λ _. Derives k (toks (p s a)) (e a) ⊎ Derives f (toks (p s a)) (e a)) [
    | inl d ↦ inl (K.again s ts a good d)
    | inr d ↦ let said = turn ts a good d in inl (K.again s said.tokens a said.good said.derived)
  ];
  apart = λ s ts a blank good t o loose. elim t as (λ _. Apart o (p s a)) [
    | inl d ↦ K.apart s ts a blank good d o loose
    | inr d ↦ let said = turn ts a good d in K.apart s said.tokens a blank said.good said.derived o loose
  ];
  ends = λ s ts a t o h. absurd (cc);
  placed = λ ts b t. elim t as (λ _. (a : A) × (Derives k ts a ⊎ Derives f ts a) × (r a ≡ b)) [
    | inl d ↦ let (a, da, ea) = K.placed ts b d in (a, inl da, ea)
    | inr d ↦ let (a, da, ea) = unplace ts b d in (a, inr da, ea)
  ];
}

pub second_alone : {A : Type 0} {m c : Bool} {xs : List Symbol} {f k : Form A} {e r : A → A} {p : List ℕ → A → List Piece} → Turns f k → Unplaces f r → Prints m c k e r p → Prints m false (on xs f k) e r p
second_alone {A} {m} {c} {xs} {f} {k} {e} {r} {p} turn unplace K = record {
  again = λ s ts a good t. elim t as (λ _. Derives f (toks (p s a)) (e a) ⊎ Derives k (toks (p s a)) (e a)) [
    | inl d ↦ let said = turn ts a good d in inr (K.again s said.tokens a said.good said.derived)
    | inr d ↦ inr (K.again s ts a good d)
  ];
  apart = λ s ts a blank good t o loose. elim t as (λ _. Apart o (p s a)) [
    | inl d ↦ let said = turn ts a good d in K.apart s said.tokens a blank said.good said.derived o loose
    | inr d ↦ K.apart s ts a blank good d o loose
  ];
  ends = λ s ts a t o h. absurd (cc);
  placed = λ ts b t. elim t as (λ _. (a : A) × (Derives f ts a ⊎ Derives k ts a) × (r a ≡ b)) [
    | inl d ↦ let (a, da, ea) = unplace ts b d in (a, inl da, ea)
    | inr d ↦ let (a, da, ea) = K.placed ts b d in (a, inr da, ea)
  ];
}

-- ---- meanings without places, of forms of several parts

pub both_unplaces : {A B : Type 0} (f : Form A) (g : Form B) (r1 : A → A) (r2 : B → B) → Unplaces f r1 → Unplaces g r2 → Unplaces (both f g) (λ x. (r1 x.0, r2 x.1))
both_unplaces {A} {B} f g r1 r2 P Q ts y (u, v, q, df, dg) =
    let s = erased_split ts u v q in
    let (a, da, ea) = P s.front y.0 (subst (λ (l : List Tok). Derives f l y.0) (sym s.first) df) in
    let (b, db, eb) = Q s.back y.1 (subst (λ (l : List Tok). Derives g l y.1) (sym s.second) dg) in
    ((a, b), (s.front, s.back, s.parts, da, db), ap (λ (z : A). (z, r2 b)) ea ∙ ap (λ (z : B). (y.0, z)) eb)

pub made_unplaces : {A B : Type 0} (f : Form A) (h : A → B) (r1 : A → A) (r2 : B → B) → Unplaces f r1 → ((a : A) → r2 (h a) ≡ h (r1 a)) → Unplaces (made h f) r2
made_unplaces f h r1 r2 P same ts b (a, d, q) =
    let (x, dx, ex) = P ts a d in
    (h x, (x, dx, refl), same x ∙ ap h ex ∙ sym q)

pub on_unplaces : {A : Type 0} (xs : List Symbol) (f g : Form A) (r : A → A) → Unplaces f r → Unplaces g r → Unplaces (on xs f g) r
on_unplaces xs f g r P Q ts b (inl d) = let (a, da, ea) = P ts b d in (a, inl da, ea)
on_unplaces xs f g r P Q ts b (inr d) = let (a, da, ea) = Q ts b d in (a, inr da, ea)

pub nothing_unplaces : {A : Type 0} (a : A) (r : A → A) → r a ≡ a → Unplaces (nothing a) r
nothing_unplaces a r same ts b (q, e) = (a, (erased_none ts q, refl), same ∙ sym e)
