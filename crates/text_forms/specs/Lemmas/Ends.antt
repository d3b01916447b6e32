-- A whole text ends with its one last token, and its places rise.
use Rattle.std.proofs.Common.{◌≡◌, ◌<◌, true, false, List, [], ◌∷◌, ◌++◌, length, sym, ap, subst, ◌∙◌, arith, inl, inr, append_assoc}
use Rattle.text_forms.specs.declared.symbol.Symbol.{Symbol}
use Rattle.text_forms.specs.Tokens.{Tok, same, has, last_symbols, is_last, IsText}
use Rattle.text_forms.specs.Forms.{Form, token, nothing, never, both, on, made, left_out, past, many, lines}
use Rattle.text_forms.specs.Derives.{Each, Elements, Derives}
use Rattle.text_forms.specs.Begins.{steady}
use Rattle.text_forms.specs.Limits.{unlimited}
use Rattle.text_forms.specs.Passing.{Leads}
use Rattle.text_forms.specs.Texts.{none_last, all_last, ordinary, ends}
use Rattle.text_forms.specs.Lemmas.Tests.{and_true, both_true, not_true, or_true, is_same, every_at, all_hold}

-- ---- texts

-- nothing stands behind a last token
pub last_is_last : (u : List Tok) (t : Tok) (rest : List Tok) → IsText (u ++ t ∷ rest) → is_last t.symbol ≡ true → rest ≡ []
unfolding IsText
last_is_last [] t rest (inl (l, none)) e = none
last_is_last [] t rest (inr (l, up, more)) e = absurd cc
last_is_last (x ∷ []) t rest (inl (l, none)) e = absurd cc
last_is_last (x ∷ y ∷ u) t rest (inl (l, none)) e = absurd cc
last_is_last (x ∷ u) t rest (inr (l, up, more)) e = last_is_last u t rest more e

above_first : (t : Tok) (ts u : List Tok) (y : Tok) (k : List Tok) → IsText (t ∷ ts) → ts ≡ u ++ y ∷ k → t.place < y.place
unfolding IsText
above_first t [] [] y k i q = absurd cc
above_first t [] (x ∷ u) y k i q = absurd cc
above_first t (s ∷ ts) u y k (inl (l, none)) q = absurd (let m = none in cc)
above_first t (s ∷ ts) [] y k (inr (l, up, more)) q = (let m : s ≡ y = cc in subst (λ (z : Tok). t.place < z.place) m up)
above_first t (s ∷ ts) (x ∷ u) y k (inr (l, up, more)) q =
    let m : ts ≡ u ++ y ∷ k = cc in
    let n : s.place < y.place = above_first s ts u y k more m in
    omega arith

-- a token further on has a higher place
pub places_rise : (ts : List Tok) → IsText ts → (b : List Tok) (x : Tok) (k c : List Tok) (y : Tok) (m : List Tok) → ts ≡ b ++ x ∷ k → ts ≡ c ++ y ∷ m → length b < length c → x.place < y.place
unfolding IsText
places_rise [] i b x k c y m p q lt = absurd i
places_rise (t ∷ ts) i b x k [] y m p q lt = absurd (omega arith)
places_rise (t ∷ ts) i [] x k (s ∷ c) y m p q lt =
    let tx : t ≡ x = cc in
    let rest : ts ≡ c ++ y ∷ m = cc in
    subst (λ (z : Tok). z.place < y.place) tx (above_first t ts c y m i rest)
places_rise (t ∷ ts) (inl (l, none)) (r ∷ b) x k (s ∷ c) y m p q lt = absurd (nothing_behind b x k ts none (let h : ts ≡ b ++ x ∷ k = cc in h))
  where
    nothing_behind : (b : List Tok) (x : Tok) (k ts : List Tok) → ts ≡ [] → ts ≡ b ++ x ∷ k → ⊥
    nothing_behind [] x k ts n h = absurd (let m = sym n ∙ h in cc)
    nothing_behind (y ∷ b) x k ts n h = absurd (let m = sym n ∙ h in cc)
places_rise (t ∷ ts) (inr (l, up, more)) (r ∷ b) x k (s ∷ c) y m p q lt =
    let pb : ts ≡ b ++ x ∷ k = cc in
    let pc : ts ≡ c ++ y ∷ m = cc in
    places_rise ts more b x k c y m pb pc (omega arith)

-- ---- what a grammar of whole texts derives

-- no last token is among these
unfoldable pub Ordinary : List Tok → Type 0
Ordinary [] = Unit {0}
Ordinary (t ∷ ts) = (is_last t.symbol ≡ false) × Ordinary ts

ordinary_append : (u v : List Tok) → Ordinary u → Ordinary v → Ordinary (u ++ v)
unfolding Ordinary
ordinary_append [] v p q = q
ordinary_append (t ∷ u) v p q = (p.0, ordinary_append u v p.1 q)

none_last_has : (xs : List Symbol) (s : Symbol) → none_last xs ≡ true → has xs s ≡ true → is_last s ≡ false
none_last_has [] s n h = absurd cc
none_last_has (x ∷ xs) s n h =
    let k = and_true _ _ n in
    elim (or_true (same x s) (has xs s) h) [
      | inl e ↦ ap (has last_symbols) (sym (is_same x s e)) ∙ not_true _ k.0
      | inr e ↦ none_last_has xs s k.1 e
    ]

all_last_has : (xs : List Symbol) (s : Symbol) → all_last xs ≡ true → has xs s ≡ true → is_last s ≡ true
all_last_has [] s n h = absurd cc
all_last_has (x ∷ xs) s n h =
    let k = and_true _ _ n in
    elim (or_true (same x s) (has xs s) h) [
      | inl e ↦ ap (has last_symbols) (sym (is_same x s e)) ∙ k.0
      | inr e ↦ all_last_has xs s k.1 e
    ]

ordinary_each : {A : Type 0} (P : List Tok → A → Type 0) → ((ts : List Tok) (a : A) → P ts a → Ordinary ts) → (xs : List A) (ts : List Tok) → Each P ts xs → Ordinary ts
unfolding Ordinary
ordinary_each P ih [] ts e = subst Ordinary (sym e) tt
ordinary_each P ih (x ∷ xs) ts (u, v, p, d, e) = subst Ordinary (sym p) (ordinary_append u v (ih u x d) (ordinary_each P ih xs v e))

ordinary_elements : {A S F : Type 0} (flags : S → F) (step : S → A → S) (P : F → List Tok → A → Type 0) (Q : S → List Tok → Type 0) → ((y : F) (ts : List Tok) (a : A) → P y ts a → Ordinary ts) → ((s : S) (v : List Tok) → Q s v → Ordinary v)
    → (xs : List A) (s : S) (ts : List Tok) → Elements flags step P Q s ts xs → Ordinary ts
ordinary_elements flags step P Q h k [] s ts d = k s ts d
ordinary_elements flags step P Q h k (x ∷ xs) s ts (u, v, p, d, e) = subst Ordinary (sym p) (ordinary_append u v (h (flags s) u x d) (ordinary_elements flags step P Q h k xs (step s x) v e))

pub ordinary_derived : {A : Type 0} (f : Form A) → ordinary f ≡ true → (ts : List Tok) (a : A) → Derives f ts a → Ordinary ts
unfolding Ordinary
ordinary_derived (token xs) o ts a d = subst Ordinary (sym d.0) (none_last_has xs a.symbol o d.1, tt)
ordinary_derived (nothing b) o ts a d = subst Ordinary (sym d.0) tt
ordinary_derived never o ts a d = absurd d
ordinary_derived (both f g) o ts a (u, v, p, df, dg) =
    let k = and_true _ _ o in
    subst Ordinary (sym p) (ordinary_append u v (ordinary_derived f k.0 u a.0 df) (ordinary_derived g k.1 v a.1 dg))
ordinary_derived (on xs f g) o ts a d =
    let k = and_true _ _ o in
    elim d [ inl x ↦ ordinary_derived f k.0 ts a x | inr x ↦ ordinary_derived g k.1 ts a x ]
ordinary_derived (made h f) o ts a (b, d, p) = ordinary_derived f o ts b d
ordinary_derived (left_out xs b) o ts a d = absurd d
ordinary_derived (past f) o ts a d = absurd d
ordinary_derived (many f) o ts a d = ordinary_each (Derives f) (ordinary_derived f o) a ts d
ordinary_derived (lines fl flags step f xs g s) o ts a d =
    let k = and_true _ _ o in
    ordinary_elements flags step (λ y. Derives (f y)) (λ _ v. Derives g v a.1) (λ y. ordinary_derived (f y) (every_at fl (λ y. ordinary (f y)) y k.0)) (λ _ v. ordinary_derived g k.1 v a.1) a.0 s ts d

-- one last token, behind ordinary ones
pub record Ended (ts : List Tok) : Type 0 where
  pub front : List Tok
  pub last : Tok
  pub parts : ts ≡ front ++ last ∷ []
  pub ordinary : Ordinary front
  pub is : is_last last.symbol ≡ true

ended_behind : (ts u v : List Tok) → ts ≡ u ++ v → Ordinary u → Ended v → Ended ts
ended_behind ts u v p o e = record {
  front = u ++ e.front;
  last = e.last;
  parts = p ∙ ap (λ (l : List Tok). u ++ l) e.parts ∙ sym (append_assoc u e.front (e.last ∷ []));
  ordinary = ordinary_append u e.front o e.ordinary;
  is = e.is;
}

ended_elements : {A S F : Type 0} (flags : S → F) (step : S → A → S) (P : F → List Tok → A → Type 0) (Q : S → List Tok → Type 0) → ((y : F) (ts : List Tok) (a : A) → P y ts a → Ordinary ts) → ((s : S) (v : List Tok) → Q s v → Ended v)
    → (xs : List A) (s : S) (ts : List Tok) → Elements flags step P Q s ts xs → Ended ts
ended_elements flags step P Q h k [] s ts d = k s ts d
ended_elements flags step P Q h k (x ∷ xs) s ts (u, v, p, d, e) = ended_behind ts u v p (h (flags s) u x d) (ended_elements flags step P Q h k xs (step s x) v e)

pub ended_derived : {A : Type 0} (f : Form A) → ends f ≡ true → (ts : List Tok) (a : A) → Derives f ts a → Ended ts
unfolding Ordinary
ended_derived (token xs) o ts a d = record { front = []; last = a; parts = d.0; ordinary = tt; is = all_last_has xs a.symbol o d.1 }
ended_derived (nothing b) o ts a d = absurd cc
ended_derived never o ts a d = absurd d
ended_derived (both f g) o ts a (u, v, p, df, dg) =
    let k = and_true _ _ o in
    ended_behind ts u v p (ordinary_derived f k.0 u a.0 df) (ended_derived g k.1 v a.1 dg)
ended_derived (on xs f g) o ts a d =
    let k = and_true _ _ o in
    elim d [ inl x ↦ ended_derived f k.0 ts a x | inr x ↦ ended_derived g k.1 ts a x ]
ended_derived (made h f) o ts a (b, d, p) = ended_derived f o ts b d
ended_derived (left_out xs b) o ts a d = absurd d
ended_derived (past f) o ts a d = absurd d
ended_derived (many f) o ts a d = absurd cc
ended_derived (lines fl flags step f xs g s) o ts a d =
    let k = and_true _ _ o in
    ended_elements flags step (λ y. Derives (f y)) (λ _ v. Derives g v a.1) (λ y. ordinary_derived (f y) (every_at fl (λ y. ordinary (f y)) y k.0)) (λ _ v. ended_derived g k.1 v a.1) a.0 s ts d

-- limits do not matter to it
ordinary_unlimited : {A : Type 0} (f : Form A) → ordinary f ≡ true → ordinary (unlimited f) ≡ true
ordinary_unlimited (token xs) o = o
ordinary_unlimited (nothing a) o = o
ordinary_unlimited never o = o
ordinary_unlimited (both f g) o = let k = and_true _ _ o in both_true _ _ (ordinary_unlimited f k.0) (ordinary_unlimited g k.1)
ordinary_unlimited (on xs f g) o = let k = and_true _ _ o in both_true _ _ (ordinary_unlimited f k.0) (ordinary_unlimited g k.1)
ordinary_unlimited (made h f) o = ordinary_unlimited f o
ordinary_unlimited (left_out xs a) o = o
ordinary_unlimited (past f) o = ordinary_unlimited f o
ordinary_unlimited (many f) o = ordinary_unlimited f o
ordinary_unlimited (lines fl flags step f xs g s) o =
    let k = and_true _ _ o in
    both_true _ _ (all_hold fl _ (λ y. ordinary_unlimited (f y) (every_at fl (λ y. ordinary (f y)) y k.0))) (ordinary_unlimited g k.1)

pub ends_unlimited : {A : Type 0} (f : Form A) → ends f ≡ true → ends (unlimited f) ≡ true
ends_unlimited (token xs) o = o
ends_unlimited (nothing a) o = o
ends_unlimited never o = o
ends_unlimited (both f g) o = let k = and_true _ _ o in both_true _ _ (ordinary_unlimited f k.0) (ends_unlimited g k.1)
ends_unlimited (on xs f g) o = let k = and_true _ _ o in both_true _ _ (ends_unlimited f k.0) (ends_unlimited g k.1)
ends_unlimited (made h f) o = ends_unlimited f o
ends_unlimited (left_out xs a) o = o
ends_unlimited (past f) o = ends_unlimited f o
ends_unlimited (many f) o = o
ends_unlimited (lines fl flags step f xs g s) o =
    let k = and_true _ _ o in
    both_true _ _ (all_hold fl _ (λ y. ordinary_unlimited (f y) (every_at fl (λ y. ordinary (f y)) y k.0))) (ends_unlimited g k.1)

-- a text that goes on to ordinary tokens and one more does not go on
pub text_whole : (ts more u : List Tok) (t : Tok) → IsText ts → Ordinary u → ts ++ more ≡ u ++ t ∷ [] → more ≡ []
unfolding IsText Ordinary
text_whole [] more u t e o p = absurd e
text_whole (x ∷ ts) more [] t e o p = (let q : ts ++ more ≡ [] = cc in nothing_behind ts more q)
  where
    nothing_behind : (ts more : List Tok) → ts ++ more ≡ [] → more ≡ []
    nothing_behind [] more q = q
    nothing_behind (y ∷ ts) more q = absurd cc
text_whole (x ∷ ts) more (y ∷ u) t (inl (l, none)) o p = absurd (let q : x ≡ y = cc in let r : is_last x.symbol ≡ false = subst (λ (z : Tok). is_last z.symbol ≡ false) (sym q) o.0 in cc)
text_whole (x ∷ ts) more (y ∷ u) t (inr (l, up, e)) o p = text_whole ts more u t e o.1 (let q : ts ++ more ≡ u ++ t ∷ [] = cc in q)

-- ---- a form whose lists have all its limits does not itself lead past one

leads_behind : {A S F : Type 0} (flags : S → F) (step : S → A → S) (P : F → List Tok → A → Type 0) (Q : S → List Tok → Type 0) → ((s : S) (v : List Tok) → Q s v → ⊥) → (xs : List A) (s : S) (ts : List Tok) → Elements flags step P Q s ts xs → ⊥
leads_behind flags step P Q h [] s ts d = h s ts d
leads_behind flags step P Q h (x ∷ xs) s ts (u, v, p, d, e) = leads_behind flags step P Q h xs (step s x) v e

pub steady_leads : {A : Type 0} (f : Form A) → steady f ≡ true → (us : List Tok) → Leads f us → ⊥
steady_leads (token xs) o us l = l
steady_leads (nothing a) o us l = l
steady_leads never o us l = l
steady_leads (both f g) o us (inl l) = steady_leads f (and_true _ _ o).0 us l
steady_leads (both f g) o us (inr (u, v, a, q, d, l)) = steady_leads g (and_true _ _ o).1 v l
steady_leads (on xs f g) o us (inl l) = steady_leads f (and_true _ _ o).0 us l
steady_leads (on xs f g) o us (inr l) = steady_leads g (and_true _ _ o).1 us l
steady_leads (made h f) o us l = steady_leads f o us l
steady_leads (left_out xs a) o us l = l
steady_leads (past f) o us l = absurd cc
steady_leads (many f) o us l = l
steady_leads (lines fl flags step f xs g s) o us (before, l) = leads_behind flags step (λ y. Derives (f y)) (λ _ v. Leads g v) (λ _ v. steady_leads g o v) before s us l
