-- The grammar without limits passes the same tests, and is read alike save where an element passes a limit.
use Rattle.std.proofs.Common.{◌≡◌, true, List, [], ◌∷◌, refl, ◌∙◌, inl, inr}
use Rattle.std.specs.Prelude.{◌&&◌, not}
use Rattle.text_forms.specs.Tokens.{Tok}
use Rattle.text_forms.specs.Forms.{Form, token, nothing, never, both, on, made, left_out, past, many, lines}
use Rattle.text_forms.specs.Derives.{Each, Elements, Derives}
use Rattle.text_forms.specs.Begins.{apart, gather, empties, begins, goes_on, derives_some, decides}
use Rattle.text_forms.specs.Limits.{unlimited, widen}
use Rattle.text_forms.specs.Lemmas.Tests.{and_true, both_true, every_at, all_hold, gather_same}

-- ---- the same tests

pub empties_unlimited : {A : Type 0} (f : Form A) → empties (unlimited f) ≡ empties f
empties_unlimited (token xs) = refl
empties_unlimited (nothing a) = refl
empties_unlimited never = refl
empties_unlimited (both f g) = rw (empties_unlimited f, empties_unlimited g) refl
empties_unlimited (on xs f g) = rw (empties_unlimited f, empties_unlimited g) refl
empties_unlimited (made h f) = empties_unlimited f
empties_unlimited (left_out xs a) = refl
empties_unlimited (past f) = empties_unlimited f
empties_unlimited (many f) = refl
empties_unlimited (lines fl flags step f xs g s) = empties_unlimited g

pub begins_unlimited : {A : Type 0} (f : Form A) → begins (unlimited f) ≡ begins f
begins_unlimited (token xs) = refl
begins_unlimited (nothing a) = refl
begins_unlimited never = refl
begins_unlimited (both f g) = rw (begins_unlimited f, begins_unlimited g, empties_unlimited f) refl
begins_unlimited (on xs f g) = rw (begins_unlimited f, begins_unlimited g) refl
begins_unlimited (made h f) = begins_unlimited f
begins_unlimited (left_out xs a) = refl
begins_unlimited (past f) = begins_unlimited f
begins_unlimited (many f) = begins_unlimited f
begins_unlimited (lines fl flags step f xs g s) = rw (begins_unlimited g, begins_unlimited (f (flags s))) refl

goes_on_unlimited : {A : Type 0} (f : Form A) → goes_on (unlimited f) ≡ goes_on f
goes_on_unlimited (token xs) = refl
goes_on_unlimited (nothing a) = refl
goes_on_unlimited never = refl
goes_on_unlimited (both f g) = rw (goes_on_unlimited f, goes_on_unlimited g, empties_unlimited g) refl
goes_on_unlimited (on xs f g) = rw (goes_on_unlimited f, goes_on_unlimited g, empties_unlimited g) refl
goes_on_unlimited (made h f) = goes_on_unlimited f
goes_on_unlimited (left_out xs a) = refl
goes_on_unlimited (past f) = goes_on_unlimited f
goes_on_unlimited (many f) = rw (begins_unlimited f, goes_on_unlimited f) refl
goes_on_unlimited (lines fl flags step f xs g s) = goes_on_unlimited g

some_unlimited : {A : Type 0} (f : Form A) → derives_some (unlimited f) ≡ derives_some f
some_unlimited (token []) = refl
some_unlimited (token (x ∷ xs)) = refl
some_unlimited (nothing a) = refl
some_unlimited never = refl
some_unlimited (both f g) = rw (some_unlimited f, some_unlimited g) refl
some_unlimited (on xs f g) = rw (some_unlimited f, some_unlimited g) refl
some_unlimited (made h f) = some_unlimited f
some_unlimited (left_out xs a) = refl
some_unlimited (past f) = some_unlimited f
some_unlimited (many f) = refl
some_unlimited (lines fl flags step f xs g s) = some_unlimited g

pub decides_unlimited : {A : Type 0} (f : Form A) → decides f ≡ true → decides (unlimited f) ≡ true
decides_unlimited (token xs) e = e
decides_unlimited (nothing a) e = e
decides_unlimited never e = e
decides_unlimited (both f g) e =
    let k = and_true _ _ e in
    let m = and_true _ _ k.0 in
    both_true _ _ (both_true _ _ (decides_unlimited f m.0) (decides_unlimited g m.1)) (rw (some_unlimited g, goes_on_unlimited f, begins_unlimited g) k.1)
decides_unlimited (on xs f g) e =
    let k = and_true _ _ e in
    let m = and_true _ _ k.0 in
    both_true _ _ (both_true _ _ (decides_unlimited f m.0) (decides_unlimited g m.1)) (rw (empties_unlimited f, begins_unlimited f, begins_unlimited g) k.1)
decides_unlimited (made h f) e = decides_unlimited f e
decides_unlimited (left_out xs a) e = e
decides_unlimited (past f) e = decides_unlimited f (and_true _ _ e).0
decides_unlimited (many f) e = e
decides_unlimited (lines fl flags step f xs g s) e =
    let p = and_true _ _ e in
    let q = and_true _ _ p.0 in
    let r = and_true _ _ q.0 in
    let m = and_true _ _ p.1 in
    let ends : gather fl (λ y. goes_on (unlimited (f y))) ≡ gather fl (λ y. goes_on (f y)) = gather_same fl _ _ (λ y. goes_on_unlimited (f y)) in
    let starts : gather fl (λ y. begins (unlimited (f y))) ≡ gather fl (λ y. begins (f y)) = gather_same fl _ _ (λ y. begins_unlimited (f y)) in
    both_true _ _ (both_true _ _ (both_true _ _ (decides_unlimited g r.0) (some_unlimited g ∙ r.1)) (rw (empties_unlimited g, begins_unlimited g) q.1))
    (both_true _ _ (all_hold fl _ (λ y.
    let k = and_true _ _ (every_at fl (λ y. (decides (f y) && not (empties (f y))) && apart xs (begins (f y))) y m.0) in
    let n = and_true _ _ k.0 in
    both_true _ _ (both_true _ _ (decides_unlimited (f y) n.0) (rw (empties_unlimited (f y)) n.1)) (rw (begins_unlimited (f y)) k.1))) (rw (ends, starts) m.1))

-- ---- what is derived is derived without limits, and where more words are words

pub elements_map : {A S F : Type 0} (flags : S → F) (step : S → A → S) (P P' : F → List Tok → A → Type 0) (Q Q' : S → List Tok → Type 0) → ((y : F) (ts : List Tok) (a : A) → P y ts a → P' y ts a) → ((s : S) (v : List Tok) → Q s v → Q' s v)
    → (xs : List A) (s : S) (ts : List Tok) → Elements flags step P Q s ts xs → Elements flags step P' Q' s ts xs
elements_map flags step P P' Q Q' h k [] s ts d = k s ts d
elements_map flags step P P' Q Q' h k (x ∷ xs) s ts (u, v, p, d, e) = (u, v, p, h (flags s) u x d, elements_map flags step P P' Q Q' h k xs (step s x) v e)

each_map : {A : Type 0} (P Q : List Tok → A → Type 0) → ((ts : List Tok) (a : A) → P ts a → Q ts a) → (ts : List Tok) (xs : List A) → Each P ts xs → Each Q ts xs
each_map P Q h ts [] e = e
each_map P Q h ts (x ∷ xs) (u, v, p, d, e) = (u, v, p, h u x d, each_map P Q h v xs e)

pub derives_unlimited : {A : Type 0} (f : Form A) (ts : List Tok) (a : A) → Derives f ts a → Derives (unlimited f) ts a
derives_unlimited (token xs) ts a d = d
derives_unlimited (nothing b) ts a d = d
derives_unlimited never ts a d = d
derives_unlimited (both f g) ts a (u, v, p, d, e) = (u, v, p, derives_unlimited f u a.0 d, derives_unlimited g v a.1 e)
derives_unlimited (on xs f g) ts a (inl d) = inl (derives_unlimited f ts a d)
derives_unlimited (on xs f g) ts a (inr d) = inr (derives_unlimited g ts a d)
derives_unlimited (made h f) ts a (b, d, p) = (b, derives_unlimited f ts b d, p)
derives_unlimited (left_out xs b) ts a d = d
derives_unlimited (past f) ts a d = absurd d
derives_unlimited (many f) ts a d = each_map (Derives f) (Derives (unlimited f)) (derives_unlimited f) ts a d
derives_unlimited (lines fl flags step f xs g s) ts a d =
    elements_map flags step (λ y. Derives (f y)) (λ y. Derives (unlimited (f y))) (λ _ v. Derives g v a.1) (λ _ v. Derives (unlimited g) v a.1) (λ y. derives_unlimited (f y)) (λ _ v. derives_unlimited g v a.1) a.0 s ts d

pub derives_wide : {A : Type 0} (f : Form A) (ts : List Tok) (a : A) → Derives (unlimited f) ts a → Derives (widen f) ts a
derives_wide (token xs) ts a d = d
derives_wide (nothing b) ts a d = d
derives_wide never ts a d = d
derives_wide (both f g) ts a (u, v, p, d, e) = (u, v, p, derives_wide f u a.0 d, derives_wide g v a.1 e)
derives_wide (on xs f g) ts a (inl d) = inl (derives_wide f ts a d)
derives_wide (on xs f g) ts a (inr d) = inr (derives_wide g ts a d)
derives_wide (made h f) ts a (b, d, p) = (b, derives_wide f ts b d, p)
derives_wide (left_out xs b) ts a d = absurd d
derives_wide (past f) ts a d = derives_wide f ts a d
derives_wide (many f) ts a d = each_map (Derives (unlimited f)) (Derives (widen f)) (derives_wide f) ts a d
derives_wide (lines fl flags step f xs g s) ts a d =
    elements_map flags step (λ y. Derives (unlimited (f y))) (λ y. Derives (widen (f y))) (λ _ v. Derives (unlimited g) v a.1) (λ _ v. Derives (widen g) v a.1) (λ y. derives_wide (f y)) (λ _ v. derives_wide g v a.1) a.0 s ts d
