-- Tokens that are the same save places have a meaning too.
use Rattle.std.proofs.Common.{◌≡◌, true, List, [], ◌∷◌, ◌++◌, refl, ap, subst, inl, inr}
use Rattle.text_forms.specs.declared.symbol.Symbol.{Symbol}
use Rattle.text_forms.specs.Tokens.{Tok, has}
use Rattle.text_forms.specs.Forms.{Form, token, nothing, never, both, on, made, left_out, past, many, lines}
use Rattle.text_forms.specs.Derives.{Each, Elements, Derives}
use Rattle.text_forms.specs.Places.{Agree, IsPlaceFree}

pub agree_append : (u v ts : List Tok) → Agree (u ++ v) ts → (x y : List Tok) × (ts ≡ x ++ y) × Agree u x × Agree v y
unfolding Agree
agree_append [] v ts a = ([], ts, refl, tt, a)
agree_append (t ∷ u) v [] a = absurd a
agree_append (t ∷ u) v (s ∷ ts) (p, q, a) =
    let (x, y, e, b, c) = agree_append u v ts a in
    (s ∷ x, y, ap (λ (l : List Tok). s ∷ l) e, (p, q, b), c)

pub agree_one : (t : Tok) (ts : List Tok) → Agree (t ∷ []) ts → (s : Tok) × (ts ≡ s ∷ []) × (t.symbol ≡ s.symbol)
unfolding Agree
agree_one t [] a = absurd a
agree_one t (s ∷ []) (p, q, a) = (s, refl, p)
agree_one t (s ∷ r ∷ ts) (p, q, a) = absurd a

pub agree_none : (ts : List Tok) → Agree [] ts → ts ≡ []
unfolding Agree
agree_none [] a = refl
agree_none (t ∷ ts) a = absurd a

along : (ts v us : List Tok) → ts ≡ v → Agree ts us → Agree v us
along ts v us p a = subst (λ (l : List Tok). Agree l us) p a

each_again : {A : Type 0} (P : List Tok → A → Type 0) → ((ts us : List Tok) (a : A) → P ts a → Agree ts us → (b : A) × P us b) → (ts us : List Tok) (xs : List A) → Each P ts xs → Agree ts us → (ys : List A) × Each P us ys
each_again P h ts us [] e a = ([], agree_none us (along ts [] us e a))
each_again P h ts us (x ∷ xs) (u, v, p, d, e) a =
    let (c, d2, q, a1, a2) = agree_append u v us (along ts (u ++ v) us p a) in
    let (b, db) = h u c x d a1 in
    let (ys, dy) = each_again P h v d2 xs e a2 in
    (b ∷ ys, (c, d2, q, db, dy))

elements_again : {A B S F : Type 0} (flags : S → F) (step : S → A → S) (P : F → List Tok → A → Type 0) (Q : List Tok → B → Type 0)
    → ((s : S) (ts us : List Tok) (a b : A) → P (flags s) ts a → P (flags s) us b → Agree ts us → step s a ≡ step s b)
    → ((y : F) (ts us : List Tok) (a : A) → P y ts a → Agree ts us → (b : A) × P y us b) → ((ts us : List Tok) (a : B) → Q ts a → Agree ts us → (b : B) × Q us b)
    → (xs : List A) (s : S) (ts us : List Tok) (c : B) → Elements flags step P (λ _ v. Q v c) s ts xs → Agree ts us → (ys : List A) × (d : B) × Elements flags step P (λ _ v. Q v d) s us ys
elements_again flags step P Q same h k [] s ts us c e a = let (d, q) = k ts us c e a in ([], d, q)
elements_again flags step P Q same h k (x ∷ xs) s ts us c (u, v, p, dx, e) a =
    let (w, z, q, a1, a2) = agree_append u v us (along ts (u ++ v) us p a) in
    let (b, db) = h (flags s) u w x dx a1 in
    let (ys, d, rest) = elements_again flags step P Q same h k xs (step s x) v z c e a2 in
    (b ∷ ys, d, (w, z, q, db, subst (λ r. Elements flags step P (λ _ v. Q v d) r z ys) (same s u w x b dx db a1) rest))

pub derives_again : {A : Type 0} (f : Form A) → IsPlaceFree f → (ts us : List Tok) (a : A) → Derives f ts a → Agree ts us → (b : A) × Derives f us b
derives_again (token xs) free ts us x d a =
    let (t, p, q) = agree_one x us (along ts (x ∷ []) us d.0 a) in
    (t, (p, subst (λ (y : Symbol). has xs y ≡ true) q d.1))
derives_again (nothing b) free ts us x d a = (b, (agree_none us (along ts [] us d.0 a), refl))
derives_again never free ts us x d a = absurd d
derives_again (both f g) free ts us x (u, v, p, d, e) a =
    let (c, c2, q, a1, a2) = agree_append u v us (along ts (u ++ v) us p a) in
    let (y, dy) = derives_again f free.0 u c x.0 d a1 in
    let (z, dz) = derives_again g free.1 v c2 x.1 e a2 in
    ((y, z), (c, c2, q, dy, dz))
derives_again (on xs f g) free ts us x (inl d) a = let (b, e) = derives_again f free.0 ts us x d a in (b, inl e)
derives_again (on xs f g) free ts us x (inr d) a = let (b, e) = derives_again g free.1 ts us x d a in (b, inr e)
derives_again (made h f) free ts us x (y, d, p) a = let (b, e) = derives_again f free ts us y d a in (h b, (b, e, refl))
derives_again (left_out xs b) free ts us x d a = absurd d
derives_again (past f) free ts us x d a = absurd d
derives_again (many f) free ts us xs d a = each_again (Derives f) (derives_again f free) ts us xs d a
derives_again (lines fl flags step f xs g s) free ts us x d a =
    let (ys, b, e) = elements_again flags step (λ y. Derives (f y)) (Derives g) free.0 (λ y. derives_again (f y) (free.1 y)) (derives_again g free.2) x.0 s ts us x.1 d a in
    ((ys, b), e)
