-- Elements past a limit: they begin as the form does, and their tokens are live.
use Rattle.std.proofs.Common.{◌≡◌, Bool, true, false, cond, List, [], ◌∷◌, ◌++◌, refl, sym, ap, subst, ◌∙◌, inl, inr, append_assoc}
use Rattle.std.specs.Prelude.{◌⊎◌}
use Rattle.std.proofs.lemmas.List.{append-nil}
use Rattle.text_forms.specs.declared.symbol.Symbol.{Symbol}
use Rattle.text_forms.specs.Tokens.{Tok, has, at}
use Rattle.text_forms.specs.Forms.{Flags, Form, token, nothing, never, both, on, made, left_out, past, many, lines}
use Rattle.text_forms.specs.Derives.{Elements, Derives}
use Rattle.text_forms.specs.Begins.{empties, begins, decides}
use Rattle.text_forms.specs.Limits.{unlimited, Live}
use Rattle.text_forms.specs.Passing.{Leads, Passes}
use Rattle.text_forms.specs.Lemmas.Tests.{and_true, has_left, has_right}
use Rattle.text_forms.specs.Lemmas.Beginnings.{nonempty, empty_derived, first_derived, at_derived, list_parts}
use Rattle.text_forms.specs.Lemmas.Unlimited.{decides_unlimited, begins_unlimited, derives_unlimited}
use Rattle.text_forms.specs.Lemmas.Living.{Derived, Completes, some_derived, both_goes_on, both_begun, lines_go_on, lines_begun, lines_closing, made_goes_on}

-- ---- they begin as the form does

at_left : (xs ys : List Symbol) (ts : List Tok) → at xs ts ≡ true → at (xs ++ ys) ts ≡ true
at_left xs ys [] e = absurd cc
at_left xs ys (t ∷ ts) e = has_left xs ys t.symbol e

at_right : (xs ys : List Symbol) (ts : List Tok) → at ys ts ≡ true → at (xs ++ ys) ts ≡ true
at_right xs ys [] e = absurd cc
at_right xs ys (t ∷ ts) e = has_right xs ys t.symbol e

at_chosen : (b : Bool) (xs : List Symbol) (ts : List Tok) → b ≡ true → at xs ts ≡ true → at (cond b xs []) ts ≡ true
at_chosen true xs ts e h = h
at_chosen false xs ts e h = absurd cc

-- what the first form derives, and then tokens that the second begins with
both_first : {A B : Type 0} (f : Form A) (g : Form B) → decides f ≡ true → (u v : List Tok) (a : A) → Derives f u a → at (begins g) v ≡ true → at (begins f ++ cond (empties f) (begins g) []) (u ++ v) ≡ true
both_first f g dec [] v a d h = at_right (begins f) _ v (at_chosen (empties f) (begins g) v (empty_derived f [] a refl d) h)
both_first f g dec (t ∷ u) v a d h = has_left (begins f) _ t.symbol (first_derived f dec t u (t ∷ u) a refl d)

regroup : (P : List Tok → Type 0) (us u v k : List Tok) → us ≡ u ++ v → P (u ++ (v ++ k)) → P (us ++ k)
regroup P us u v k q h = subst P (sym (ap (λ (l : List Tok). l ++ k) q ∙ append_assoc u v k)) h

pub leads_first : {A : Type 0} (f : Form A) → decides f ≡ true → (us : List Tok) → Leads f us → (k : List Tok) → at (begins f) (us ++ k) ≡ true
leads_first (token xs) dec us l k = absurd l
leads_first (nothing a) dec us l k = absurd l
leads_first never dec us l k = absurd l
leads_first (both f g) dec us (inl l) k = at_left (begins f) _ (us ++ k) (leads_first f (and_true _ _ (and_true _ _ dec).0).0 us l k)
leads_first (both f g) dec us (inr (u, v, a, q, d, l)) k =
    let m = and_true _ _ (and_true _ _ dec).0 in
    regroup (λ ts. at (begins f ++ cond (empties f) (begins g) []) ts ≡ true) us u v k q (both_first f g m.0 u (v ++ k) a d (leads_first g m.1 v l k))
leads_first (on xs f g) dec us (inl l) k = at_left (begins f) _ (us ++ k) (leads_first f (and_true _ _ (and_true _ _ dec).0).0 us l k)
leads_first (on xs f g) dec us (inr l) k = at_right (begins f) _ (us ++ k) (leads_first g (and_true _ _ (and_true _ _ dec).0).1 us l k)
leads_first (made h f) dec us l k = leads_first f dec us l k
leads_first (left_out xs a) dec us l k = absurd l
leads_first (past f) dec us (t, q, (more, a, d)) k =
    let e = (and_true _ _ dec).0 in
    let h : has (begins (unlimited f)) t.symbol ≡ true = first_derived (unlimited f) (decides_unlimited f e) t more (us ++ more) a (ap (λ (l : List Tok). l ++ more) q) d in
    subst (λ (ts : List Tok). at (begins f) (ts ++ k) ≡ true) (sym q) (subst (λ (xs : List Symbol). has xs t.symbol ≡ true) (begins_unlimited f) h)
leads_first (many f) dec us l k = absurd l
leads_first (lines fl flags step f xs g s) dec us ([], l) k = at_left (begins g) _ (us ++ k) (leads_first g (list_parts fl flags step f xs g s dec).closing us l k)
leads_first (lines fl flags step f xs g s) dec us (x ∷ others, (u, v, q, d, l)) k =
    let p = list_parts fl flags step f xs g s dec in
    regroup (λ ts. at (begins g ++ begins (f (flags s))) ts ≡ true) us u v k q
    (at_right (begins g) _ (u ++ (v ++ k)) (at_derived (f (flags s)) (p.element (flags s)) u x (v ++ k) (λ none. nonempty (f (flags s)) u x (p.element_some (flags s)) none d) d))

pub passes_first : {A : Type 0} (f : Form A) → decides f ≡ true → (ts us : List Tok) → Passes f ts us → (k : List Tok) → at (begins f) (ts ++ (us ++ k)) ≡ true
passes_first (token xs) dec ts us l k = absurd l
passes_first (nothing a) dec ts us l k = absurd l
passes_first never dec ts us l k = absurd l
passes_first (both f g) dec ts us (inl l) k = at_left (begins f) _ (ts ++ (us ++ k)) (passes_first f (and_true _ _ (and_true _ _ dec).0).0 ts us l k)
passes_first (both f g) dec ts us (inr (u, v, a, q, d, l)) k =
    let m = and_true _ _ (and_true _ _ dec).0 in
    regroup (λ x. at (begins f ++ cond (empties f) (begins g) []) x ≡ true) ts u v (us ++ k) q (both_first f g m.0 u (v ++ (us ++ k)) a d (passes_first g m.1 v us l k))
passes_first (on xs f g) dec ts us (inl l) k = at_left (begins f) _ (ts ++ (us ++ k)) (passes_first f (and_true _ _ (and_true _ _ dec).0).0 ts us l k)
passes_first (on xs f g) dec ts us (inr l) k = at_right (begins f) _ (ts ++ (us ++ k)) (passes_first g (and_true _ _ (and_true _ _ dec).0).1 ts us l k)
passes_first (made h f) dec ts us l k = passes_first f dec ts us l k
passes_first (left_out xs a) dec ts us l k = absurd l
passes_first (past f) dec ts us l k = absurd l
passes_first (many f) dec ts us l k = absurd l
passes_first (lines fl flags step f xs g s) dec ts us ([], inl (none, l)) k =
    let p = list_parts fl flags step f xs g s dec in
    subst (λ (v : List Tok). at (begins g ++ begins (f (flags s))) (v ++ (us ++ k)) ≡ true) (sym none) (at_right (begins g) _ (us ++ k) (leads_first (f (flags s)) (p.element (flags s)) us l k))
passes_first (lines fl flags step f xs g s) dec ts us ([], inr (inl l)) k =
    let p = list_parts fl flags step f xs g s dec in
    at_right (begins g) _ (ts ++ (us ++ k)) (passes_first (f (flags s)) (p.element (flags s)) ts us l k)
passes_first (lines fl flags step f xs g s) dec ts us ([], inr (inr l)) k =
    at_left (begins g) _ (ts ++ (us ++ k)) (passes_first g (list_parts fl flags step f xs g s dec).closing ts us l k)
passes_first (lines fl flags step f xs g s) dec ts us (x ∷ others, (u, v, q, d, l)) k =
    let p = list_parts fl flags step f xs g s dec in
    regroup (λ z. at (begins g ++ begins (f (flags s))) z ≡ true) ts u v (us ++ k) q
    (at_right (begins g) _ (u ++ (v ++ (us ++ k))) (at_derived (f (flags s)) (p.element (flags s)) u x (v ++ (us ++ k)) (λ none. nonempty (f (flags s)) u x (p.element_some (flags s)) none d) d))

-- some token tells that an element passes a limit
pub leads_some : {A : Type 0} (f : Form A) → decides f ≡ true → (us : List Tok) → Leads f us → us ≡ [] → ⊥
leads_some f dec us l none = absurd (let h : at (begins f) ([] ++ []) ≡ true = subst (λ (v : List Tok). at (begins f) (v ++ []) ≡ true) none (leads_first f dec us l []) in cc)

some_behind : {A S F : Type 0} (flags : S → F) (step : S → A → S) (P : F → List Tok → A → Type 0) (Q : S → List Tok → Type 0) → ((s : S) (v : List Tok) → Q s v → ⊥) → (xs : List A) (s : S) (ts : List Tok) → Elements flags step P Q s ts xs → ⊥
some_behind flags step P Q h [] s ts d = h s ts d
some_behind flags step P Q h (x ∷ xs) s ts (u, v, p, d, e) = some_behind flags step P Q h xs (step s x) v e

pub passes_some : {A : Type 0} (f : Form A) → decides f ≡ true → (ts us : List Tok) → Passes f ts us → us ≡ [] → ⊥
passes_some (token xs) dec ts us l none = l
passes_some (nothing a) dec ts us l none = l
passes_some never dec ts us l none = l
passes_some (both f g) dec ts us (inl l) none = passes_some f (and_true _ _ (and_true _ _ dec).0).0 ts us l none
passes_some (both f g) dec ts us (inr (u, v, a, q, d, l)) none = passes_some g (and_true _ _ (and_true _ _ dec).0).1 v us l none
passes_some (on xs f g) dec ts us (inl l) none = passes_some f (and_true _ _ (and_true _ _ dec).0).0 ts us l none
passes_some (on xs f g) dec ts us (inr l) none = passes_some g (and_true _ _ (and_true _ _ dec).0).1 ts us l none
passes_some (made h f) dec ts us l none = passes_some f dec ts us l none
passes_some (left_out xs a) dec ts us l none = l
passes_some (past f) dec ts us l none = l
passes_some (many f) dec ts us l none = l
passes_some (lines fl flags step f xs g s) dec ts us (before, l) none =
    let p = list_parts fl flags step f xs g s dec in
    some_behind flags step (λ y. Derives (f y)) (λ s v. ((v ≡ []) × Leads (f (flags s)) us) ⊎ (Passes (f (flags s)) v us ⊎ Passes g v us))
    (λ s v k. elim k [
      | inl m ↦ leads_some (f (flags s)) (p.element (flags s)) us m.1 none
      | inr (inl m) ↦ passes_some (f (flags s)) (p.element (flags s)) v us m none
      | inr (inr m) ↦ passes_some g p.closing v us m none
    ]) before s ts l

-- ---- their tokens are live

live_group : {A : Type 0} (f : Form A) (us u v : List Tok) → us ≡ u ++ v → Completes f (u ++ v) → Completes f us
live_group f us u v q c = subst (Completes f) (sym q) c

-- elements, and then tokens that go on with more
elements_live : {A B S F : Type 0} (fl : Flags F) (flags : S → F) (step : S → A → S) (P : F → List Tok → A → Type 0) (f : F → Form A) (xs : List Symbol) (g : Form B) (Q : S → List Tok → Type 0) (more : List Tok) → ((y : F) (u : List Tok) (a : A) → P y u a → Derives (f y) u a)
    → ((s : S) (v : List Tok) → Q s v → Completes (lines fl flags step f xs g s) (v ++ more)) → (before : List A) (s : S) (ts : List Tok) → Elements flags step P Q s ts before → Completes (lines fl flags step f xs g s) (ts ++ more)
elements_live fl flags step P f xs g Q more h k [] s ts d = k s ts d
elements_live fl flags step P f xs g Q more h k (x ∷ before) s ts (u, v, q, d, e) =
    live_group (lines fl flags step f xs g s) (ts ++ more) u (v ++ more) (ap (λ (l : List Tok). l ++ more) q ∙ append_assoc u v more)
    (lines_go_on fl flags step f xs g s u (v ++ more) x (h (flags s) u x d) (elements_live fl flags step P f xs g Q more h k before (step s x) v e))

pub leads_live : {A : Type 0} (f : Form A) → decides f ≡ true → (us : List Tok) → Leads f us → Live f us
unfolding Completes Derived
leads_live (token xs) dec us l = absurd l
leads_live (nothing a) dec us l = absurd l
leads_live never dec us l = absurd l
leads_live (both f g) dec us (inl l) =
    let k = and_true _ _ dec in
    both_begun (unlimited f) (unlimited g) us (some_derived g (and_true _ _ k.1).0) (leads_live f (and_true _ _ k.0).0 us l)
leads_live (both f g) dec us (inr (u, v, a, q, d, l)) =
    live_group (both (unlimited f) (unlimited g)) us u v q (both_goes_on (unlimited f) (unlimited g) u v a (derives_unlimited f u a d) (leads_live g (and_true _ _ (and_true _ _ dec).0).1 v l))
leads_live (on xs f g) dec us (inl l) = let c = leads_live f (and_true _ _ (and_true _ _ dec).0).0 us l in (c.0, c.1, inl c.2)
leads_live (on xs f g) dec us (inr l) = let c = leads_live g (and_true _ _ (and_true _ _ dec).0).1 us l in (c.0, c.1, inr c.2)
leads_live (made h f) dec us l = made_goes_on h (unlimited f) us (leads_live f dec us l)
leads_live (left_out xs a) dec us l = absurd l
leads_live (past f) dec us (t, q, c) = c
leads_live (many f) dec us l = absurd l
leads_live (lines {S = S} fl flags step f xs g s) dec us (before, l) =
    let p = list_parts fl flags step f xs g s dec in
    let list = λ (s : S). lines fl flags step (λ y. unlimited (f y)) xs (unlimited g) s in
    subst (Completes (list s)) (append-nil us)
    (elements_live fl flags step (λ y. Derives (f y)) (λ y. unlimited (f y)) xs (unlimited g) (λ _ v. Leads g v) [] (λ y. derives_unlimited (f y))
    (λ s v k. subst (Completes (list s)) (sym (append-nil v)) (lines_closing fl flags step (λ y. unlimited (f y)) xs (unlimited g) s v (leads_live g p.closing v k))) before s us l)

pub passes_live : {A : Type 0} (f : Form A) → decides f ≡ true → (ts us : List Tok) → Passes f ts us → Live f (ts ++ us)
unfolding Completes Derived
passes_live (token xs) dec ts us l = absurd l
passes_live (nothing a) dec ts us l = absurd l
passes_live never dec ts us l = absurd l
passes_live (both f g) dec ts us (inl l) =
    let k = and_true _ _ dec in
    both_begun (unlimited f) (unlimited g) (ts ++ us) (some_derived g (and_true _ _ k.1).0) (passes_live f (and_true _ _ k.0).0 ts us l)
passes_live (both f g) dec ts us (inr (u, v, a, q, d, l)) =
    live_group (both (unlimited f) (unlimited g)) (ts ++ us) u (v ++ us) (ap (λ (l : List Tok). l ++ us) q ∙ append_assoc u v us) (both_goes_on (unlimited f) (unlimited g) u (v ++ us) a (derives_unlimited f u a d) (passes_live g (and_true _ _ (and_true _ _ dec).0).1 v us l))
passes_live (on xs f g) dec ts us (inl l) = let c = passes_live f (and_true _ _ (and_true _ _ dec).0).0 ts us l in (c.0, c.1, inl c.2)
passes_live (on xs f g) dec ts us (inr l) = let c = passes_live g (and_true _ _ (and_true _ _ dec).0).1 ts us l in (c.0, c.1, inr c.2)
passes_live (made h f) dec ts us l = made_goes_on h (unlimited f) (ts ++ us) (passes_live f dec ts us l)
passes_live (left_out xs a) dec ts us l = absurd l
passes_live (past f) dec ts us l = absurd l
passes_live (many f) dec ts us l = absurd l
passes_live (lines {S = S} fl flags step f xs g s) dec ts us (before, l) =
    let p = list_parts fl flags step f xs g s dec in
    let list = λ (s : S). lines fl flags step (λ y. unlimited (f y)) xs (unlimited g) s in
    elements_live fl flags step (λ y. Derives (f y)) (λ y. unlimited (f y)) xs (unlimited g) (λ s v. ((v ≡ []) × Leads (f (flags s)) us) ⊎ (Passes (f (flags s)) v us ⊎ Passes g v us)) us (λ y. derives_unlimited (f y))
    (λ s v k. elim k [
      | inl m ↦ subst (λ (w : List Tok). Completes (list s) (w ++ us)) (sym m.0) (lines_begun fl flags step (λ y. unlimited (f y)) xs (unlimited g) s us (some_derived g p.closes) (leads_live (f (flags s)) (p.element (flags s)) us m.1))
      | inr (inl m) ↦ lines_begun fl flags step (λ y. unlimited (f y)) xs (unlimited g) s (v ++ us) (some_derived g p.closes) (passes_live (f (flags s)) (p.element (flags s)) v us m)
      | inr (inr m) ↦ lines_closing fl flags step (λ y. unlimited (f y)) xs (unlimited g) s (v ++ us) (passes_live g p.closing v us m)
    ]) before s ts l
