-- Reading finds an element past a limit, at its first token.
use Rattle.std.proofs.Common.{◌≡◌, ℕ, suc, ◌<◌, true, List, [], ◌∷◌, ◌++◌, length, Ok, Err, refl, sym, ap, subst, ◌∙◌, arith, inl, inr, append_assoc}
use Rattle.std.specs.Prelude.{◌⊎◌}
use Rattle.text_forms.specs.declared.fault.Fault.{Fault}
use Rattle.text_forms.specs.Tokens.{Tok, at, first, too_many_at}
use Rattle.text_forms.specs.Forms.{Form, token, nothing, never, both, on, made, left_out, past, many, lines}
use Rattle.text_forms.specs.Derives.{Derives}
use Rattle.text_forms.specs.Begins.{begins, goes_on, decides}
use Rattle.text_forms.specs.Reading.{read_from}
use Rattle.text_forms.specs.Passing.{Leads, Passes}
use Rattle.text_forms.specs.Lemmas.Tests.{and_true, false_not}
use Rattle.text_forms.specs.Lemmas.Beginnings.{at_only, at_apart, list_parts}
use Rattle.text_forms.specs.Lemmas.Reading.{run}
use Rattle.text_forms.specs.Lemmas.Passing.{leads_first, passes_first, leads_some}
use Rattle.text_forms.specs.Lemmas.Completing.{complete, over, run_fails, run_close_fails, not_closed}

-- what the first form derives, and then tokens at which the second fails
second_fails : {A B : Type 0} (f : Form A) (g : Form B) (p : ℕ) → decides (both f g) ≡ true → (u w : List Tok) (a : A) (e : Fault) → Derives f u a → at (begins g) w ≡ true → read_from g p w ≡ Err e → read_from (both f g) p (u ++ w) ≡ Err e
second_fails f g p dec u w a e d here fails =
    let m = and_true _ _ dec in
    let mg = and_true _ _ m.1 in
    let first : read_from f p (u ++ w) ≡ Ok (a, w) = complete f (and_true _ _ m.0).0 p u a w d (false_not _ (at_apart (goes_on f) (begins g) w mg.1 here)) in
    rw first (rw fails refl)

first_front : (us z : List Tok) → (us ≡ [] → ⊥) → first (us ++ z) ≡ first us
first_front [] z some = absurd (some refl)
first_front (t ∷ us) z some = refl

pub leads_read : {A : Type 0} (f : Form A) → decides f ≡ true → (p : ℕ) (us : List Tok) → Leads f us → (z : List Tok) → read_from f p (us ++ z) ≡ Err (too_many_at p)
leads_read (token xs) dec p us l z = absurd l
leads_read (nothing a) dec p us l z = absurd l
leads_read never dec p us l z = absurd l
leads_read (both f g) dec p us (inl l) z = rw (leads_read f (and_true _ _ (and_true _ _ dec).0).0 p us l z) refl
leads_read (both f g) dec p us (inr (u, v, a, q, d, l)) z =
    let m = (and_true _ _ (and_true _ _ dec).0).1 in
    rw (q, append_assoc) (second_fails f g p dec u (v ++ z) a (too_many_at p) d (leads_first g m v l z) (leads_read g m p v l z))
leads_read (on xs f g) dec p us (inl l) z =
    let m = and_true _ _ dec in
    let mm = and_true _ _ m.0 in
    let mo = and_true _ _ (and_true _ _ m.1).1 in
    rw (at_only xs (begins f) (us ++ z) mo.0 (leads_first f mm.0 us l z)) (leads_read f mm.0 p us l z)
leads_read (on xs f g) dec p us (inr l) z =
    let m = and_true _ _ dec in
    let mm = and_true _ _ m.0 in
    let mo = and_true _ _ (and_true _ _ m.1).1 in
    rw (at_apart xs (begins g) (us ++ z) mo.1 (leads_first g mm.1 us l z)) (leads_read g mm.1 p us l z)
leads_read (made h f) dec p us l z = rw (leads_read f dec p us l z) refl
leads_read (left_out xs a) dec p us l z = absurd l
leads_read (past f) dec p us l z = rw (leads_first (past f) dec us l z) refl
leads_read (many f) dec p us l z = absurd l
leads_read (lines fl flags step f xs g s) dec p us (before, l) z =
    let k = list_parts fl flags step f xs g s dec in
    over flags step f xs g p k (λ y n u a w d c. complete (f y) (k.element y) n u a w d c) (λ _ v. Leads g v) z
    (λ s v m. inl (at_only xs (begins g) (v ++ z) k.closing_only (leads_first g k.closing v m z))) (too_many_at p)
    (λ s v m h lt. run_close_fails flags step f xs g p m s (v ++ z) (too_many_at p) lt (at_only xs (begins g) (v ++ z) k.closing_only (leads_first g k.closing v h z)) (leads_read g k.closing p v h z))
    before s us (suc (length (us ++ z))) l (omega arith)

pub passes_read : {A : Type 0} (f : Form A) → decides f ≡ true → (p : ℕ) (ts us : List Tok) → Passes f ts us → (z : List Tok) → read_from f p (ts ++ (us ++ z)) ≡ Err (too_many_at (first us).place)
passes_read (token xs) dec p ts us l z = absurd l
passes_read (nothing a) dec p ts us l z = absurd l
passes_read never dec p ts us l z = absurd l
passes_read (both f g) dec p ts us (inl l) z = rw (passes_read f (and_true _ _ (and_true _ _ dec).0).0 p ts us l z) refl
passes_read (both f g) dec p ts us (inr (u, v, a, q, d, l)) z =
    let m = (and_true _ _ (and_true _ _ dec).0).1 in
    rw (q, append_assoc) (second_fails f g p dec u (v ++ (us ++ z)) a (too_many_at (first us).place) d (passes_first g m v us l z) (passes_read g m p v us l z))
passes_read (on xs f g) dec p ts us (inl l) z =
    let m = and_true _ _ dec in
    let mm = and_true _ _ m.0 in
    let mo = and_true _ _ (and_true _ _ m.1).1 in
    rw (at_only xs (begins f) (ts ++ (us ++ z)) mo.0 (passes_first f mm.0 ts us l z)) (passes_read f mm.0 p ts us l z)
passes_read (on xs f g) dec p ts us (inr l) z =
    let m = and_true _ _ dec in
    let mm = and_true _ _ m.0 in
    let mo = and_true _ _ (and_true _ _ m.1).1 in
    rw (at_apart xs (begins g) (ts ++ (us ++ z)) mo.1 (passes_first g mm.1 ts us l z)) (passes_read g mm.1 p ts us l z)
passes_read (made h f) dec p ts us l z = rw (passes_read f dec p ts us l z) refl
passes_read (left_out xs a) dec p ts us l z = absurd l
passes_read (past f) dec p ts us l z = absurd l
passes_read (many f) dec p ts us l z = absurd l
passes_read (lines fl flags step f xs g s) dec p ts us (before, l) z =
    let k = list_parts fl flags step f xs g s dec in
    over flags step f xs g p k (λ y n u a w d c. complete (f y) (k.element y) n u a w d c) (λ s v. ((v ≡ []) × Leads (f (flags s)) us) ⊎ (Passes (f (flags s)) v us ⊎ Passes g v us)) (us ++ z)
    (λ s v m. elim m [
      | inl h ↦ inr (subst (λ (w : List Tok). at (begins (f (flags s))) (w ++ (us ++ z)) ≡ true) (sym h.0) (leads_first (f (flags s)) (k.element (flags s)) us h.1 z))
      | inr (inl h) ↦ inr (passes_first (f (flags s)) (k.element (flags s)) v us h z)
      | inr (inr h) ↦ inl (at_only xs (begins g) (v ++ (us ++ z)) k.closing_only (passes_first g k.closing v us h z))
    ]) (too_many_at (first us).place)
    (λ s v m h lt. elim h [
      | inl c ↦
          let starts = leads_first (f (flags s)) (k.element (flags s)) us c.1 z in
          let place : (first (us ++ z)).place ≡ (first us).place = ap (λ (t : Tok). t.place) (first_front us z (leads_some (f (flags s)) (k.element (flags s)) us c.1)) in
          let fails : read_from (f (flags s)) (first (us ++ z)).place (us ++ z) ≡ Err (too_many_at (first us).place) = leads_read (f (flags s)) (k.element (flags s)) _ us c.1 z ∙ ap (λ (n : ℕ). Err (too_many_at n)) place in
          let shorter : length (us ++ z) < m = subst (λ (w : List Tok). length (w ++ (us ++ z)) < m) c.0 lt in
          subst (λ (w : List Tok). run flags step f xs g p m s (w ++ (us ++ z)) ≡ Err (too_many_at (first us).place)) (sym c.0)
          (run_fails flags step f xs g p m s (us ++ z) _ shorter (not_closed flags step f xs g p k (flags s) (us ++ z) starts) fails)
      | inr (inl c) ↦ run_fails flags step f xs g p m s (v ++ (us ++ z)) _ lt (not_closed flags step f xs g p k (flags s) (v ++ (us ++ z)) (passes_first (f (flags s)) (k.element (flags s)) v us c z)) (passes_read (f (flags s)) (k.element (flags s)) _ v us c z)
      | inr (inr c) ↦ run_close_fails flags step f xs g p m s (v ++ (us ++ z)) _ lt (at_only xs (begins g) (v ++ (us ++ z)) k.closing_only (passes_first g k.closing v us c z)) (passes_read g k.closing p v us c z)
    ])
    before s ts (suc (length (ts ++ (us ++ z)))) l (omega arith)
