-- The ways in which reading stops: at a token that does not go on, or at an element past a limit.
use Rattle.std.proofs.Common.{◌≡◌, ℕ, ◌<◌, true, false, List, [], ◌∷◌, ◌++◌, length, Err, refl, sym, ap, subst, ◌∙◌, inl, inr, append_assoc}
use Rattle.std.specs.Prelude.{◌⊎◌}
use Rattle.text_forms.specs.declared.symbol.Symbol.{Symbol}
use Rattle.text_forms.specs.declared.fault.Fault.{Fault}
use Rattle.text_forms.specs.Tokens.{Tok, at, first, fault_at, left_out_at, too_many_at}
use Rattle.text_forms.specs.Forms.{Flags, Form, both, lines}
use Rattle.text_forms.specs.Begins.{derives_some}
use Rattle.text_forms.specs.Reading.{read_from}
use Rattle.text_forms.specs.Limits.{unlimited, widen}
use Rattle.text_forms.specs.Passing.{Leads, Passes}
use Rattle.text_forms.specs.Lemmas.Tests.{ahead, at_ahead, ahead_append}
use Rattle.text_forms.specs.Lemmas.Beginnings.{nonempty, IsList}
use Rattle.text_forms.specs.Lemmas.Reading.{Reads, run}
use Rattle.text_forms.specs.Lemmas.Unlimited.{derives_unlimited, derives_wide}
use Rattle.text_forms.specs.Lemmas.Living.{Completes, some_derived, some_left, some_wide, both_goes_on, lines_go_on, lines_begun, lines_closing}
use Rattle.text_forms.specs.Lemmas.Passing.{leads_some}
use Rattle.text_forms.specs.Lemmas.Completing.{run_fails, run_close_fails, run_fails_later}

-- the fault is of the next token; it says that a word is left out only where that word would go on
abbrev pub Blames : {A : Type 0} → Form A → List Tok → List Tok → Fault → Type 0
Blames f front rest e = (e ≡ fault_at rest) ⊎ ((t : Tok) × (more : List Tok) × (rest ≡ t ∷ more) × (e ≡ left_out_at t) × Completes (widen f) (front ++ t ∷ []))

pub blames_map : {A B : Type 0} (f : Form A) (g : Form B) (u v rest : List Tok) (e : Fault) → ((t : Tok) → Completes (widen f) (u ++ t ∷ []) → Completes (widen g) (v ++ t ∷ [])) → Blames f u rest e → Blames g v rest e
blames_map f g u v rest e h (inl p) = inl p
blames_map f g u v rest e h (inr (t, more, p, q, l)) = inr (t, more, p, q, h t l)

-- what was read before can be continued, and no token further on was looked at
pub record Dies {A : Type 0} (f : Form A) (ts : List Tok) (e : Fault) : Type 0 where
  pub front : List Tok
  pub rest : List Tok
  pub parts : ts ≡ front ++ rest
  pub blame : Blames f front rest e
  pub live : Completes (unlimited f) front ⊎ (front ≡ [])
  pub again : (q : ℕ) (z : List Tok) → ahead z ≡ ahead rest → read_from f q (front ++ z) ≡ Err e

-- the form itself leads past a limit
pub record Tells {A : Type 0} (f : Form A) (p : ℕ) (ts : List Tok) (e : Fault) : Type 0 where
  pub lead : List Tok
  pub rest : List Tok
  pub parts : ts ≡ lead ++ rest
  pub leads : Leads f lead
  pub is : e ≡ too_many_at p

-- an element of a list in it passes a limit
pub record Overruns {A : Type 0} (f : Form A) (ts : List Tok) (e : Fault) : Type 0 where
  pub before : List Tok
  pub lead : List Tok
  pub rest : List Tok
  pub parts : ts ≡ before ++ (lead ++ rest)
  pub passes : Passes f before lead
  pub is : e ≡ too_many_at (first lead).place

abbrev pub Stops : {A : Type 0} → Form A → ℕ → List Tok → Fault → Type 0
Stops f p ts e = Dies f ts e ⊎ (Tells f p ts e ⊎ Overruns f ts e)

-- ---- behind a first part

regroup : (ts u v w : List Tok) (rest : List Tok) → ts ≡ u ++ v → v ≡ w ++ rest → ts ≡ (u ++ w) ++ rest
regroup ts u v w rest p q = p ∙ ap (λ (l : List Tok). u ++ l) q ∙ sym (append_assoc u w rest)

pub dies_second : {A B : Type 0} (f : Form A) (g : Form B) (ts mid : List Tok) (a : A) (e : Fault) → derives_some g ≡ true → Reads f ts a mid → Dies g mid e → Dies (both f g) ts e
dies_second f g ts mid a e some r q = record {
  front = r.front ++ q.front;
  rest = q.rest;
  parts = regroup ts r.front mid q.front q.rest r.parts q.parts;
  blame = blames_map g (both f g) q.front (r.front ++ q.front) q.rest e (λ t l. subst (Completes (both (widen f) (widen g))) (sym (append_assoc r.front q.front (t ∷ [])))
      (both_goes_on (widen f) (widen g) r.front (q.front ++ t ∷ []) a (derives_wide f r.front a (derives_unlimited f r.front a r.derives)) l)) q.blame;
  live = inl (both_goes_on (unlimited f) (unlimited g) r.front q.front a (derives_unlimited f r.front a r.derives) (elim q.live [ inl l ↦ l | inr n ↦ subst (Completes (unlimited g)) (sym n) (some_left g some) ]));
  again = λ n z eq.
      let same_next : ahead (q.front ++ z) ≡ ahead mid = ahead_append q.front z q.rest eq ∙ ap ahead (sym q.parts) in
      rw append_assoc (rw (r.again n (q.front ++ z) same_next, q.again n z eq) refl);
}

pub tells_second : {A B : Type 0} (f : Form A) (g : Form B) (p : ℕ) (ts mid : List Tok) (a : A) (e : Fault) → Reads f ts a mid → Tells g p mid e → Tells (both f g) p ts e
tells_second f g p ts mid a e r q = record {
  lead = r.front ++ q.lead;
  rest = q.rest;
  parts = regroup ts r.front mid q.lead q.rest r.parts q.parts;
  leads = inr (r.front, q.lead, a, refl, r.derives, q.leads);
  is = q.is;
}

pub overruns_second : {A B : Type 0} (f : Form A) (g : Form B) (ts mid : List Tok) (a : A) (e : Fault) → Reads f ts a mid → Overruns g mid e → Overruns (both f g) ts e
overruns_second f g ts mid a e r q = record {
  before = r.front ++ q.before;
  lead = q.lead;
  rest = q.rest;
  parts = regroup ts r.front mid q.before (q.lead ++ q.rest) r.parts q.parts;
  passes = inr (r.front, q.before, a, refl, r.derives, q.passes);
  is = q.is;
}

-- ---- in a list

module _ {A B S F : Type 0} (fl : Flags F) (flags : S → F) (step : S → A → S) (f : F → Form A) (xs : List Symbol) (g : Form B) (l : IsList f xs g) where
  abbrev list : S → Form (List A × B)
  list s = lines fl flags step f xs g s

  pub record DiesRun (s : S) (ts : List Tok) (e : Fault) : Type 0 where
    pub front : List Tok
    pub rest : List Tok
    pub parts : ts ≡ front ++ rest
    pub blame : Blames (lines fl flags step f xs g s) front rest e
    pub live : Completes (unlimited (lines fl flags step f xs g s)) front
    pub again : (q m : ℕ) (z : List Tok) → length (front ++ z) < m → ahead z ≡ ahead rest → run flags step f xs g q m s (front ++ z) ≡ Err e

  abbrev pub StopsRun : S → ℕ → List Tok → Fault → Type 0
  StopsRun s p ts e = DiesRun s ts e ⊎ (Tells (lines fl flags step f xs g s) p ts e ⊎ Overruns (lines fl flags step f xs g s) ts e)

  empty_live : (s : S) (u : List Tok) → u ≡ [] → Completes (unlimited (list s)) u
  empty_live s u n = subst (Completes (unlimited (list s))) (sym n) (lines_closing fl flags step (λ y. unlimited (f y)) xs (unlimited g) s [] (some_left g l.closes))

  pub dies_element : (s : S) (ts : List Tok) (e : Fault) → at xs ts ≡ false → Dies (f (flags s)) ts e → DiesRun s ts e
  dies_element s ts e off q = record {
    front = q.front;
    rest = q.rest;
    parts = q.parts;
    blame = blames_map (f (flags s)) (list s) q.front q.front q.rest e (λ t k. lines_begun fl flags step (λ y. widen (f y)) xs (widen g) s (q.front ++ t ∷ []) (some_wide g (some_derived g l.closes)) k) q.blame;
    live = elim q.live [ inl k ↦ lines_begun fl flags step (λ y. unlimited (f y)) xs (unlimited g) s q.front (some_derived g l.closes) k | inr n ↦ empty_live s q.front n ];
    again = λ n m z lt eq.
        let still : at xs (q.front ++ z) ≡ false = at_ahead xs (q.front ++ z) ts (ahead_append q.front z q.rest eq ∙ ap ahead (sym q.parts)) ∙ off in
        run_fails flags step f xs g n m s (q.front ++ z) e lt still (q.again _ z eq);
  }

  pub dies_close : (s : S) (ts : List Tok) (e : Fault) → at xs ts ≡ true → Dies g ts e → DiesRun s ts e
  dies_close s ts e here q = record {
    front = q.front;
    rest = q.rest;
    parts = q.parts;
    blame = blames_map g (list s) q.front q.front q.rest e (λ t k. lines_closing fl flags step (λ y. widen (f y)) xs (widen g) s (q.front ++ t ∷ []) k) q.blame;
    live = elim q.live [ inl k ↦ lines_closing fl flags step (λ y. unlimited (f y)) xs (unlimited g) s q.front k | inr n ↦ empty_live s q.front n ];
    again = λ n m z lt eq.
        let still : at xs (q.front ++ z) ≡ true = at_ahead xs (q.front ++ z) ts (ahead_append q.front z q.rest eq ∙ ap ahead (sym q.parts)) ∙ here in
        run_close_fails flags step f xs g n m s (q.front ++ z) e lt still (q.again n z eq);
  }

  pub dies_later : (s : S) (ts mid : List Tok) (a : A) (e : Fault) → at xs ts ≡ false → Reads (f (flags s)) ts a mid → DiesRun (step s a) mid e → DiesRun s ts e
  dies_later s ts mid a e off r q = record {
    front = r.front ++ q.front;
    rest = q.rest;
    parts = regroup ts r.front mid q.front q.rest r.parts q.parts;
    blame = blames_map (list (step s a)) (list s) q.front (r.front ++ q.front) q.rest e (λ t k. subst (Completes (widen (list s))) (sym (append_assoc r.front q.front (t ∷ [])))
        (lines_go_on fl flags step (λ y. widen (f y)) xs (widen g) s r.front (q.front ++ t ∷ []) a (derives_wide (f (flags s)) r.front a (derives_unlimited (f (flags s)) r.front a r.derives)) k)) q.blame;
    live = lines_go_on fl flags step (λ y. unlimited (f y)) xs (unlimited g) s r.front q.front a (derives_unlimited (f (flags s)) r.front a r.derives) q.live;
    again = λ n m z lt eq.
        let same_next : ahead (q.front ++ z) ≡ ahead mid = ahead_append q.front z q.rest eq ∙ ap ahead (sym q.parts) in
        let still : at xs (r.front ++ (q.front ++ z)) ≡ false = at_ahead xs (r.front ++ (q.front ++ z)) ts (ahead_append r.front (q.front ++ z) mid same_next ∙ ap ahead (sym r.parts)) ∙ off in
        rw append_assoc (run_fails_later flags step f xs g n m s r.front (q.front ++ z) a e (subst (λ (w : List Tok). length w < m) (append_assoc r.front q.front z) lt) still
        (r.again _ (q.front ++ z) same_next) (λ none. nonempty (f (flags s)) r.front a (l.element_some (flags s)) none r.derives) (λ k less. q.again n k z less eq));
  }

  pub tells_close : (s : S) (p : ℕ) (ts : List Tok) (e : Fault) → Tells g p ts e → Tells (lines fl flags step f xs g s) p ts e
  tells_close s p ts e q = record { lead = q.lead; rest = q.rest; parts = q.parts; leads = ([], q.leads); is = q.is }

  pub tells_later : (s : S) (p : ℕ) (ts mid : List Tok) (a : A) (e : Fault) → Reads (f (flags s)) ts a mid → Tells (lines fl flags step f xs g (step s a)) p mid e → Tells (lines fl flags step f xs g s) p ts e
  tells_later s p ts mid a e r q = record {
    lead = r.front ++ q.lead;
    rest = q.rest;
    parts = regroup ts r.front mid q.lead q.rest r.parts q.parts;
    leads = (a ∷ q.leads.0, (r.front, q.lead, refl, r.derives, q.leads.1));
    is = q.is;
  }

  first_front : (ts us z : List Tok) → (us ≡ [] → ⊥) → ts ≡ us ++ z → (first ts).place ≡ (first us).place
  first_front ts [] z some q = absurd (some refl)
  first_front ts (t ∷ us) z some q = ap (λ (l : List Tok). (first l).place) q

  pub overruns_element : (s : S) (ts : List Tok) (e : Fault) → Tells (f (flags s)) (first ts).place ts e → Overruns (lines fl flags step f xs g s) ts e
  overruns_element s ts e q = record {
    before = [];
    lead = q.lead;
    rest = q.rest;
    parts = q.parts;
    passes = ([], inl (refl, q.leads));
    is = q.is ∙ ap too_many_at (first_front ts q.lead q.rest (leads_some (f (flags s)) (l.element (flags s)) q.lead q.leads) q.parts);
  }

  pub overruns_within : (s : S) (ts : List Tok) (e : Fault) → Overruns (f (flags s)) ts e → Overruns (lines fl flags step f xs g s) ts e
  overruns_within s ts e q = record { before = q.before; lead = q.lead; rest = q.rest; parts = q.parts; passes = ([], inr (inl q.passes)); is = q.is }

  pub overruns_close : (s : S) (ts : List Tok) (e : Fault) → Overruns g ts e → Overruns (lines fl flags step f xs g s) ts e
  overruns_close s ts e q = record { before = q.before; lead = q.lead; rest = q.rest; parts = q.parts; passes = ([], inr (inr q.passes)); is = q.is }

  pub overruns_later : (s : S) (ts mid : List Tok) (a : A) (e : Fault) → Reads (f (flags s)) ts a mid → Overruns (lines fl flags step f xs g (step s a)) mid e → Overruns (lines fl flags step f xs g s) ts e
  overruns_later s ts mid a e r q = record {
    before = r.front ++ q.before;
    lead = q.lead;
    rest = q.rest;
    parts = regroup ts r.front mid q.before (q.lead ++ q.rest) r.parts q.parts;
    passes = (a ∷ q.passes.0, (r.front, q.before, refl, r.derives, q.passes.1));
    is = q.is;
  }
