-- Where reading fails, it stops at a token that does not go on, or at an element past a limit.
use Rattle.std.proofs.Common.{◌≡◌, ℕ, zero, suc, ◌<◌, Bool, true, false, List, [], ◌∷◌, ◌++◌, length, Result, Ok, Err, refl, sym, ap, subst, ◌∙◌, arith, inl, inr}
use Rattle.std.proofs.lemmas.List.{length-append}
use Rattle.text_forms.specs.declared.symbol.Symbol.{Symbol}
use Rattle.text_forms.specs.declared.fault.Fault.{Fault}
use Rattle.text_forms.specs.Tokens.{Tok, has, at, first, rest_of, fault_at, too_many_at, refusal}
use Rattle.text_forms.specs.Forms.{Flags, Form, token, nothing, never, both, on, made, left_out, past, many, lines}
use Rattle.text_forms.specs.Begins.{begins, decides}
use Rattle.text_forms.specs.Reading.{◌>>=◌, token_at, elements, read_from}
use Rattle.text_forms.specs.Limits.{unlimited, widen}
use Rattle.text_forms.specs.Lemmas.Tests.{and_true, ahead, at_ahead, first_ahead, fault_ahead, ahead_append, bind_err, chosen, err_is}
use Rattle.text_forms.specs.Lemmas.Beginnings.{nonempty, list_parts, IsList}
use Rattle.text_forms.specs.Lemmas.Reading.{run, reads}
use Rattle.text_forms.specs.Lemmas.Living.{Completes, some_derived, some_wide, both_begun, made_goes_on, begins_live}
use Rattle.text_forms.specs.Lemmas.Passing.{leads_first, passes_first}
use Rattle.text_forms.specs.Lemmas.Stops.{Blames, blames_map, Dies, Tells, Stops, dies_second, tells_second, overruns_second, StopsRun, dies_element, dies_close, dies_later, tells_close, tells_later, overruns_element, overruns_within, overruns_close, overruns_later}

shrinks : (x y ts : List Tok) (n : ℕ) → (x ≡ [] → ⊥) → ts ≡ x ++ y → length ts < suc n → length y < n
shrinks [] y ts n some q lt = absurd (some refl)
shrinks (t ∷ x) y ts n some q lt = (let k : length (t ∷ x ++ y) < suc n = subst (λ (l : List Tok). length l < suc n) q lt in omega (arith, length-append x y))

stops_each : {A B S F : Type 0} (fl : Flags F) (flags : S → F) (step : S → A → S) (f : F → Form A) (xs : List Symbol) (g : Form B) (l : IsList f xs g)
    → ((y : F) (p : ℕ) (ts : List Tok) (e : Fault) → read_from (f y) p ts ≡ Err e → Stops (f y) p ts e) → ((p : ℕ) (ts : List Tok) (e : Fault) → read_from g p ts ≡ Err e → Stops g p ts e)
    → (p n : ℕ) (s : S) (ts : List Tok) (e : Fault) → length ts < n → run flags step f xs g p n s ts ≡ Err e → StopsRun fl flags step f xs g l s p ts e
unfolding elements
stops_each fl flags step f xs g l ihf ihg p zero s ts e lt h = absurd (omega arith)
stops_each fl flags step f xs g l ihf ihg p (suc n) s ts e lt h =
    elim (chosen (at xs ts) (read_from g p ts >>= λ y. Ok (([], y.0), y.1)) (read_from (f (flags s)) (first ts).place ts >>= λ x. run flags step f xs g p n (step s x.0) x.1 >>= λ y. Ok ((x.0 ∷ y.0.0, y.0.1), y.1)) (Err e) h) [
      | inl c ↦
          elim (bind_err (read_from g p ts) (λ y. Ok (([], y.0), y.1)) e c.1) [
            | inl k ↦ elim (ihg p ts e k) [
              | inl m ↦ inl (dies_close fl flags step f xs g l s ts e c.0 m)
              | inr (inl m) ↦ inr (inl (tells_close fl flags step f xs g l s p ts e m))
              | inr (inr m) ↦ inr (inr (overruns_close fl flags step f xs g l s ts e m))
            ]
            | inr (x, ok, wrong) ↦ absurd cc
          ]
      | inr c ↦
          elim (bind_err (read_from (f (flags s)) (first ts).place ts) (λ x. run flags step f xs g p n (step s x.0) x.1 >>= λ y. Ok ((x.0 ∷ y.0.0, y.0.1), y.1)) e c.1) [
            | inl k ↦ elim (ihf (flags s) _ ts e k) [
              | inl m ↦ inl (dies_element fl flags step f xs g l s ts e c.0 m)
              | inr (inl m) ↦ inr (inr (overruns_element fl flags step f xs g l s ts e m))
              | inr (inr m) ↦ inr (inr (overruns_within fl flags step f xs g l s ts e m))
            ]
            | inr (x, ok, later) ↦
                elim (bind_err (run flags step f xs g p n (step s x.0) x.1) (λ y. Ok ((x.0 ∷ y.0.0, y.0.1), y.1)) e later) [
                  | inl k ↦
                      let r = reads (f (flags s)) (l.element (flags s)) _ ts x.0 x.1 ok in
                      let less : length x.1 < n = shrinks r.front x.1 ts n (λ none. nonempty (f (flags s)) r.front x.0 (l.element_some (flags s)) none r.derives) r.parts lt in
                      elim (stops_each fl flags step f xs g l ihf ihg p n (step s x.0) x.1 e less k) [
                        | inl m ↦ inl (dies_later fl flags step f xs g l s ts x.1 x.0 e c.0 r m)
                        | inr (inl m) ↦ inr (inl (tells_later fl flags step f xs g l s p ts x.1 x.0 e r m))
                        | inr (inr m) ↦ inr (inr (overruns_later fl flags step f xs g l s ts x.1 x.0 e r m))
                      ]
                  | inr (y, ok2, wrong) ↦ absurd cc
                ]
          ]
    ]

-- a failure at the next token alone
at_once : {A : Type 0} (f : Form A) (ts : List Tok) (e : Fault) → Blames f [] ts e → ((q : ℕ) (z : List Tok) → ahead z ≡ ahead ts → read_from f q z ≡ Err e) → Dies f ts e
at_once f ts e blame again = record { front = []; rest = ts; parts = refl; blame = blame; live = inr refl; again = again }

chosen_left : {A : Type 0} (xs : List Symbol) (f g : Form A) (u : List Tok) → Completes f u → Completes (on xs f g) u
unfolding Completes
chosen_left xs f g u (more, a, d) = (more, a, inl d)

chosen_right : {A : Type 0} (xs : List Symbol) (f g : Form A) (u : List Tok) → Completes g u → Completes (on xs f g) u
unfolding Completes
chosen_right xs f g u (more, a, d) = (more, a, inr d)

wide_word : {A : Type 0} (xs : List Symbol) (a : A) (t : Tok) → has xs t.symbol ≡ true → Completes (made (λ _. a) (token xs)) (t ∷ [])
unfolding Completes
wide_word xs a t e = ([], a, (t, (refl, e), refl))

token_off : (xs : List Symbol) (ts : List Tok) (e : Fault) → token_at xs ts ≡ Err e → (at xs ts ≡ false) × (fault_at ts ≡ e)
token_off xs ts e h =
    elim (chosen {A = Result (Tok × List Tok) Fault} (at xs ts) (Ok (first ts, rest_of ts)) (Err (fault_at ts)) (Err e) h) [
      | inl c ↦ absurd (let k = c.1 in cc)
      | inr c ↦ (c.0, err_is {A = Tok × List Tok} _ _ c.1)
    ]

refusal_ahead : (xs : List Symbol) (z ts : List Tok) → ahead z ≡ ahead ts → refusal xs z ≡ refusal xs ts
refusal_ahead xs z ts e = rw (at_ahead xs z ts e, first_ahead z ts e, fault_ahead z ts e) refl

pub stops : {A : Type 0} (f : Form A) → decides f ≡ true → (p : ℕ) (ts : List Tok) (e : Fault) → read_from f p ts ≡ Err e → Stops f p ts e
stops (token xs) dec p ts e h =
    let m = token_off xs ts e h in
    inl (at_once (token xs) ts e (inl (sym m.1)) (λ q z eq. let off : at xs z ≡ false = at_ahead xs z ts eq ∙ m.0 in rw off (ap Err (fault_ahead z ts eq ∙ m.1))))
stops (nothing b) dec p ts e h = absurd cc
stops {A} never dec p ts e h =
    let q : fault_at ts ≡ e = err_is {A = A × List Tok} _ _ h in
    inl (at_once never ts e (inl (sym q)) (λ n z eq. ap Err (fault_ahead z ts eq ∙ q)))
stops (both {A} {B} f g) dec p ts e h =
    let k = and_true _ _ dec in
    let kk = and_true _ _ k.0 in
    let kg = and_true _ _ k.1 in
    elim (bind_err (read_from f p ts) (λ x. read_from g p x.1 >>= λ y. Ok ((x.0, y.0), y.1)) e h) [
      | inl m ↦ elim (stops f kk.0 p ts e m) [
        | inl q ↦ inl (record {
          front = q.front;
          rest = q.rest;
          parts = q.parts;
          blame = blames_map f (both f g) q.front q.front q.rest e (λ t l. both_begun (widen f) (widen g) (q.front ++ t ∷ []) (some_wide g (some_derived g kg.0)) l) q.blame;
          live = elim q.live [ inl l ↦ inl (both_begun (unlimited f) (unlimited g) q.front (some_derived g kg.0) l) | inr n ↦ inr n ];
          again = λ n z eq. rw (q.again n z eq) refl;
        })
        | inr (inl q) ↦ inr (inl (record { lead = q.lead; rest = q.rest; parts = q.parts; leads = inl q.leads; is = q.is }))
        | inr (inr q) ↦ inr (inr (record { before = q.before; lead = q.lead; rest = q.rest; parts = q.parts; passes = inl q.passes; is = q.is }))
      ]
      | inr (x, ok, later) ↦
          elim (bind_err (read_from g p x.1) (λ y. Ok ((x.0, y.0), y.1)) e later) [
            | inl m ↦
                let r = reads f kk.0 p ts x.0 x.1 ok in
                elim (stops g kk.1 p x.1 e m) [
                  | inl q ↦ inl (dies_second f g ts x.1 x.0 e kg.0 r q)
                  | inr (inl q) ↦ inr (inl (tells_second f g p ts x.1 x.0 e r q))
                  | inr (inr q) ↦ inr (inr (overruns_second f g ts x.1 x.0 e r q))
                ]
            | inr (y, ok2, wrong) ↦ absurd cc
          ]
    ]
stops (on xs f g) dec p ts e h =
    let kk = and_true _ _ (and_true _ _ dec).0 in
    elim (chosen (at xs ts) (read_from f p ts) (read_from g p ts) (Err e) h) [
      | inl c ↦ elim (stops f kk.0 p ts e c.1) [
        | inl q ↦ inl (record {
          front = q.front;
          rest = q.rest;
          parts = q.parts;
          blame = blames_map f (on xs f g) q.front q.front q.rest e (λ t l. wide_left (q.front ++ t ∷ []) l) q.blame;
          live = elim q.live [ inl l ↦ inl (live_left q.front l) | inr n ↦ inr n ];
          again = λ n z eq. let here : at xs (q.front ++ z) ≡ true = at_ahead xs (q.front ++ z) ts (ahead_append q.front z q.rest eq ∙ ap ahead (sym q.parts)) ∙ c.0 in rw here (q.again n z eq);
        })
        | inr (inl q) ↦ inr (inl (record { lead = q.lead; rest = q.rest; parts = q.parts; leads = inl q.leads; is = q.is }))
        | inr (inr q) ↦ inr (inr (record { before = q.before; lead = q.lead; rest = q.rest; parts = q.parts; passes = inl q.passes; is = q.is }))
      ]
      | inr c ↦ elim (stops g kk.1 p ts e c.1) [
        | inl q ↦ inl (record {
          front = q.front;
          rest = q.rest;
          parts = q.parts;
          blame = blames_map g (on xs f g) q.front q.front q.rest e (λ t l. wide_right (q.front ++ t ∷ []) l) q.blame;
          live = elim q.live [ inl l ↦ inl (live_right q.front l) | inr n ↦ inr n ];
          again = λ n z eq. let here : at xs (q.front ++ z) ≡ false = at_ahead xs (q.front ++ z) ts (ahead_append q.front z q.rest eq ∙ ap ahead (sym q.parts)) ∙ c.0 in rw here (q.again n z eq);
        })
        | inr (inl q) ↦ inr (inl (record { lead = q.lead; rest = q.rest; parts = q.parts; leads = inr q.leads; is = q.is }))
        | inr (inr q) ↦ inr (inr (record { before = q.before; lead = q.lead; rest = q.rest; parts = q.parts; passes = inr q.passes; is = q.is }))
      ]
    ]
  where
    wide_left : (u : List Tok) → Completes (widen f) u → Completes (on xs (widen f) (widen g)) u
    wide_left u l = chosen_left xs (widen f) (widen g) u l

    wide_right : (u : List Tok) → Completes (widen g) u → Completes (on xs (widen f) (widen g)) u
    wide_right u l = chosen_right xs (widen f) (widen g) u l

    live_left : (u : List Tok) → Completes (unlimited f) u → Completes (on xs (unlimited f) (unlimited g)) u
    live_left u l = chosen_left xs (unlimited f) (unlimited g) u l

    live_right : (u : List Tok) → Completes (unlimited g) u → Completes (on xs (unlimited f) (unlimited g)) u
    live_right u l = chosen_right xs (unlimited f) (unlimited g) u l
stops (made {A} {B} h f) dec p ts e err =
    elim (bind_err (read_from f p ts) (λ x. Ok (h x.0, x.1)) e err) [
      | inl m ↦ elim (stops f dec p ts e m) [
        | inl q ↦ inl (record {
          front = q.front;
          rest = q.rest;
          parts = q.parts;
          blame = blames_map f (made h f) q.front q.front q.rest e (λ t l. made_goes_on h (widen f) (q.front ++ t ∷ []) l) q.blame;
          live = elim q.live [ inl l ↦ inl (made_goes_on h (unlimited f) q.front l) | inr n ↦ inr n ];
          again = λ n z eq. rw (q.again n z eq) refl;
        })
        | inr (inl q) ↦ inr (inl (record { lead = q.lead; rest = q.rest; parts = q.parts; leads = q.leads; is = q.is }))
        | inr (inr q) ↦ inr (inr (record { before = q.before; lead = q.lead; rest = q.rest; parts = q.parts; passes = q.passes; is = q.is }))
      ]
      | inr (x, ok, wrong) ↦ absurd cc
    ]
stops {A} (left_out xs a) dec p ts e h = inl (at_once (left_out xs a) ts e (blamed ts (err_is {A = A × List Tok} _ _ h)) (λ q z eq. ap Err (refusal_ahead xs z ts eq ∙ err_is {A = A × List Tok} _ _ h)))
  where
    blamed : (ts : List Tok) → refusal xs ts ≡ e → Blames (left_out xs a) [] ts e
    blamed [] k = inl (sym k)
    blamed (t ∷ ts) k = there (has xs t.symbol) refl
      where
        there : (b : Bool) → has xs t.symbol ≡ b → Blames (left_out xs a) [] (t ∷ ts) e
        there true m = inr (t, ts, refl, sym (rw m at k), wide_word xs a t m)
        there false m = inl (sym (rw m at k))
stops {A} (past f) dec p ts e h =
    let k = and_true _ _ dec in
    elim (chosen (at (begins f) ts) (Err (too_many_at p)) (read_from f p ts) (Err e) h) [
      | inl c ↦ inr (inl (told ts c.0 (sym (err_is {A = A × List Tok} (too_many_at p) e c.1)) k.0))
      | inr c ↦ elim (stops f k.0 p ts e c.1) [
        | inl q ↦ inl (record {
          front = q.front;
          rest = q.rest;
          parts = q.parts;
          blame = q.blame;
          live = q.live;
          again = λ n z eq. let here : at (begins f) (q.front ++ z) ≡ false = at_ahead (begins f) (q.front ++ z) ts (ahead_append q.front z q.rest eq ∙ ap ahead (sym q.parts)) ∙ c.0 in rw here (q.again n z eq);
        })
        | inr (inl q) ↦ absurd (let there : at (begins f) ts ≡ true = subst (λ (l : List Tok). at (begins f) l ≡ true) (sym q.parts) (leads_first f k.0 q.lead q.leads q.rest) in let off : at (begins f) ts ≡ false = c.0 in let bad : true ≡ false = sym there ∙ off in cc)
        | inr (inr q) ↦ absurd (let there : at (begins f) ts ≡ true = subst (λ (l : List Tok). at (begins f) l ≡ true) (sym q.parts) (passes_first f k.0 q.before q.lead q.passes q.rest) in let off : at (begins f) ts ≡ false = c.0 in let bad : true ≡ false = sym there ∙ off in cc)
      ]
    ]
  where
    told : (ts : List Tok) → at (begins f) ts ≡ true → e ≡ too_many_at p → decides f ≡ true → Tells (past f) p ts e
    told [] here is dec = absurd cc
    told (t ∷ ts) here is dec = record { lead = t ∷ []; rest = ts; parts = refl; leads = (t, refl, begins_live f dec t here); is = is }
stops (many f) dec p ts e h = absurd cc
stops (lines fl flags step f xs g s) dec p ts e h =
    let l = list_parts fl flags step f xs g s dec in
    elim (stops_each fl flags step f xs g l (λ y. stops (f y) (l.element y)) (stops g l.closing) p (suc (length ts)) s ts e (omega arith) h) [
      | inl q ↦ inl (record {
        front = q.front;
        rest = q.rest;
        parts = q.parts;
        blame = q.blame;
        live = inl q.live;
        again = λ n z eq. q.again n (suc (length (q.front ++ z))) z (omega arith) eq;
      })
      | inr q ↦ inr q
    ]
