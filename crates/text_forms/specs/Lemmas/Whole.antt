-- Reading a whole text gives what the grammar derives, or else the first fault; and each is the only one.
use Rattle.std.proofs.Common.{◌≡◌, ℕ, ◌<◌, ◌≤◌, List, [], ◌∷◌, ◌++◌, length, Result, Ok, Err, refl, sym, ap, subst, ◌∙◌, arith, inl, inr, append_assoc}
use Rattle.std.specs.Prelude.{◌⊎◌}
use Rattle.std.proofs.lemmas.List.{append-nil, length-append}
use Rattle.std.proofs.lemmas.Bool.{cases_lt, cases_order}
use Rattle.text_forms.specs.declared.symbol.Symbol.{Symbol}
use Rattle.text_forms.specs.declared.symbol.Symbol.TheVariants as symbols
use Rattle.text_forms.specs.declared.fault.FaultKind.TheVariants as kinds
use Rattle.text_forms.specs.declared.fault.Fault.{Fault}
use Rattle.text_forms.specs.Tokens.{Tok, first, IsText, kind_of, fault_at, left_out_at, too_many_at}
use Rattle.text_forms.specs.Forms.{Form}
use Rattle.text_forms.specs.Derives.{Derives}
use Rattle.text_forms.specs.Reading.{read, whole}
use Rattle.text_forms.specs.Limits.{unlimited, widen, Live, LiveInFull}
use Rattle.text_forms.specs.Passing.{Passes}
use Rattle.text_forms.specs.First.{IsDead, IsPast, IsFirstFault}
use Rattle.text_forms.specs.Texts.{IsGrammar}
use Rattle.text_forms.specs.Lemmas.Tests.{ahead, bind_ok, bind_err, err_is, never_both}
use Rattle.text_forms.specs.Lemmas.Reading.{reads}
use Rattle.text_forms.specs.Lemmas.Unlimited.{decides_unlimited, derives_unlimited}
use Rattle.text_forms.specs.Lemmas.Alike.{fails_unlimited, fails_wide, IsNarrow}
use Rattle.text_forms.specs.Lemmas.Living.{Completes, live_is, some_left, full_is}
use Rattle.text_forms.specs.Lemmas.Passing.{passes_live, passes_some}
use Rattle.text_forms.specs.Lemmas.Completing.{complete}
use Rattle.text_forms.specs.Lemmas.Beyond.{passes_read}
use Rattle.text_forms.specs.Lemmas.Stops.{Blames, Dies, Overruns}
use Rattle.text_forms.specs.Lemmas.Stopping.{stops}
use Rattle.text_forms.specs.Lemmas.Ends.{last_is_last, places_rise, ended_derived, ends_unlimited, text_whole, steady_leads}

not_narrow : (s : Symbol) → IsNarrow (kind_of s) → ⊥
not_narrow symbols.BadByte n = elim n [ inl e ↦ absurd cc | inr e ↦ absurd cc ]
not_narrow symbols.BadName n = elim n [ inl e ↦ absurd cc | inr e ↦ absurd cc ]
not_narrow symbols.NumberTooLarge n = elim n [ inl e ↦ absurd cc | inr e ↦ absurd cc ]
not_narrow symbols.TooLong n = elim n [ inl e ↦ absurd cc | inr e ↦ absurd cc ]
not_narrow _ n = elim n [ inl e ↦ absurd cc | inr e ↦ absurd cc ]

-- a token that does not go on is no fault of a limit
dies_not_too_many : {A : Type 0} (f : Form A) (front rest : List Tok) (e : Fault) → Blames f front rest e → e.kind ≡ kinds.TooMany → ⊥
dies_not_too_many f front [] e (inl p) k = absurd (let m : kinds.Unexpected ≡ kinds.TooMany = sym (ap (λ (x : Fault). x.kind) p) ∙ k in cc)
dies_not_too_many f front (t ∷ rest) e (inl p) k = not_narrow t.symbol (inl (sym (ap (λ (x : Fault). x.kind) p) ∙ k))
dies_not_too_many f front rest e (inr (t, more, p, q, l)) k = absurd (let m : kinds.NotInProfile ≡ kinds.TooMany = sym (ap (λ (x : Fault). x.kind) q) ∙ k in cc)

cons_same : (s t : Tok) (x y : List Tok) → s ≡ t → x ≡ y → s ∷ x ≡ t ∷ y
cons_same s t x y p q = cc

-- one list of tokens split twice: the shorter front is a front of the longer
front_of : (u v x y : List Tok) → u ++ v ≡ x ++ y → length u ≤ length x → (w : List Tok) × (x ≡ u ++ w)
front_of [] v x y p le = (x, refl)
front_of (t ∷ u) v [] y p le = absurd (omega arith)
front_of (t ∷ u) v (s ∷ x) y p le =
    let h : s ≡ t = cc in
    let k : u ++ v ≡ x ++ y = cc in
    let r = front_of u v x y k (omega arith) in
    (r.0, cons_same s t x (u ++ r.0) h r.1)

same_front : (u v x y : List Tok) → u ++ v ≡ x ++ y → length u ≡ length x → (u ≡ x) × (v ≡ y)
same_front [] v [] y p e = (refl, p)
same_front [] v (s ∷ x) y p e = absurd (omega arith)
same_front (t ∷ u) v [] y p e = absurd (omega arith)
same_front (t ∷ u) v (s ∷ x) y p e =
    let h : t ≡ s = cc in
    let k : u ++ v ≡ x ++ y = cc in
    let r = same_front u v x y k (omega arith) in
    (cons_same t s u x h r.0, r.1)

live_front : {A : Type 0} (f : Form A) (u v : List Tok) → Live f (u ++ v) → Live f u
live_front f u v (more, a, d) = (v ++ more, a, subst (λ (l : List Tok). Derives (unlimited f) l a) (append_assoc u v more) d)

-- tokens with one more, and more behind them
one_more : (front : List Tok) (t : Tok) (more : List Tok) → (front ++ t ∷ []) ++ more ≡ front ++ t ∷ more
one_more front t more = append_assoc front (t ∷ []) more

module _ {A : Type 0} (f : Form A) (is : IsGrammar f) where
  -- ---- meanings

  pub whole_ok : (ts : List Tok) (a : A) → IsText ts → whole f ts ≡ Ok a → Derives f ts a
  whole_ok ts a text e =
      let b = bind_ok (read f ts) (λ x. Ok x.0) a e in
      let r = reads f is.decided 0 ts b.0.0 b.0.1 b.1 in
      let d = ended_derived f is.ends r.front b.0.0 r.derives in
      let split : ts ≡ d.front ++ d.last ∷ b.0.1 = r.parts ∙ ap (λ (l : List Tok). l ++ b.0.1) d.parts ∙ append_assoc d.front (d.last ∷ []) b.0.1 in
      let none : b.0.1 ≡ [] = last_is_last d.front d.last b.0.1 (subst IsText split text) d.is in
      let all : ts ≡ r.front = r.parts ∙ ap (λ (l : List Tok). r.front ++ l) none ∙ append-nil r.front in
      let same_value : b.0.0 ≡ a = (let q = b.2 in cc) in
      subst (λ (x : A). Derives f ts x) same_value (subst (λ (l : List Tok). Derives f l b.0.0) (sym all) r.derives)

  pub whole_only : (ts : List Tok) (a : A) → Derives f ts a → whole f ts ≡ Ok a
  whole_only ts a d =
      let c : read f ts ≡ Ok (a, []) = ap (read f) (sym (append-nil ts)) ∙ complete f is.decided 0 ts a [] d refl in
      rw c refl

  -- ---- a token that does not go on

  -- no text without limits begins so
  not_derived : (front rest more : List Tok) (e : Fault) (a : A) → Blames f front rest e → read f (front ++ more) ≡ Err e → Derives (unlimited f) (front ++ more) a → ⊥
  not_derived front rest more e a blame fails d =
      let c : read (unlimited f) (front ++ more) ≡ Ok (a, []) = ap (read (unlimited f)) (sym (append-nil (front ++ more))) ∙ complete (unlimited f) (decides_unlimited f is.decided) 0 (front ++ more) a [] d refl in
      elim (fails_unlimited f 0 (front ++ more) e fails) [ inl k ↦ never_both _ _ e c k | inr k ↦ dies_not_too_many f front rest e blame k ]

  dead_here : (front : List Tok) (r : Tok) (after : List Tok) (e : Fault) → Blames f front (r ∷ after) e → ((z : List Tok) → ahead z ≡ ahead (r ∷ after) → read f (front ++ z) ≡ Err e) → IsDead f front r e
  dead_here front r after e blame again = (λ (more, a, d). not_derived front (r ∷ after) (r ∷ more) e a blame (again (r ∷ more) refl) (subst (λ (l : List Tok). Derives (unlimited f) l a) (one_more front r more) d), judged blame)
    where
      judged : Blames f front (r ∷ after) e → ((e ≡ left_out_at r) × LiveInFull f (front ++ r ∷ [])) ⊎ ((e ≡ fault_at (r ∷ [])) × (LiveInFull f (front ++ r ∷ []) → ⊥))
      judged (inr (t, more, same_rest, q, l)) = (let tr : t ≡ r = cc in inl (q ∙ ap left_out_at tr, full_is f (front ++ r ∷ []) (subst (λ (x : Tok). Completes (widen f) (front ++ x ∷ [])) tr l)))
      judged (inl q) = inr (
        q,
        λ (more, a, d).
            let wide : Derives (widen f) (front ++ r ∷ more) a = subst (λ (l : List Tok). Derives (widen f) l a) (one_more front r more) d in
            let c : read (widen f) (front ++ r ∷ more) ≡ Ok (a, []) = ap (read (widen f)) (sym (append-nil (front ++ r ∷ more))) ∙ complete (widen f) is.decided_in_full 0 (front ++ r ∷ more) a [] wide refl in
            elim (fails_wide f 0 (front ++ r ∷ more) e (again (r ∷ more) refl)) [
              | inl k ↦ never_both _ _ e c k
              | inr k ↦ not_narrow r.symbol (subst IsNarrow (ap (λ (x : Fault). x.kind) q) k)
            ],
      )

  -- ---- the first fault

  no_limit_before : (ts : List Tok) (e : Fault) (n : ℕ) → (e.kind ≡ kinds.TooMany → ⊥) → read f ts ≡ Err e → (b us more : List Tok) → ts ≡ b ++ (us ++ more) → Passes f b us → n ≤ length b
  no_limit_before ts e n other fails b us more p passes =
      let k : read f ts ≡ Err (too_many_at (first us).place) = ap (read f) p ∙ passes_read f is.decided 0 b us passes more in
      absurd (other (ap (λ (x : Fault). x.kind) (err_is {A = A × List Tok} e (too_many_at (first us).place) (sym fails ∙ k))))

  dies_first : (ts : List Tok) (e : Fault) → IsText ts → read f ts ≡ Err e → Dies f ts e → IsFirstFault f ts e
  dies_first ts e text fails q = at_rest q.front q.rest q.parts q.blame (elim q.live [ inl l ↦ l | inr n ↦ subst (Completes (unlimited f)) (sym n) (some_left f is.some) ]) (λ z eq. q.again 0 z eq)
    where
      at_rest : (front rest : List Tok) → ts ≡ front ++ rest → Blames f front rest e → Completes (unlimited f) front → ((z : List Tok) → ahead z ≡ ahead rest → read f (front ++ z) ≡ Err e) → IsFirstFault f ts e
      at_rest front [] p blame live again =
          let all : ts ≡ front = p ∙ append-nil front in
          let l = live_is f front live in
          let d = ended_derived (unlimited f) (ends_unlimited f is.ends) (front ++ l.0) l.1 l.2 in
          let done : l.0 ≡ [] = text_whole front l.0 d.front d.last (subst IsText all text) d.ordinary d.parts in
          absurd (not_derived front [] [] e l.1 blame (again [] refl) (subst (λ (m : List Tok). Derives (unlimited f) (front ++ m) l.1) done l.2))
      at_rest front (r ∷ after) p blame live again = record {
        before = front;
        here = r;
        after = after;
        parts = p;
        fault = inl (dead_here front r after e blame again);
        live = live_is f front live;
        none_past = no_limit_before ts e (length front) (dies_not_too_many f front (r ∷ after) e blame) fails;
      }

  -- of two elements past a limit the one that reading answers comes no later
  earlier : (ts before lead b us more : List Tok) (here : Tok) → IsText ts → ts ≡ before ++ here ∷ lead → read f ts ≡ Err (too_many_at here.place) → ts ≡ b ++ (us ++ more) → Passes f b us → (length before < length b) ⊎ (length b ≤ length before) → length before ≤ length b
  earlier ts before lead b us more here text p fails r passed (inl lt) = omega arith
  earlier ts before lead b [] more here text p fails r passed (inr le) = absurd (passes_some f is.decided b [] passed refl)
  earlier ts before lead b (u ∷ us) more here text p fails r passed (inr le) =
      let k : read f ts ≡ Err (too_many_at u.place) = ap (read f) r ∙ passes_read f is.decided 0 b (u ∷ us) passed more in
      let same : here.place ≡ u.place = ap (λ (x : Fault). x.place) (err_is {A = A × List Tok} (too_many_at here.place) (too_many_at u.place) (sym fails ∙ k)) in
      elim (cases_lt (length b) (length before)) [
        | inl lt ↦ let m = places_rise ts text b u (us ++ more) before here lead r p lt in absurd (omega arith)
        | inr ge ↦ ge
      ]

  overruns_first : (ts : List Tok) (e : Fault) → IsText ts → read f ts ≡ Err e → Overruns f ts e → IsFirstFault f ts e
  overruns_first ts e text fails q = from q.before q.lead q.rest q.parts q.passes q.is
    where
      from : (before lead rest : List Tok) → ts ≡ before ++ (lead ++ rest) → Passes f before lead → e ≡ too_many_at (first lead).place → IsFirstFault f ts e
      from before [] rest p passes place = absurd (passes_some f is.decided before [] passes refl)
      from before (here ∷ lead) rest p passes place =
          let live = passes_live f is.decided before (here ∷ lead) passes in
          record {
            before = before;
            here = here;
            after = lead ++ rest;
            parts = p;
            fault = inr (lead, rest, refl, live, passes, place);
            live = live_front f before (here ∷ lead) live;
            none_past = λ b us more r passed. earlier ts before (lead ++ rest) b us more here text p (fails ∙ ap Err place) r passed (cases_lt (length before) (length b));
          }

  pub whole_fault : (ts : List Tok) (e : Fault) → IsText ts → whole f ts ≡ Err e → IsFirstFault f ts e
  whole_fault ts e text h =
      elim (bind_err (read f ts) (λ x. Ok x.0) e h) [
        | inl fails ↦ elim (stops f is.decided 0 ts e fails) [
          | inl q ↦ dies_first ts e text fails q
          | inr (inl q) ↦ absurd (steady_leads f is.own q.lead q.leads)
          | inr (inr q) ↦ overruns_first ts e text fails q
        ]
        | inr (x, ok, wrong) ↦ absurd cc
      ]

  -- ---- the only one

  -- tokens that are live up to one that is not
  no_longer_live : (u v b w : List Tok) → (Live f u → ⊥) → Live f b → u ++ v ≡ b ++ w → length u ≤ length b → ⊥
  no_longer_live u v b w dead live p le =
      let r = front_of u v b w p le in
      dead (live_front f u r.0 (subst (Live f) r.1 live))

  same_kind : (front : List Tok) (r : Tok) (e d : Fault) → IsDead f front r e → IsDead f front r d → e ≡ d
  same_kind front r e d (dead, inl (p, l)) (dead2, inl (q, m)) = p ∙ sym q
  same_kind front r e d (dead, inl (p, l)) (dead2, inr (q, m)) = absurd (m l)
  same_kind front r e d (dead, inr (p, l)) (dead2, inl (q, m)) = absurd (l m)
  same_kind front r e d (dead, inr (p, l)) (dead2, inr (q, m)) = p ∙ sym q

  dead_only : (ts : List Tok) (e d : Fault) (before : List Tok) (here : Tok) (after : List Tok) → ts ≡ before ++ here ∷ after → IsDead f before here e → Live f before → ((b us more : List Tok) → ts ≡ b ++ (us ++ more) → Passes f b us → length before ≤ length b)
      → IsFirstFault f ts d → e ≡ d
  dead_only ts e d before here after p dead live none_past other = compare other.before other.here other.after other.parts other.fault other.live
    where
      compare : (b : List Tok) (h : Tok) (k : List Tok) → ts ≡ b ++ h ∷ k → IsDead f b h d ⊎ IsPast f b h k d → Live f b → e ≡ d
      compare b h k q (inr (lead, rest, q2, lives, passes, is_place)) l =
          let split : ts ≡ b ++ ((h ∷ lead) ++ rest) = q ∙ ap (λ (x : List Tok). b ++ h ∷ x) q2 in
          let le = none_past b (h ∷ lead) rest split passes in
          let whole_split : (before ++ here ∷ []) ++ after ≡ (b ++ h ∷ lead) ++ rest = one_more before here after ∙ sym p ∙ split ∙ sym (append_assoc b (h ∷ lead) rest) in
          absurd (no_longer_live (before ++ here ∷ []) after (b ++ h ∷ lead) rest dead.0 lives whole_split (omega (arith, length-append before (here ∷ []), length-append b (h ∷ lead))))
      compare b h k q (inl dead2) l =
          elim (cases_order (length before) (length b)) [
            | inl same ↦
                let s = same_front before (here ∷ after) b (h ∷ k) (sym p ∙ q) same in
                let t : here ≡ h = (let m = s.1 in cc) in
                same_kind b h e d (subst (λ (x : Tok). IsDead f b x e) t (subst (λ (x : List Tok). IsDead f x here e) s.0 dead)) dead2
            | inr (inl lt) ↦ absurd (no_longer_live (before ++ here ∷ []) after b (h ∷ k) dead.0 l (one_more before here after ∙ sym p ∙ q) (omega (arith, length-append before (here ∷ []))))
            | inr (inr gt) ↦ absurd (no_longer_live (b ++ h ∷ []) k before (here ∷ after) dead2.0 live (one_more b h k ∙ sym q ∙ p) (omega (arith, length-append b (h ∷ []))))
          ]

  pub fault_only : (ts : List Tok) (e : Fault) → IsText ts → IsFirstFault f ts e → whole f ts ≡ Err e
  fault_only ts e text i = judged i.before i.here i.after i.parts i.fault i.live i.none_past
    where
      judged : (before : List Tok) (here : Tok) (after : List Tok) → ts ≡ before ++ here ∷ after → IsDead f before here e ⊎ IsPast f before here after e → Live f before → ((b us more : List Tok) → ts ≡ b ++ (us ++ more) → Passes f b us → length before ≤ length b) → whole f ts ≡ Err e
      judged before here after p (inr (lead, rest, q, lives, passes, is_place)) live none_past =
          let split : ts ≡ before ++ ((here ∷ lead) ++ rest) = p ∙ ap (λ (x : List Tok). before ++ here ∷ x) q in
          let k : read f ts ≡ Err (too_many_at here.place) = ap (read f) split ∙ passes_read f is.decided 0 before (here ∷ lead) passes rest in
          rw k (ap Err (sym is_place))
      judged before here after p (inl dead) live none_past = answered (whole f ts) refl
        where
          answered : (r : Result A Fault) → whole f ts ≡ r → r ≡ Err e
          answered (Ok a) h =
              let d = derives_unlimited f ts a (whole_ok ts a text h) in
              absurd (dead.0 (after, a, subst (λ (l : List Tok). Derives (unlimited f) l a) (p ∙ sym (one_more before here after)) d))
          answered (Err d) h = ap Err (sym (dead_only ts e d before here after p dead live none_past (whole_fault ts d text h)))
