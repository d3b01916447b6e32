-- What reading gave stands at the front, and reading looked no further than the next token.
use Rattle.std.proofs.Common.{◌≡◌, ℕ, zero, suc, ◌≤◌, true, false, List, [], ◌∷◌, ◌++◌, length, Result, Ok, Err, refl, sym, ap, subst, ◌∙◌, arith, inl, inr, append_assoc}
use Rattle.std.proofs.lemmas.List.{length-append}
use Rattle.text_forms.specs.declared.symbol.Symbol.{Symbol}
use Rattle.text_forms.specs.declared.fault.Fault.{Fault}
use Rattle.text_forms.specs.Tokens.{Tok, has, at, first, fault_at, too_many_at}
use Rattle.text_forms.specs.Forms.{Form, token, nothing, never, both, on, made, left_out, past, many, lines}
use Rattle.text_forms.specs.Derives.{Elements, Derives}
use Rattle.text_forms.specs.Begins.{empties, begins, decides}
use Rattle.text_forms.specs.Reading.{◌>>=◌, elements, read_from}
use Rattle.text_forms.specs.Lemmas.Tests.{and_true, not_true, ahead, at_ahead, ahead_append, bind_ok, chosen, ok_is}
use Rattle.text_forms.specs.Lemmas.Beginnings.{nonempty, list_parts, IsList, at_derived}

-- the front that was read, and the same answer wherever it stands and whatever comes after the next token
pub record Reads {A : Type 0} (f : Form A) (ts : List Tok) (a : A) (rest : List Tok) : Type 0 where
  pub front : List Tok
  pub parts : ts ≡ front ++ rest
  pub derives : Derives f front a
  pub again : (q : ℕ) (z : List Tok) → ahead z ≡ ahead rest → read_from f q (front ++ z) ≡ Ok (a, z)

module _ {A B S F : Type 0} (flags : S → F) (step : S → A → S) (f : F → Form A) (xs : List Symbol) (g : Form B) where
  -- elements of this list
  abbrev pub run : ℕ → ℕ → S → List Tok → Result ((List A × B) × List Tok) Fault
  run q n s ts = elements xs flags step (λ y. read_from (f y)) (read_from g q) n s ts

  pub record ReadsElements (s : S) (ts : List Tok) (ys : List A) (b : B) (rest : List Tok) : Type 0 where
    pub front : List Tok
    pub parts : ts ≡ front ++ rest
    pub derives : Elements flags step (λ y. Derives (f y)) (λ _ v. Derives g v b) s front ys
    pub again : (q m : ℕ) (z : List Tok) → length front ≤ m → ahead z ≡ ahead rest → run q m s (front ++ z) ≡ Ok ((ys, b), z)

  -- one turn, where the list closes
  pub turn_closes : (q m : ℕ) (s : S) (front z : List Tok) (b : B) → (front ≡ [] → ⊥) → length front ≤ m → at xs (front ++ z) ≡ true → read_from g q (front ++ z) ≡ Ok (b, z) → run q m s (front ++ z) ≡ Ok (([], b), z)
  unfolding elements
  turn_closes q zero s [] z b some le here e = absurd (some refl)
  turn_closes q zero s (t ∷ front) z b some le here e = absurd (omega arith)
  turn_closes q (suc m) s front z b some le here e = rw (here, e) refl

  -- one turn, where an element stands
  pub turn_reads : (q m : ℕ) (s : S) (x y z : List Tok) (a : A) (others : List A) (b : B) → (x ≡ [] → ⊥) → length (x ++ y) ≤ m → at xs (x ++ (y ++ z)) ≡ false
      → read_from (f (flags s)) (first (x ++ (y ++ z))).place (x ++ (y ++ z)) ≡ Ok (a, y ++ z)
      → ((k : ℕ) → length y ≤ k → run q k (step s a) (y ++ z) ≡ Ok ((others, b), z)) → run q m s ((x ++ y) ++ z) ≡ Ok ((a ∷ others, b), z)
  unfolding elements
  turn_reads q m s [] y z a others b some le off one rec = absurd (some refl)
  turn_reads q zero s (t ∷ x) y z a others b some le off one rec = absurd (omega (arith, length-append x y))
  turn_reads q (suc m) s (t ∷ x) y z a others b some le off one rec =
      rw append_assoc (rw (off, one, rec m (omega (arith, length-append x y))) refl)

  closes_run : (s : S) (ts : List Tok) (b : B) (rest : List Tok) → empties g ≡ false → at xs ts ≡ true → Reads g ts b rest → ReadsElements s ts [] b rest
  closes_run s ts b rest ne here r = record {
    front = r.front;
    parts = r.parts;
    derives = r.derives;
    again = λ q m z le eq. turn_closes q m s r.front z b (λ none. nonempty g r.front b ne none r.derives) le
        (at_ahead xs (r.front ++ z) ts (ahead_append r.front z rest eq ∙ ap ahead (sym r.parts)) ∙ here) (r.again q z eq);
  }

  another_run : (s : S) (ts : List Tok) (a : A) (mid : List Tok) (others : List A) (b : B) (rest : List Tok) → empties (f (flags s)) ≡ false → at xs ts ≡ false
      → Reads (f (flags s)) ts a mid → ReadsElements (step s a) mid others b rest → ReadsElements s ts (a ∷ others) b rest
  another_run s ts a mid others b rest ne off r q = record {
    front = r.front ++ q.front;
    parts = r.parts ∙ ap (λ (l : List Tok). r.front ++ l) q.parts ∙ sym (append_assoc r.front q.front rest);
    derives = (r.front, q.front, refl, r.derives, q.derives);
    again = λ start m z le eq.
        let same_next : ahead (q.front ++ z) ≡ ahead mid = ahead_append q.front z rest eq ∙ ap ahead (sym q.parts) in
        let still : at xs (r.front ++ (q.front ++ z)) ≡ false = at_ahead xs (r.front ++ (q.front ++ z)) ts (ahead_append r.front (q.front ++ z) mid same_next ∙ ap ahead (sym r.parts)) ∙ off in
        turn_reads start m s r.front q.front z a others b (λ none. nonempty (f (flags s)) r.front a ne none r.derives) le still (r.again _ (q.front ++ z) same_next) (λ k h. q.again start k z h eq);
  }

  pub reads_each : IsList f xs g → ((y : F) (p : ℕ) (ts : List Tok) (a : A) (rest : List Tok) → read_from (f y) p ts ≡ Ok (a, rest) → Reads (f y) ts a rest)
      → ((p : ℕ) (ts : List Tok) (b : B) (rest : List Tok) → read_from g p ts ≡ Ok (b, rest) → Reads g ts b rest)
      → (p n : ℕ) (s : S) (ts : List Tok) (ys : List A) (b : B) (rest : List Tok) → run p n s ts ≡ Ok ((ys, b), rest) → ReadsElements s ts ys b rest
  unfolding elements
  reads_each l ihf ihg p zero s ts ys b rest e = absurd cc
  reads_each l ihf ihg p (suc n) s ts ys b rest e =
      elim (chosen (at xs ts) (read_from g p ts >>= λ y. Ok (([], y.0), y.1)) (read_from (f (flags s)) (first ts).place ts >>= λ x. run p n (step s x.0) x.1 >>= λ y. Ok ((x.0 ∷ y.0.0, y.0.1), y.1)) (Ok ((ys, b), rest)) e) [
        | inl c ↦
            let d = bind_ok (read_from g p ts) (λ y. Ok (([], y.0), y.1)) ((ys, b), rest) c.1 in
            subst (λ (v : (List A × B) × List Tok). ReadsElements s ts v.0.0 v.0.1 v.1) (ok_is (([], d.0.0), d.0.1) ((ys, b), rest) d.2)
            (closes_run s ts d.0.0 d.0.1 l.closing_some c.0 (ihg p ts d.0.0 d.0.1 d.1))
        | inr c ↦
            let d = bind_ok (read_from (f (flags s)) (first ts).place ts) (λ x. run p n (step s x.0) x.1 >>= λ y. Ok ((x.0 ∷ y.0.0, y.0.1), y.1)) ((ys, b), rest) c.1 in
            let k = bind_ok (run p n (step s d.0.0) d.0.1) (λ y. Ok ((d.0.0 ∷ y.0.0, y.0.1), y.1)) ((ys, b), rest) d.2 in
            subst (λ (v : (List A × B) × List Tok). ReadsElements s ts v.0.0 v.0.1 v.1) (ok_is ((d.0.0 ∷ k.0.0.0, k.0.0.1), k.0.1) ((ys, b), rest) k.2)
            (another_run s ts d.0.0 d.0.1 k.0.0.0 k.0.0.1 k.0.1 (l.element_some (flags s)) c.0 (ihf (flags s) _ ts d.0.0 d.0.1 d.1)
            (reads_each l ihf ihg p n (step s d.0.0) d.0.1 k.0.0.0 k.0.0.1 k.0.1 k.1))
      ]

pub reads : {A : Type 0} (f : Form A) → decides f ≡ true → (p : ℕ) (ts : List Tok) (a : A) (rest : List Tok) → read_from f p ts ≡ Ok (a, rest) → Reads f ts a rest
reads (token xs) dec p [] a rest e = absurd cc
reads (token xs) dec p (t ∷ ts) a rest e =
    elim (chosen (has xs t.symbol) (Ok (t, ts)) (Err (fault_at (t ∷ ts))) (Ok (a, rest)) e) [
      | inl c ↦ subst (λ (v : Tok × List Tok). Reads (token xs) (t ∷ ts) v.0 v.1) (ok_is (t, ts) (a, rest) c.1) (record {
        front = t ∷ [];
        parts = refl;
        derives = (refl, c.0);
        again = λ q z eq. rw c.0 refl;
      })
      | inr c ↦ absurd (let k = c.1 in cc)
    ]
reads {A} (nothing b) dec p ts a rest e = subst (λ (v : A × List Tok). Reads (nothing b) ts v.0 v.1) (ok_is (b, ts) (a, rest) e) (record {
  front = [];
  parts = refl;
  derives = (refl, refl);
  again = λ q z eq. refl;
})
reads never dec p ts a rest e = absurd cc
reads (both {A} {B} f g) dec p ts a rest e =
    let k = and_true _ _ (and_true _ _ dec).0 in
    let b = bind_ok (read_from f p ts) (λ x. read_from g p x.1 >>= λ y. Ok ((x.0, y.0), y.1)) (a, rest) e in
    let d = bind_ok (read_from g p b.0.1) (λ y. Ok ((b.0.0, y.0), y.1)) (a, rest) b.2 in
    let r = reads f k.0 p ts b.0.0 b.0.1 b.1 in
    let m = reads g k.1 p b.0.1 d.0.0 d.0.1 d.1 in
    subst (λ (v : (A × B) × List Tok). Reads (both f g) ts v.0 v.1) (ok_is ((b.0.0, d.0.0), d.0.1) (a, rest) d.2) (record {
      front = r.front ++ m.front;
      parts = r.parts ∙ ap (λ (l : List Tok). r.front ++ l) m.parts ∙ sym (append_assoc r.front m.front d.0.1);
      derives = (r.front, m.front, refl, r.derives, m.derives);
      again = λ q z eq.
          let same_next : ahead (m.front ++ z) ≡ ahead b.0.1 = ahead_append m.front z d.0.1 eq ∙ ap ahead (sym m.parts) in
          rw append_assoc (rw (r.again q (m.front ++ z) same_next, m.again q z eq) refl);
    })
reads (on xs f g) dec p ts a rest e =
    let k = and_true _ _ (and_true _ _ dec).0 in
    elim (chosen (at xs ts) (read_from f p ts) (read_from g p ts) (Ok (a, rest)) e) [
      | inl c ↦
          let r = reads f k.0 p ts a rest c.1 in
          record {
            front = r.front;
            parts = r.parts;
            derives = inl r.derives;
            again = λ q z eq. let here : at xs (r.front ++ z) ≡ true = at_ahead xs (r.front ++ z) ts (ahead_append r.front z rest eq ∙ ap ahead (sym r.parts)) ∙ c.0 in rw here (r.again q z eq);
          }
      | inr c ↦
          let r = reads g k.1 p ts a rest c.1 in
          record {
            front = r.front;
            parts = r.parts;
            derives = inr r.derives;
            again = λ q z eq. let here : at xs (r.front ++ z) ≡ false = at_ahead xs (r.front ++ z) ts (ahead_append r.front z rest eq ∙ ap ahead (sym r.parts)) ∙ c.0 in rw here (r.again q z eq);
          }
    ]
reads (made {A} {B} h f) dec p ts a rest e =
    let b = bind_ok (read_from f p ts) (λ x. Ok (h x.0, x.1)) (a, rest) e in
    let r = reads f dec p ts b.0.0 b.0.1 b.1 in
    subst (λ (v : B × List Tok). Reads (made h f) ts v.0 v.1) (ok_is (h b.0.0, b.0.1) (a, rest) b.2) (record {
      front = r.front;
      parts = r.parts;
      derives = (b.0.0, r.derives, refl);
      again = λ q z eq. rw (r.again q z eq) refl;
    })
reads (left_out xs b) dec p ts a rest e = absurd cc
reads {A} (past f) dec p ts a rest e =
    let k = and_true _ _ dec in
    elim (chosen (at (begins f) ts) (Err (too_many_at p)) (read_from f p ts) (Ok (a, rest)) e) [
      | inl c ↦ absurd (let m = c.1 in cc)
      | inr c ↦
          let r = reads f k.0 p ts a rest c.1 in
          let there : at (begins f) ts ≡ true = subst (λ (l : List Tok). at (begins f) l ≡ true) (sym r.parts) (at_derived f k.0 r.front a rest (λ none. nonempty f r.front a (not_true _ k.1) none r.derives) r.derives) in
          absurd (let off = c.0 in let bad : true ≡ false = sym there ∙ off in cc)
    ]
reads (many f) dec p ts a rest e = absurd cc
reads (lines fl flags step f xs g s) dec p ts (ys, b) rest e =
    let l = list_parts fl flags step f xs g s dec in
    let r = reads_each flags step f xs g l (λ y. reads (f y) (l.element y)) (reads g l.closing) p (suc (length ts)) s ts ys b rest e in
    record {
      front = r.front;
      parts = r.parts;
      derives = r.derives;
      again = λ q z eq. r.again q (suc (length (r.front ++ z))) z (omega (arith, length-append r.front z)) eq;
    }
