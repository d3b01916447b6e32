-- Without limits, and where words that are left out are words, reading gives the same, save where it met such a word or limit.
use Rattle.std.proofs.Common.{◌≡◌, ℕ, zero, suc, List, [], ◌∷◌, length, Result, Ok, Err, refl, sym, ap, inl, inr}
use Rattle.std.specs.Prelude.{◌⊎◌}
use Rattle.text_forms.specs.declared.symbol.Symbol.{Symbol}
use Rattle.text_forms.specs.declared.fault.FaultKind.{FaultKind}
use Rattle.text_forms.specs.declared.fault.FaultKind.TheVariants as kinds
use Rattle.text_forms.specs.declared.fault.Fault.{Fault}
use Rattle.text_forms.specs.Tokens.{Tok, at, first, fault_at, left_out_at, too_many_at}
use Rattle.text_forms.specs.Forms.{Form, token, nothing, never, both, on, made, left_out, past, many, lines}
use Rattle.text_forms.specs.Begins.{begins}
use Rattle.text_forms.specs.Reading.{◌>>=◌, elements, read_from}
use Rattle.text_forms.specs.Limits.{unlimited, widen}
use Rattle.text_forms.specs.Lemmas.Tests.{bind_ok, bind_err, chosen, err_is}

-- two ways to read elements of a list: the second answers as the first does, save at faults of the kinds K
module _ {A B S F : Type 0} (xs : List Symbol) (flags : S → F) (step : S → A → S) (p p' : F → ℕ → List Tok → Result (A × List Tok) Fault) (q q' : List Tok → Result (B × List Tok) Fault) where
  reads_alike : ((y : F) (n : ℕ) (ts : List Tok) (x : A × List Tok) → p y n ts ≡ Ok x → p' y n ts ≡ Ok x) → ((ts : List Tok) (x : B × List Tok) → q ts ≡ Ok x → q' ts ≡ Ok x)
      → (n : ℕ) (s : S) (ts : List Tok) (x : (List A × B) × List Tok) → elements xs flags step p q n s ts ≡ Ok x → elements xs flags step p' q' n s ts ≡ Ok x
  unfolding elements
  reads_alike hp hq zero s ts x e = absurd cc
  reads_alike hp hq (suc n) s ts x e =
      elim (chosen (at xs ts) (q ts >>= λ y. Ok (([], y.0), y.1)) (p (flags s) (first ts).place ts >>= λ a. elements xs flags step p q n (step s a.0) a.1 >>= λ y. Ok ((a.0 ∷ y.0.0, y.0.1), y.1)) (Ok x) e) [
        | inl c ↦
            let b = bind_ok (q ts) (λ y. Ok (([], y.0), y.1)) x c.1 in
            rw (c.0, hq ts b.0 b.1) b.2
        | inr c ↦
            let b = bind_ok (p (flags s) (first ts).place ts) (λ a. elements xs flags step p q n (step s a.0) a.1 >>= λ y. Ok ((a.0 ∷ y.0.0, y.0.1), y.1)) x c.1 in
            let d = bind_ok (elements xs flags step p q n (step s b.0.0) b.0.1) (λ y. Ok ((b.0.0 ∷ y.0.0, y.0.1), y.1)) x b.2 in
            rw (c.0, hp (flags s) _ ts b.0 b.1, reads_alike hp hq n (step s b.0.0) b.0.1 d.0 d.1) d.2
      ]

  fails_alike : (K : FaultKind → Type 0) → ((y : F) (n : ℕ) (ts : List Tok) (x : A × List Tok) → p y n ts ≡ Ok x → p' y n ts ≡ Ok x)
      → ((y : F) (n : ℕ) (ts : List Tok) (e : Fault) → p y n ts ≡ Err e → (p' y n ts ≡ Err e) ⊎ K e.kind) → ((ts : List Tok) (e : Fault) → q ts ≡ Err e → (q' ts ≡ Err e) ⊎ K e.kind)
      → (n : ℕ) (s : S) (ts : List Tok) (e : Fault) → elements xs flags step p q n s ts ≡ Err e → (elements xs flags step p' q' n s ts ≡ Err e) ⊎ K e.kind
  unfolding elements
  fails_alike K rp hp hq zero s ts e h = inl h
  fails_alike K rp hp hq (suc n) s ts e h =
      elim (chosen (at xs ts) (q ts >>= λ y. Ok (([], y.0), y.1)) (p (flags s) (first ts).place ts >>= λ a. elements xs flags step p q n (step s a.0) a.1 >>= λ y. Ok ((a.0 ∷ y.0.0, y.0.1), y.1)) (Err e) h) [
        | inl c ↦
            elim (bind_err (q ts) (λ y. Ok (([], y.0), y.1)) e c.1) [
              | inl k ↦ elim (hq ts e k) [ inl m ↦ inl (rw (c.0, m) refl) | inr m ↦ inr m ]
              | inr (x, ok, wrong) ↦ absurd cc
            ]
        | inr c ↦
            elim (bind_err (p (flags s) (first ts).place ts) (λ a. elements xs flags step p q n (step s a.0) a.1 >>= λ y. Ok ((a.0 ∷ y.0.0, y.0.1), y.1)) e c.1) [
              | inl k ↦ elim (hp (flags s) _ ts e k) [ inl m ↦ inl (rw (c.0, m) refl) | inr m ↦ inr m ]
              | inr (x, ok, later) ↦
                  elim (bind_err (elements xs flags step p q n (step s x.0) x.1) (λ y. Ok ((x.0 ∷ y.0.0, y.0.1), y.1)) e later) [
                    | inl k ↦ elim (fails_alike K rp hp hq n (step s x.0) x.1 e k) [ inl m ↦ inl (rw (c.0, rp (flags s) _ ts x ok, m) refl) | inr m ↦ inr m ]
                    | inr (y, ok2, wrong) ↦ absurd cc
                  ]
            ]
      ]

-- ---- without limits

pub reads_unlimited : {A : Type 0} (f : Form A) (p : ℕ) (ts : List Tok) (x : A × List Tok) → read_from f p ts ≡ Ok x → read_from (unlimited f) p ts ≡ Ok x
reads_unlimited (token xs) p ts x e = e
reads_unlimited (nothing a) p ts x e = e
reads_unlimited never p ts x e = e
reads_unlimited (both f g) p ts x e =
    let b = bind_ok (read_from f p ts) (λ a. read_from g p a.1 >>= λ y. Ok ((a.0, y.0), y.1)) x e in
    let d = bind_ok (read_from g p b.0.1) (λ y. Ok ((b.0.0, y.0), y.1)) x b.2 in
    rw (reads_unlimited f p ts b.0 b.1, reads_unlimited g p b.0.1 d.0 d.1) d.2
reads_unlimited (on xs f g) p ts x e =
    elim (chosen (at xs ts) (read_from f p ts) (read_from g p ts) (Ok x) e) [ inl c ↦ rw c.0 (reads_unlimited f p ts x c.1) | inr c ↦ rw c.0 (reads_unlimited g p ts x c.1) ]
reads_unlimited (made h f) p ts x e =
    let b = bind_ok (read_from f p ts) (λ a. Ok (h a.0, a.1)) x e in
    rw (reads_unlimited f p ts b.0 b.1) b.2
reads_unlimited (left_out xs a) p ts x e = absurd cc
reads_unlimited (past f) p ts x e =
    elim (chosen (at (begins f) ts) (Err (too_many_at p)) (read_from f p ts) (Ok x) e) [ inl c ↦ absurd (let k = c.1 in cc) | inr c ↦ reads_unlimited f p ts x c.1 ]
reads_unlimited (many f) p ts x e = absurd cc
reads_unlimited (lines fl flags step f xs g s) p ts x e =
    reads_alike xs flags step (λ y. read_from (f y)) (λ y. read_from (unlimited (f y))) (read_from g p) (read_from (unlimited g) p) (λ y n ts x h. reads_unlimited (f y) n ts x h) (λ ts x h. reads_unlimited g p ts x h) (suc (length ts)) s ts x e

abbrev is_too_many : FaultKind → Type 0
is_too_many k = k ≡ kinds.TooMany

pub fails_unlimited : {A : Type 0} (f : Form A) (p : ℕ) (ts : List Tok) (e : Fault) → read_from f p ts ≡ Err e → (read_from (unlimited f) p ts ≡ Err e) ⊎ (e.kind ≡ kinds.TooMany)
fails_unlimited (token xs) p ts e h = inl h
fails_unlimited (nothing a) p ts e h = inl h
fails_unlimited never p ts e h = inl h
fails_unlimited (both f g) p ts e h =
    elim (bind_err (read_from f p ts) (λ x. read_from g p x.1 >>= λ y. Ok ((x.0, y.0), y.1)) e h) [
      | inl k ↦ elim (fails_unlimited f p ts e k) [ inl m ↦ inl (rw m refl) | inr m ↦ inr m ]
      | inr (x, ok, later) ↦
          elim (bind_err (read_from g p x.1) (λ y. Ok ((x.0, y.0), y.1)) e later) [
            | inl k ↦ elim (fails_unlimited g p x.1 e k) [ inl m ↦ inl (rw (reads_unlimited f p ts x ok, m) refl) | inr m ↦ inr m ]
            | inr (y, ok2, wrong) ↦ absurd cc
          ]
    ]
fails_unlimited (on xs f g) p ts e h =
    elim (chosen (at xs ts) (read_from f p ts) (read_from g p ts) (Err e) h) [
      | inl c ↦ elim (fails_unlimited f p ts e c.1) [ inl m ↦ inl (rw c.0 m) | inr m ↦ inr m ]
      | inr c ↦ elim (fails_unlimited g p ts e c.1) [ inl m ↦ inl (rw c.0 m) | inr m ↦ inr m ]
    ]
fails_unlimited (made h f) p ts e err =
    elim (bind_err (read_from f p ts) (λ x. Ok (h x.0, x.1)) e err) [
      | inl k ↦ elim (fails_unlimited f p ts e k) [ inl m ↦ inl (rw m refl) | inr m ↦ inr m ]
      | inr (x, ok, wrong) ↦ absurd cc
    ]
fails_unlimited (left_out xs a) p ts e h = inl h
fails_unlimited {A} (past f) p ts e h =
    elim (chosen (at (begins f) ts) (Err (too_many_at p)) (read_from f p ts) (Err e) h) [
      | inl c ↦ inr (sym (ap (λ (x : Fault). x.kind) (err_is {A = A × List Tok} (too_many_at p) e c.1)))
      | inr c ↦ fails_unlimited f p ts e c.1
    ]
fails_unlimited (many f) p ts e h = inl h
fails_unlimited (lines fl flags step f xs g s) p ts e h =
    fails_alike xs flags step (λ y. read_from (f y)) (λ y. read_from (unlimited (f y))) (read_from g p) (read_from (unlimited g) p) is_too_many (λ y n ts x k. reads_unlimited (f y) n ts x k) (λ y n ts d k. fails_unlimited (f y) n ts d k) (λ ts d k. fails_unlimited g p ts d k) (suc (length ts)) s ts e h

-- ---- and with the words that are left out

pub reads_wide : {A : Type 0} (f : Form A) (p : ℕ) (ts : List Tok) (x : A × List Tok) → read_from f p ts ≡ Ok x → read_from (widen f) p ts ≡ Ok x
reads_wide (token xs) p ts x e = e
reads_wide (nothing a) p ts x e = e
reads_wide never p ts x e = e
reads_wide (both f g) p ts x e =
    let b = bind_ok (read_from f p ts) (λ a. read_from g p a.1 >>= λ y. Ok ((a.0, y.0), y.1)) x e in
    let d = bind_ok (read_from g p b.0.1) (λ y. Ok ((b.0.0, y.0), y.1)) x b.2 in
    rw (reads_wide f p ts b.0 b.1, reads_wide g p b.0.1 d.0 d.1) d.2
reads_wide (on xs f g) p ts x e =
    elim (chosen (at xs ts) (read_from f p ts) (read_from g p ts) (Ok x) e) [ inl c ↦ rw c.0 (reads_wide f p ts x c.1) | inr c ↦ rw c.0 (reads_wide g p ts x c.1) ]
reads_wide (made h f) p ts x e =
    let b = bind_ok (read_from f p ts) (λ a. Ok (h a.0, a.1)) x e in
    rw (reads_wide f p ts b.0 b.1) b.2
reads_wide (left_out xs a) p ts x e = absurd cc
reads_wide (past f) p ts x e =
    elim (chosen (at (begins f) ts) (Err (too_many_at p)) (read_from f p ts) (Ok x) e) [ inl c ↦ absurd (let k = c.1 in cc) | inr c ↦ reads_wide f p ts x c.1 ]
reads_wide (many f) p ts x e = absurd cc
reads_wide (lines fl flags step f xs g s) p ts x e =
    reads_alike xs flags step (λ y. read_from (f y)) (λ y. read_from (widen (f y))) (read_from g p) (read_from (widen g) p) (λ y n ts x h. reads_wide (f y) n ts x h) (λ ts x h. reads_wide g p ts x h) (suc (length ts)) s ts x e

-- the kinds of fault that a wider grammar may not have
abbrev pub IsNarrow : FaultKind → Type 0
IsNarrow k = (k ≡ kinds.TooMany) ⊎ (k ≡ kinds.NotInProfile)

pub fails_wide : {A : Type 0} (f : Form A) (p : ℕ) (ts : List Tok) (e : Fault) → read_from f p ts ≡ Err e → (read_from (widen f) p ts ≡ Err e) ⊎ IsNarrow e.kind
fails_wide (token xs) p ts e h = inl h
fails_wide (nothing a) p ts e h = inl h
fails_wide never p ts e h = inl h
fails_wide (both f g) p ts e h =
    elim (bind_err (read_from f p ts) (λ x. read_from g p x.1 >>= λ y. Ok ((x.0, y.0), y.1)) e h) [
      | inl k ↦ elim (fails_wide f p ts e k) [ inl m ↦ inl (rw m refl) | inr m ↦ inr m ]
      | inr (x, ok, later) ↦
          elim (bind_err (read_from g p x.1) (λ y. Ok ((x.0, y.0), y.1)) e later) [
            | inl k ↦ elim (fails_wide g p x.1 e k) [ inl m ↦ inl (rw (reads_wide f p ts x ok, m) refl) | inr m ↦ inr m ]
            | inr (y, ok2, wrong) ↦ absurd cc
          ]
    ]
fails_wide (on xs f g) p ts e h =
    elim (chosen (at xs ts) (read_from f p ts) (read_from g p ts) (Err e) h) [
      | inl c ↦ elim (fails_wide f p ts e c.1) [ inl m ↦ inl (rw c.0 m) | inr m ↦ inr m ]
      | inr c ↦ elim (fails_wide g p ts e c.1) [ inl m ↦ inl (rw c.0 m) | inr m ↦ inr m ]
    ]
fails_wide (made h f) p ts e err =
    elim (bind_err (read_from f p ts) (λ x. Ok (h x.0, x.1)) e err) [
      | inl k ↦ elim (fails_wide f p ts e k) [ inl m ↦ inl (rw m refl) | inr m ↦ inr m ]
      | inr (x, ok, wrong) ↦ absurd cc
    ]
fails_wide {A} (left_out xs a) p ts e h =
    elim (chosen (at xs ts) (left_out_at (first ts)) (fault_at ts) e (err_is {A = A × List Tok} _ _ h)) [
      | inl c ↦ inr (inr (sym (ap (λ (x : Fault). x.kind) c.1)))
      | inr c ↦ inl (rw c.0 (ap Err c.1))
    ]
fails_wide {A} (past f) p ts e h =
    elim (chosen (at (begins f) ts) (Err (too_many_at p)) (read_from f p ts) (Err e) h) [
      | inl c ↦ inr (inl (sym (ap (λ (x : Fault). x.kind) (err_is {A = A × List Tok} (too_many_at p) e c.1))))
      | inr c ↦ fails_wide f p ts e c.1
    ]
fails_wide (many f) p ts e h = inl h
fails_wide (lines fl flags step f xs g s) p ts e h =
    fails_alike xs flags step (λ y. read_from (f y)) (λ y. read_from (widen (f y))) (read_from g p) (read_from (widen g) p) IsNarrow (λ y n ts x k. reads_wide (f y) n ts x k) (λ y n ts d k. fails_wide (f y) n ts d k) (λ ts d k. fails_wide g p ts d k) (suc (length ts)) s ts e h
