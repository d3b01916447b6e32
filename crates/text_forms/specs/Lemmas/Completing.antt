-- What a form derives is read, where what follows does not go on with it; and an element past a limit is found.
use Rattle.std.proofs.Common.{◌≡◌, ℕ, zero, suc, ◌<◌, true, false, cond, List, [], ◌∷◌, ◌++◌, length, Ok, Err, refl, sym, ap, subst, ◌∙◌, arith, inl, inr, append_assoc}
use Rattle.std.specs.Prelude.{◌⊎◌}
use Rattle.std.proofs.lemmas.List.{length-append}
use Rattle.text_forms.specs.declared.symbol.Symbol.{Symbol}
use Rattle.text_forms.specs.declared.fault.Fault.{Fault}
use Rattle.text_forms.specs.Tokens.{Tok, at, first}
use Rattle.text_forms.specs.Forms.{Form, token, nothing, never, both, on, made, left_out, past, many, lines}
use Rattle.text_forms.specs.Derives.{Elements, Derives}
use Rattle.text_forms.specs.Begins.{apart, empties, begins, goes_on, decides}
use Rattle.text_forms.specs.Reading.{elements, read_from}
use Rattle.text_forms.specs.Lemmas.Tests.{and_true, not_true, false_not, clear}
use Rattle.text_forms.specs.Lemmas.Beginnings.{nonempty, empty_derived, first_derived, at_derived, at_only, at_apart, at_none, clear_union, clear_chosen, clear_second, list_parts, IsList}
use Rattle.text_forms.specs.Lemmas.Reading.{run}

module _ {A B S F : Type 0} (flags : S → F) (step : S → A → S) (f : F → Form A) (xs : List Symbol) (g : Form B) (p : ℕ) where
  run_closes : (m : ℕ) (s : S) (ts rest : List Tok) (b : B) → length ts < m → at xs ts ≡ true → read_from g p ts ≡ Ok (b, rest) → run flags step f xs g p m s ts ≡ Ok (([], b), rest)
  unfolding elements
  run_closes zero s ts rest b lt here e = absurd (omega arith)
  run_closes (suc m) s ts rest b lt here e = rw (here, e) refl

  run_next : (m : ℕ) (s : S) (u w : List Tok) (a : A) (others : List A) (b : B) (rest : List Tok) → length (u ++ w) < m → at xs (u ++ w) ≡ false → read_from (f (flags s)) (first (u ++ w)).place (u ++ w) ≡ Ok (a, w) → (u ≡ [] → ⊥)
      → ((n : ℕ) → length w < n → run flags step f xs g p n (step s a) w ≡ Ok ((others, b), rest)) → run flags step f xs g p m s (u ++ w) ≡ Ok ((a ∷ others, b), rest)
  unfolding elements
  run_next m s [] w a others b rest lt off one some rec = absurd (some refl)
  run_next zero s (t ∷ u) w a others b rest lt off one some rec = absurd (omega arith)
  run_next (suc m) s (t ∷ u) w a others b rest lt off one some rec = rw (off, one, rec m (omega (arith, length-append u w))) refl

  pub run_fails : (m : ℕ) (s : S) (ts : List Tok) (e : Fault) → length ts < m → at xs ts ≡ false → read_from (f (flags s)) (first ts).place ts ≡ Err e → run flags step f xs g p m s ts ≡ Err e
  unfolding elements
  run_fails zero s ts e lt off one = absurd (omega arith)
  run_fails (suc m) s ts e lt off one = rw (off, one) refl

  pub run_close_fails : (m : ℕ) (s : S) (ts : List Tok) (e : Fault) → length ts < m → at xs ts ≡ true → read_from g p ts ≡ Err e → run flags step f xs g p m s ts ≡ Err e
  unfolding elements
  run_close_fails zero s ts e lt here one = absurd (omega arith)
  run_close_fails (suc m) s ts e lt here one = rw (here, one) refl

  pub run_fails_later : (m : ℕ) (s : S) (u w : List Tok) (a : A) (e : Fault) → length (u ++ w) < m → at xs (u ++ w) ≡ false → read_from (f (flags s)) (first (u ++ w)).place (u ++ w) ≡ Ok (a, w) → (u ≡ [] → ⊥)
      → ((n : ℕ) → length w < n → run flags step f xs g p n (step s a) w ≡ Err e) → run flags step f xs g p m s (u ++ w) ≡ Err e
  unfolding elements
  run_fails_later m s [] w a e lt off one some rec = absurd (some refl)
  run_fails_later zero s (t ∷ u) w a e lt off one some rec = absurd (omega arith)
  run_fails_later (suc m) s (t ∷ u) w a e lt off one some rec = rw (off, one, rec m (omega (arith, length-append u w))) refl

  -- an element stands here, and so the list does not close
  pub not_closed : IsList f xs g → (y : F) (ts : List Tok) → at (begins (f y)) ts ≡ true → at xs ts ≡ false
  not_closed l y ts e = at_none xs (begins (f y)) ts (l.not_closing y) e

  -- what an element is followed by does not go on with it
  pub clear_before : IsList f xs g → (y z : F) (ts : List Tok) → at (begins (f z)) ts ≡ true → clear (goes_on (f y)) ts ≡ true
  clear_before l y z ts e = false_not _ (at_none (goes_on (f y)) (begins (f z)) ts (l.ends_between y z) e)

  clear_closing : IsList f xs g → (y : F) (ts : List Tok) → at xs ts ≡ true → clear (goes_on (f y)) ts ≡ true
  clear_closing l y ts e = false_not _ (at_none (goes_on (f y)) xs ts (l.ends_before y) e)

  -- elements, and behind them tokens of which R holds: the last of the elements is not gone on with
  follow : IsList f xs g → (R : S → List Tok → Type 0) (k : List Tok) → ((s : S) (v : List Tok) → R s v → (at xs (v ++ k) ≡ true) ⊎ (at (begins (f (flags s))) (v ++ k) ≡ true))
      → (before : List A) (s : S) (w : List Tok) → Elements flags step (λ y. Derives (f y)) R s w before → (at xs (w ++ k) ≡ true) ⊎ (at (begins (f (flags s))) (w ++ k) ≡ true)
  follow l R k h [] s w d = h s w d
  follow l R k h (x ∷ before) s w (u, v, q, d, e) =
      inr (subst (λ (ts : List Tok). at (begins (f (flags s))) ts ≡ true) (sym (ap (λ (ts : List Tok). ts ++ k) q ∙ append_assoc u v k))
      (at_derived (f (flags s)) (l.element (flags s)) u x (v ++ k) (λ none. nonempty (f (flags s)) u x (l.element_some (flags s)) none d) d))

  -- reading goes over elements to what stands behind them
  pub over : IsList f xs g → ((y : F) (n : ℕ) (u : List Tok) (a : A) (k : List Tok) → Derives (f y) u a → clear (goes_on (f y)) k ≡ true → read_from (f y) n (u ++ k) ≡ Ok (a, k))
      → (R : S → List Tok → Type 0) (k : List Tok) → ((s : S) (v : List Tok) → R s v → (at xs (v ++ k) ≡ true) ⊎ (at (begins (f (flags s))) (v ++ k) ≡ true))
      → (e : Fault) → ((s : S) (v : List Tok) (m : ℕ) → R s v → length (v ++ k) < m → run flags step f xs g p m s (v ++ k) ≡ Err e)
      → (before : List A) (s : S) (w : List Tok) (m : ℕ) → Elements flags step (λ y. Derives (f y)) R s w before → length (w ++ k) < m → run flags step f xs g p m s (w ++ k) ≡ Err e
  over l ih R k h e last [] s w m d lt = last s w m d lt
  over l ih R k h e last (x ∷ before) s w m (u, v, q, d, rest) lt =
      let regroup : w ++ k ≡ u ++ (v ++ k) = ap (λ (ts : List Tok). ts ++ k) q ∙ append_assoc u v k in
      let some : u ≡ [] → ⊥ = λ none. nonempty (f (flags s)) u x (l.element_some (flags s)) none d in
      let next = follow l R k h before (step s x) v rest in
      let ends : clear (goes_on (f (flags s))) (v ++ k) ≡ true = elim next [ inl c ↦ clear_closing l (flags s) (v ++ k) c | inr c ↦ clear_before l (flags s) (flags (step s x)) (v ++ k) c ] in
      rw regroup (run_fails_later m s u (v ++ k) x e (subst (λ (ts : List Tok). length ts < m) regroup lt)
      (not_closed l (flags s) (u ++ (v ++ k)) (at_derived (f (flags s)) (l.element (flags s)) u x (v ++ k) some d))
      (ih (flags s) _ u x (v ++ k) d ends) some (λ n less. over l ih R k h e last before (step s x) v n rest less))

  complete_each : IsList f xs g → ((y : F) (n : ℕ) (u : List Tok) (a : A) (k : List Tok) → Derives (f y) u a → clear (goes_on (f y)) k ≡ true → read_from (f y) n (u ++ k) ≡ Ok (a, k))
      → (b : B) (k : List Tok) → ((v : List Tok) → Derives g v b → read_from g p (v ++ k) ≡ Ok (b, k))
      → (others : List A) (s : S) (w : List Tok) → Elements flags step (λ y. Derives (f y)) (λ _ v. Derives g v b) s w others → (m : ℕ) → length (w ++ k) < m → run flags step f xs g p m s (w ++ k) ≡ Ok ((others, b), k)
  complete_each l ih b k ihg [] s w d m lt =
      run_closes m s (w ++ k) k b lt (at_only xs (begins g) (w ++ k) l.closing_only (at_derived g l.closing w b k (λ none. nonempty g w b l.closing_some none d) d)) (ihg w d)
  complete_each l ih b k ihg (x ∷ others) s w (u, v, q, d, rest) m lt =
      let regroup : w ++ k ≡ u ++ (v ++ k) = ap (λ (ts : List Tok). ts ++ k) q ∙ append_assoc u v k in
      let some : u ≡ [] → ⊥ = λ none. nonempty (f (flags s)) u x (l.element_some (flags s)) none d in
      let next = follow l (λ _ v. Derives g v b) k (λ s v dg. inl (at_only xs (begins g) (v ++ k) l.closing_only (at_derived g l.closing v b k (λ none. nonempty g v b l.closing_some none dg) dg))) others (step s x) v rest in
      let ends : clear (goes_on (f (flags s))) (v ++ k) ≡ true = elim next [ inl c ↦ clear_closing l (flags s) (v ++ k) c | inr c ↦ clear_before l (flags s) (flags (step s x)) (v ++ k) c ] in
      rw regroup (run_next m s u (v ++ k) x others b k (subst (λ (ts : List Tok). length ts < m) regroup lt)
      (not_closed l (flags s) (u ++ (v ++ k)) (at_derived (f (flags s)) (l.element (flags s)) u x (v ++ k) some d))
      (ih (flags s) _ u x (v ++ k) d ends) some (λ n less. complete_each l ih b k ihg others (step s x) v rest n less))

pub complete : {A : Type 0} (f : Form A) → decides f ≡ true → (p : ℕ) (y : List Tok) (b : A) (k : List Tok) → Derives f y b → clear (goes_on f) k ≡ true → read_from f p (y ++ k) ≡ Ok (b, k)
complete (token xs) dec p y b k d c = rw (d.0, d.1) refl
complete (nothing a) dec p y b k d c = rw (d.0, d.1) refl
complete never dec p y b k d c = absurd d
complete (both f g) dec p y b k (u, v, q, df, dg) c =
    let m = and_true _ _ dec in
    let mm = and_true _ _ m.0 in
    let mg = and_true _ _ m.1 in
    let cg = (clear_union (goes_on g) _ k c).0 in
    let first = complete f mm.0 p u b.0 (v ++ k) df (clear_second (goes_on f) g mm.1 v b.1 k dg mg.1 c) in
    let second = complete g mm.1 p v b.1 k dg cg in
    rw (q, append_assoc) (rw (first, second) refl)
complete (on xs f g) dec p y b k d c =
    let m = and_true _ _ dec in
    let mm = and_true _ _ m.0 in
    let mq = and_true _ _ m.1 in
    let mo = and_true _ _ mq.1 in
    let cf = clear_union (goes_on f) _ k c in
    let cg = clear_union (goes_on g) _ k cf.1 in
    elim d [
      | inl x ↦ rw (at_only xs (begins f) (y ++ k) mo.0 (at_derived f mm.0 y b k (λ none. nonempty f y b (not_true _ mq.0) none x) x)) (complete f mm.0 p y b k x cf.0)
      | inr x ↦ rw (passed mm.1 mo.1 cg.1 y x) (complete g mm.1 p y b k x cg.0)
    ]
  where
    passed : decides g ≡ true → apart xs (begins g) ≡ true → clear (cond (empties g) xs []) k ≡ true → (y : List Tok) → Derives g y b → at xs (y ++ k) ≡ false
    passed dec off cl [] d = not_true _ (clear_chosen (empties g) xs k (empty_derived g [] b refl d) cl)
    passed dec off cl (t ∷ y) d = at_apart xs (begins g) (t ∷ y ++ k) off (first_derived g dec t y (t ∷ y) b refl d)
complete (made h f) dec p y b k (a, d, q) c = rw (complete f dec p y a k d c, q) refl
complete (left_out xs a) dec p y b k d c = absurd d
complete (past f) dec p y b k d c = absurd d
complete (many f) dec p y b k d c = absurd cc
complete (lines fl flags step f xs g s) dec p y b k d c =
    let l = list_parts fl flags step f xs g s dec in
    complete_each flags step f xs g p l (λ z n u a k. complete (f z) (l.element z) n u a k) b.1 k (λ v dg. complete g l.closing p v b.1 k dg c) b.0 s y d (suc (length (y ++ k))) (omega arith)
