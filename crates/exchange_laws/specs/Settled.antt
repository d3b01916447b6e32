-- Moves that are a turn with the local steps of its thread after it may be exchanged where their turns may.
use Rattle.std.proofs.Common.{◌≡◌, Option, Some, None, refl, sym, ap, subst, ◌∙◌}
use Rattle.std.specs.Prelude.{option_map}

module _ {S L T : Type 0} (turn : S → L → S) (thread : L → T) (local : T → S → Option S) (Like : S → S → Type 0) where
  -- the local steps of a thread, one after the other, until it has none
  pub data Settles (t : T) : S → S → Type 0 where
    done : {s : S} → local t s ≡ None → Settles t s s
    more : {s r z : S} → local t s ≡ Some r → Settles t r z → Settles t s z

  -- what is asked of local steps
  pub record Locals : Type 0 where
    -- another thread's turn leaves them
    pub turns : (t : T) (a : L) (s : S) → (t ≡ thread a → ⊥) → local t (turn s a) ≡ option_map (λ r. turn r a) (local t s)
    -- and so do another thread's local steps
    pub none : (t u : T) (s r : S) → (t ≡ u → ⊥) → local t s ≡ Some r → local u s ≡ None → local u r ≡ None
    pub both : (t u : T) (s r q : S) → (t ≡ u → ⊥) → local t s ≡ Some r → local u s ≡ Some q → (z : S) × (local u r ≡ Some z) × (local t q ≡ Some z)
    -- states that are alike have the same
    pub alike_none : (t : T) (s r : S) → Like s r → local t s ≡ None → local t r ≡ None
    pub alike_some : (t : T) (s r z : S) → Like s r → local t s ≡ Some z → (y : S) × (local t r ≡ Some y) × Like z y

  module _ (h : Locals) where
    -- a turn over the local steps of another thread
    over : (t : T) (a : L) (s z : S) → (t ≡ thread a → ⊥) → Settles t s z → Settles t (turn s a) (turn z a)
    over t a s z n (done p) = done (h.turns t a s n ∙ ap (option_map (λ (r : S). turn r a)) p)
    over t a s z n (more {r = r} p q) = more (h.turns t a s n ∙ ap (option_map (λ (r : S). turn r a)) p) (over t a r z n q)

    under : (t : T) (a : L) (x y : S) → (t ≡ thread a → ⊥) → Settles t x y → (s : S) → x ≡ turn s a → (z : S) × Settles t s z × (y ≡ turn z a)
    under t a x y n (done p) s e = go (local t s) refl
      where
        go : (o : Option S) → local t s ≡ o → (z : S) × Settles t s z × (x ≡ turn z a)
        go None q = (s, done q, e)
        go (Some r) q = let k = h.turns t a s n in let l : option_map (λ (r : S). turn r a) (local t s) ≡ Some (turn r a) = ap (option_map (λ (r : S). turn r a)) q in let m = ap (local t) e in absurd (cc)
    under t a x y n (more {r = x'} p w) s e = go (λ s' e'. under t a x' y n w s' e') (local t s) refl
      where
        go : ((s' : S) → x' ≡ turn s' a → (z : S) × Settles t s' z × (y ≡ turn z a)) → (o : Option S) → local t s ≡ o → (z : S) × Settles t s z × (y ≡ turn z a)
        go ih None q = let k = h.turns t a s n in let l : option_map (λ (r : S). turn r a) (local t s) ≡ None = ap (option_map (λ (r : S). turn r a)) q in let m = ap (local t) e in absurd (cc)
        go ih (Some r) q =
            let k = h.turns t a s n in
            let l : option_map (λ (r : S). turn r a) (local t s) ≡ Some (turn r a) = ap (option_map (λ (r : S). turn r a)) q in
            let m = ap (local t) e in
            let e' : x' ≡ turn r a = cc in
            let g = ih r e' in
            (g.0, more q g.1, g.2)

    -- a thread that has no local step has none after those of another
    still-none : (t u : T) (s z : S) → (t ≡ u → ⊥) → local u s ≡ None → Settles t s z → local u z ≡ None
    still-none t u s z n p (done q) = p
    still-none t u s z n p (more {r = r} q w) = still-none t u r z n (h.none t u s r n q p) w

    -- one local step of t before all of u may come after them
    step-behind : (t u : T) (x x' q' : S) → (t ≡ u → ⊥) → local t x ≡ Some x' → Settles u x' q' → (q : S) × Settles u x q × (local t q ≡ Some q')
    step-behind t u x x' q' n p (done r) = go (local u x) refl
      where
        go : (o : Option S) → local u x ≡ o → (q : S) × Settles u x q × (local t q ≡ Some x')
        go None k = (x, done k, p)
        go (Some y) k = let b = h.both t u x x' y n p k in let c = b.1 in absurd (cc)
    step-behind t u x x' q' n p (more {r = x2} r w) = go (λ y k. step-behind t u y x2 q' n k w) (local u x) refl
      where
        go : ((y : S) → local t y ≡ Some x2 → (q : S) × Settles u y q × (local t q ≡ Some q')) → (o : Option S) → local u x ≡ o → (q : S) × Settles u x q × (local t q ≡ Some q')
        go ih None k = let c = h.none t u x x' n p k in absurd (cc)
        go ih (Some y) k =
            let b = h.both t u x x' y n p k in
            let c = b.1 in
            let e : b.0 ≡ x2 = cc in
            let g = ih y (b.2 ∙ ap (λ (z : S). Some z) e) in
            (g.0, more k g.1, g.2)

    all-behind : (t u : T) (x y z : S) → (t ≡ u → ⊥) → Settles t x y → Settles u y z → (q : S) × Settles u x q × Settles t q z
    all-behind t u x y z n (done p) w = (z, w, done (still-none u t x z (λ e. n (sym e)) p w))
    all-behind t u x y z n (more {r = r} p v) w =
        let g = all-behind t u r y z n v w in
        let k = step-behind t u x r g.0 n p g.1 in
        (k.0, k.1, more k.2 g.2)

    settles-alike : (t : T) (s r z : S) → Like s r → Settles t s z → (y : S) × Settles t r y × Like z y
    settles-alike t s r z l (done p) = (r, done (h.alike_none t s r l p), l)
    settles-alike t s r z l (more {r = x} p w) =
        let k = h.alike_some t s r x l p in
        let g = settles-alike t x k.0 z k.2 w in
        (g.0, more k.1 g.1, g.2)

    -- The diamond of moves, from the diamond of their turns.
    pub moves-exchange : (s : S) (a b : L) (s1 s2 : S) → (thread a ≡ thread b → ⊥) → Settles (thread a) (turn s a) s1 → Settles (thread b) (turn s1 b) s2 → Like (turn (turn s a) b) (turn (turn s b) a)
        → (t1 t2 : S) × Settles (thread b) (turn s b) t1 × Settles (thread a) (turn t1 a) t2 × Like s2 t2
    moves-exchange s a b s1 s2 n p q l =
        let x = over (thread a) b (turn s a) s1 n p in
        let y = all-behind (thread a) (thread b) (turn (turn s a) b) (turn s1 b) s2 n x q in
        let z = settles-alike (thread b) (turn (turn s a) b) (turn (turn s b) a) y.0 l y.1 in
        let w = settles-alike (thread a) y.0 z.0 s2 z.2 y.2 in
        let v = under (thread b) a (turn (turn s b) a) z.0 (λ e. n (sym e)) z.1 (turn s b) refl in
        let P : S → Type 0 = λ (r : S). Settles (thread a) r w.0 in
        (v.0, w.0, v.1, subst P v.2 w.1, w.2)
