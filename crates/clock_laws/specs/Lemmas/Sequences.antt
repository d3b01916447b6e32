-- Release sequences with one more event.
use Rattle.std.proofs.Common.{◌≡◌, ℕ, ◌-◌, ◌<◌, Bool, true, false, cond, ◌&&◌, ◌||◌, eqb, List, ◌∷◌, length, Some, refl, sym, ap, subst, ◌∙◌, inl, inr, ◌⊎◌, arith}
use Rattle.std.specs.Prelude.{max}
use Rattle.std.proofs.lemmas.Bool.{eq-eqb, eqb-true, or_cases, or_left, or_right, and_from, and_parts, false≢true}
use Rattle.mu_values.specs.declared.cells.CellId.{CellId}
use Rattle.mem_axioms.specs.Events.{is_atomic, position_of, modifies, is_fence, is_update, order_of}
use Rattle.mem_axioms.specs.Logs.{event_at}
use Rattle.mem_axioms.specs.Synchronizes.{heads, continues, releases}
use Rattle.mem_axioms.specs.declared.types.Event.{Event}
use Rattle.mem_axioms.specs.declared.types.Rule.{Rule}
use Rattle.mem_axioms.specs.declared.types.Rule.TheVariants.{C11, Rmw}
use Rattle.mem_axioms.specs.Lemmas.Numbers.{event-below, event-kept, event-older, event-newest}
use Rattle.mem_axioms.specs.Lemmas.Steps.{step-newest}
use Rattle.mem_axioms.specs.Lemmas.Positions.{heads-below}
use Rattle.clock_laws.specs.Clocks.{Clock, Views, knows, gives}
use Rattle.clock_laws.specs.Lemmas.Stands.{Stands, Upto, upto-less, upto-older, stands-none, stands-same, stands-or, stands-if, stands-older}
use Rattle.clock_laws.specs.Lemmas.ClockTest.{Frees, Sent, SentBy, Fenced}

-- a write that goes on a sequence and is no update goes on those of its own thread alone
goes-own : (rule : Rule) (e : Event) (t : ℕ) → is_update e ≡ false → continues rule e t ≡ true → e.thread ≡ t
goes-own C11 e t x h = elim (or_cases (is_update e) _ h) [ inl z ↦ absurd (false≢true (sym x ∙ z)) | inr z ↦ eqb-true e.thread t (and_parts (is_atomic (order_of e)) _ z).1 ]
goes-own Rmw e t x h = elim (or_cases (is_update e) false h) [ inl z ↦ absurd (false≢true (sym x ∙ z)) | inr z ↦ absurd (false≢true z) ]

continues-at : (rule : Rule) (e : Event) (t t' : ℕ) → t ≡ t' → continues rule e t ≡ true → continues rule e t' ≡ true
continues-at rule e t t' p h = let P : ℕ → Type 0 = λ n. continues rule e n ≡ true in subst P p h

module _ (rule : Rule) where
  -- what a new head gives
  pub record Own (e : Event) (past : List Event) (i : ℕ) : Type 0 where
    pub k : ℕ
    pub ek : Event
    pub atomic : is_atomic (order_of e) ≡ true
    pub at_k : event_at (e ∷ past) k ≡ Some ek
    pub frees : Frees k ek (length past) e
    pub rest : Upto rule (e ∷ past) k i

module _ (rule : Rule) (e : Event) (past : List Event) where
  pub sequenced : (k i : ℕ) (ek : Event) → event_at past k ≡ Some ek → ek.thread ≡ e.thread → Upto rule past k i → Upto rule (e ∷ past) (length past) i
  sequenced k i ek at q u = inr (step-newest rule e past i (record { k = k; ek = ek; there = at; edge = or_left (eqb ek.thread e.thread) _ (eq-eqb ek.thread e.thread q); rest = elim u [ inl p ↦ inl (sym p) | inr p ↦ inr p ] }))

  pub older-at : (i : ℕ) (ei : Event) → event_at (e ∷ past) i ≡ Some ei → i < length past → event_at past i ≡ Some ei
  older-at i ei h l = sym (event-older e past i l) ∙ h

  fenced-older : (t : ℕ) (K : Clock) → Stands past (Fenced rule past t) K → Stands (e ∷ past) (Fenced rule past t) K
  fenced-older t K s = stands-older e past (Fenced rule past t) (Fenced rule past t) K (λ i l. (λ x. x, λ x. x)) (λ x. (let a = event-below past x.k x.ek x.at_k in let b = upto-less rule past x.k (length past) x.rest in omega arith)) s

  fenced-is : (i : ℕ) → Fenced rule past e.thread i → is_atomic (order_of e) ≡ true → Own rule e past i
  fenced-is i x p = let l = event-below past x.k x.ek x.at_k in record { k = x.k; ek = x.ek; atomic = p; at_k = event-kept e past x.k x.ek x.at_k; frees = inr (l, x.of_thread, x.fence, x.release); rest = (upto-older rule e past x.k i l).1 x.rest }

  -- a fence among what a head gives
  own-fenced : (i : ℕ) (x : Own rule e past i) → (x.k < length past) × (x.ek.thread ≡ e.thread) × (is_fence x.ek ≡ true) × (releases (order_of x.ek) ≡ true) → Fenced rule past e.thread i
  own-fenced i x f = record { k = x.k; ek = x.ek; at_k = older-at x.k x.ek x.at_k f.0; of_thread = f.1; fence = f.2; release = f.3; rest = (upto-older rule e past x.k i f.0).0 x.rest }

  pub own-stands : (v : Views) → Stands (e ∷ past) (Upto rule (e ∷ past) (length past)) (knows v (length past) e) → Stands past (Fenced rule past e.thread) (v.fenced e.thread) → Stands (e ∷ past) (Own rule e past) (gives v (length past) e)
  own-stands v own fen = go (is_atomic (order_of e)) refl (releases (order_of e)) refl
    where
      go : (a : Bool) → is_atomic (order_of e) ≡ a → (r : Bool) → releases (order_of e) ≡ r → Stands (e ∷ past) (Own rule e past) (gives v (length past) e)
      go false p r q = rw (p, gives) (stands-none (e ∷ past) _ (λ i x. false≢true (sym p ∙ x.atomic)))
      go true p true q = rw (p, gives) (rw q (stands-same (e ∷ past) (Upto rule (e ∷ past) (length past)) _ _ (λ i ei at. (
        λ x. elim x.frees [
          | inl f ↦ (rw f.0 at x.rest)
          | inr f ↦ (let z = own-fenced i x f in sequenced z.k i z.ek z.at_k z.of_thread z.rest)
        ],
        λ u. record { k = length past; ek = e; atomic = p; at_k = event-newest e past; frees = inl (refl, q); rest = u },
      )) own))
      go true p false q = rw (p, gives) (rw q (stands-same (e ∷ past) (Fenced rule past e.thread) _ _ (λ i ei at. (
        λ x. elim x.frees [ inl f ↦ absurd (false≢true (sym q ∙ f.1)) | inr f ↦ own-fenced i x f ],
        λ u. fenced-is i u p,
      )) (fenced-older e.thread (v.fenced e.thread) fen)))

  -- positions that the event does not make have the heads that they had
  pub heads-same : (c : CellId) (q h : ℕ) (head : Event) → (modifies c e && eqb (position_of e) q) ≡ false → heads rule (e ∷ past) c q h head ≡ heads rule past c q h head
  heads-same c q h head p = rw (p, heads)

  sent-older : (c : CellId) (q i : ℕ) → (modifies c e && eqb (position_of e) q) ≡ false → (s : Sent rule (e ∷ past) c q i) → (t : Sent rule past c q i) × (t.head ≡ s.head)
  sent-older c q i p s = (record { k = s.k; ek = s.ek; h = s.h; head = s.head; at_k = older-at s.k s.ek s.at_k kl; at_h = older-at s.h s.head s.at_h hl; heads_it = hs; frees = s.frees; rest = (upto-older rule e past s.k i kl).0 s.rest }, refl)
    where
      hs : heads rule past c q s.h s.head ≡ true
      hs = sym (heads-same c q s.h s.head p) ∙ s.heads_it

      hl : s.h < length past
      hl = heads-below rule past c q s.h s.head hs

      kl : s.k < length past
      kl = let l = hl in elim s.frees [ inl x ↦ omega (arith, l, x.0) | inr x ↦ omega (arith, l, x.0) ]

  sent-kept : (c : CellId) (q i : ℕ) → (modifies c e && eqb (position_of e) q) ≡ false → (s : Sent rule past c q i) → (t : Sent rule (e ∷ past) c q i) × (t.head ≡ s.head)
  sent-kept c q i p s = (
    record {
      k = s.k;
      ek = s.ek;
      h = s.h;
      head = s.head;
      at_k = event-kept e past s.k s.ek s.at_k;
      at_h = event-kept e past s.h s.head s.at_h;
      heads_it = heads-same c q s.h s.head p ∙ s.heads_it;
      frees = s.frees;
      rest = (upto-older rule e past s.k i (event-below past s.k s.ek s.at_k)).1 s.rest;
    },
    refl,
  )

  -- no event as late as that
  sent-less : (c : CellId) (q i : ℕ) → Sent rule past c q i → i < length past
  sent-less c q i s = let a = event-below past s.k s.ek s.at_k in let b = upto-less rule past s.k i s.rest in omega arith

  pub sent-same : (c : CellId) (q : ℕ) (K : Clock) → (modifies c e && eqb (position_of e) q) ≡ false → Stands past (Sent rule past c q) K → Stands (e ∷ past) (Sent rule (e ∷ past) c q) K
  sent-same c q K p s = stands-older e past (Sent rule past c q) _ K (λ i l. (λ x. (sent-older c q i p x).0, λ x. (sent-kept c q i p x).0)) (λ x. let l = sent-less c q (length past) (sent-older c q (length past) p x).0 in omega arith) s

  pub sent_by-same : (c : CellId) (q u : ℕ) (K : Clock) → (modifies c e && eqb (position_of e) q) ≡ false → Stands past (SentBy rule past c q u) K → Stands (e ∷ past) (SentBy rule (e ∷ past) c q u) K
  sent_by-same c q u K p s = stands-older e past (SentBy rule past c q u) _ K
      (λ i l. (λ x. (let y = sent-older c q i p x.0 in (y.0, ap (λ (z : Event). z.thread) y.1 ∙ x.1)), λ x. (let y = sent-kept c q i p x.0 in (y.0, ap (λ (z : Event). z.thread) y.1 ∙ x.1))))
      (λ x. let l = sent-less c q (length past) (sent-older c q (length past) p x.0).0 in omega arith) s

  -- a write or update stores the next position: its heads are itself, where it is atomic, and those that it continues
  heads-new : (c : CellId) (q h : ℕ) (head : Event) → (modifies c e && eqb (position_of e) q) ≡ true → heads rule (e ∷ past) c q h head ≡ ((is_atomic (order_of e) && eqb h (length past)) || (continues rule e head.thread && heads rule past c (q - 1) h head))
  heads-new c q h head p = rw (p, heads)

  -- those of the position before that go on
  abbrev pub Goes : CellId → ℕ → ℕ → Type 0
  Goes c q i = (s : Sent rule past c q i) × (continues rule e s.head.thread ≡ true)

  sent-parts : (c : CellId) (q i : ℕ) → (modifies c e && eqb (position_of e) q) ≡ true → (s : Sent rule (e ∷ past) c q i) → (Own rule e past i × (s.head ≡ e)) ⊎ ((t : Sent rule past c (q - 1) i) × (continues rule e t.head.thread ≡ true) × (t.head ≡ s.head))
  sent-parts c q i p s = elim (or_cases (is_atomic (order_of e) && eqb s.h (length past)) _ (sym (heads-new c q s.h s.head p) ∙ s.heads_it)) [
    | inl x ↦ (let y = and_parts (is_atomic (order_of e)) _ x in
        let z = eqb-true s.h (length past) y.1 in
        let w : event_at (e ∷ past) (length past) ≡ Some s.head = rw z at s.at_h in
        let n = event-newest e past in
        let same : s.head ≡ e = cc in
        inl (record { k = s.k; ek = s.ek; atomic = y.0; at_k = s.at_k; frees = rw (z, same) at s.frees; rest = s.rest }, same))
    | inr x ↦ (let y = and_parts (continues rule e s.head.thread) _ x in
        let hl = heads-below rule past c (q - 1) s.h s.head y.1 in
        let kl : s.k < length past = elim s.frees [ inl f ↦ omega (arith, hl, f.0) | inr f ↦ omega (arith, hl, f.0) ] in
        inr (record { k = s.k; ek = s.ek; h = s.h; head = s.head; at_k = older-at s.k s.ek s.at_k kl; at_h = older-at s.h s.head s.at_h hl; heads_it = y.1; frees = s.frees; rest = (upto-older rule e past s.k i kl).0 s.rest }, y.0, refl))
  ]

  sent-own : (c : CellId) (q i : ℕ) → (modifies c e && eqb (position_of e) q) ≡ true → Own rule e past i → (s : Sent rule (e ∷ past) c q i) × (s.head ≡ e)
  sent-own c q i p x = (
    record {
      k = x.k;
      ek = x.ek;
      h = length past;
      head = e;
      at_k = x.at_k;
      at_h = event-newest e past;
      frees = x.frees;
      rest = x.rest;
      heads_it = heads-new c q (length past) e p ∙ or_left (is_atomic (order_of e) && eqb (length past) (length past)) _ (and_from (is_atomic (order_of e)) _ x.atomic (eq-eqb (length past) (length past) refl));
    },
    refl,
  )

  sent-goes : (c : CellId) (q i : ℕ) → (modifies c e && eqb (position_of e) q) ≡ true → (s : Sent rule past c (q - 1) i) → continues rule e s.head.thread ≡ true → (t : Sent rule (e ∷ past) c q i) × (t.head ≡ s.head)
  sent-goes c q i p s g = (
    record {
      k = s.k;
      ek = s.ek;
      h = s.h;
      head = s.head;
      at_k = event-kept e past s.k s.ek s.at_k;
      at_h = event-kept e past s.h s.head s.at_h;
      frees = s.frees;
      rest = (upto-older rule e past s.k i (event-below past s.k s.ek s.at_k)).1 s.rest;
      heads_it = heads-new c q s.h s.head p ∙ or_right (is_atomic (order_of e) && eqb s.h (length past)) _ (and_from (continues rule e s.head.thread) _ g s.heads_it);
    },
    refl,
  )

  -- the clocks of the position that a write or update stores
  pub sequence-new : (v : Views) (c : CellId) (q u : ℕ) → (modifies c e && eqb (position_of e) q) ≡ true → Stands (e ∷ past) (Own rule e past) (gives v (length past) e)
      → Stands past (SentBy rule past c (q - 1) u) (v.sequence c u)
      → Stands (e ∷ past) (SentBy rule (e ∷ past) c q u) (λ w. max (cond (eqb u e.thread) (gives v (length past) e w) 0) (cond (continues rule e u) (v.sequence c u w) 0))
  sequence-new v c q u p own seq = stands-same (e ∷ past) (λ i. ((eqb u e.thread ≡ true) × Own rule e past i) ⊎ ((continues rule e u ≡ true) × SentBy rule past c (q - 1) u i)) _ _ (λ i ei at. (there i, back i))
      (stands-or (e ∷ past) _ _ _ _ (stands-if (e ∷ past) (eqb u e.thread) (Own rule e past) _ own) (stands-if (e ∷ past) (continues rule e u) (SentBy rule past c (q - 1) u) _ older))
    where
      older : Stands (e ∷ past) (SentBy rule past c (q - 1) u) (v.sequence c u)
      older = stands-older e past (SentBy rule past c (q - 1) u) _ (v.sequence c u) (λ i l. (λ x. x, λ x. x)) (λ x. let l = sent-less c (q - 1) (length past) x.0 in omega arith) seq

      there : (i : ℕ) → SentBy rule (e ∷ past) c q u i → ((eqb u e.thread ≡ true) × Own rule e past i) ⊎ ((continues rule e u ≡ true) × SentBy rule past c (q - 1) u i)
      there i s = elim (sent-parts c q i p s.0) [
        | inl x ↦ inl (eq-eqb u e.thread (sym s.1 ∙ ap (λ (z : Event). z.thread) x.1), x.0)
        | inr x ↦ (let y : x.0.head.thread ≡ u = ap (λ (z : Event). z.thread) x.2 ∙ s.1 in inr (continues-at rule e x.0.head.thread u y x.1, (x.0, y)))
      ]

      back : (i : ℕ) → ((eqb u e.thread ≡ true) × Own rule e past i) ⊎ ((continues rule e u ≡ true) × SentBy rule past c (q - 1) u i) → SentBy rule (e ∷ past) c q u i
      back i (inl x) = let y = sent-own c q i p x.1 in (y.0, ap (λ (z : Event). z.thread) y.1 ∙ sym (eqb-true u e.thread x.0))
      back i (inr x) = let y = sent-goes c q i p x.1.0 (continues-at rule e u x.1.0.head.thread (sym x.1.1) x.0) in (y.0, ap (λ (z : Event). z.thread) y.1 ∙ x.1.1)

  pub released-new : (v : Views) (c : CellId) (q : ℕ) → (modifies c e && eqb (position_of e) q) ≡ true → Stands (e ∷ past) (Own rule e past) (gives v (length past) e)
      → Stands past (Sent rule past c (q - 1)) (v.released c (q - 1)) → Stands past (SentBy rule past c (q - 1) e.thread) (v.sequence c e.thread)
      → Stands (e ∷ past) (Sent rule (e ∷ past) c q) (λ w. max (gives v (length past) e w) (cond (is_update e) (v.released c (q - 1) w) (cond (continues rule e e.thread) (v.sequence c e.thread w) 0)))
  released-new v c q p own rel seq = stands-same (e ∷ past) (λ i. Own rule e past i ⊎ Goes c (q - 1) i) _ _ (λ i ei at. (
    λ s. elim (sent-parts c q i p s) [ inl x ↦ inl x.0 | inr x ↦ inr (x.0, x.1) ],
    λ x. elim x [ inl o ↦ (sent-own c q i p o).0 | inr g ↦ (sent-goes c q i p g.0 g.1).0 ],
  ))
      (stands-or (e ∷ past) _ _ _ _ own (goes (is_update e) refl (continues rule e e.thread) refl))
    where
      goes : (a : Bool) → is_update e ≡ a → (b : Bool) → continues rule e e.thread ≡ b → Stands (e ∷ past) (Goes c (q - 1)) (λ w. cond (is_update e) (v.released c (q - 1) w) (cond (continues rule e e.thread) (v.sequence c e.thread w) 0))
      goes true x b y = rw x (stands-older e past (Sent rule past c (q - 1)) _ _ (λ i l. (λ g. g.0, λ s. (s, or_left (is_update e) _ x))) (λ g. let l = sent-less c (q - 1) (length past) g.0 in omega arith) rel)
      goes false x true y = rw (y, x) (stands-older e past (SentBy rule past c (q - 1) e.thread) _ _ (λ i l. (
        λ g. (g.0, sym (goes-own rule e g.0.head.thread x g.1)),
        λ s. (s.0, continues-at rule e e.thread s.0.head.thread (sym s.1) y),
      ))
          (λ g. let l = sent-less c (q - 1) (length past) g.0 in omega arith) seq)
      goes false x false y = rw (y, x) (stands-none (e ∷ past) (Goes c (q - 1)) (λ i g. false≢true (sym y ∙ continues-at rule e g.0.head.thread e.thread (sym (goes-own rule e g.0.head.thread x g.1)) g.1)))
