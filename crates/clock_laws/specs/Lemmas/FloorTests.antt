-- The floor by clocks.
use Rattle.std.proofs.Common.{◌≡◌, ℕ, ◌<◌, Bool, true, false, ◌&&◌, ltb, List, [], ◌∷◌, length, Some, refl, sym, ap, inl, inr, arith}
use Rattle.std.proofs.lemmas.Bool.{and_from, and_parts, false≢true, ltb-true, lt-ltb}
use Rattle.mu_base.specs.declared.order.Order.{Order}
use Rattle.mu_values.specs.declared.scalars.Scalar.{Scalar}
use Rattle.mu_values.specs.declared.cells.CellId.{CellId}
use Rattle.mem_axioms.specs.Events.{accesses, is_fence, is_seq_cst, is_seq_cst_fence}
use Rattle.mem_axioms.specs.Logs.{event_at, any_event, last_number, greatest_position}
use Rattle.mem_axioms.specs.HappensBefore.{happens_before}
use Rattle.mem_axioms.specs.Form.{has_form_by}
use Rattle.mem_axioms.specs.Floor.{is_known, seq_cst_limit, third_kind, raises_floor, floor}
use Rattle.mem_axioms.specs.declared.types.Event.{Event}
use Rattle.mem_axioms.specs.declared.types.Rule.{Rule}
use Rattle.mem_axioms.specs.declared.types.Kind.{Kind}
use Rattle.mem_axioms.specs.declared.types.Kind.TheVariants.{Access, Fence, NewStack, NewThread, Leave, Enter, Wake, Woken}
use Rattle.mem_axioms.specs.Lemmas.Numbers.{any-from, any-some, event-below, event-kept, event-newest, event-exists}
use Rattle.mem_axioms.specs.Lemmas.Floors.{last-is}
use Rattle.clock_laws.specs.Clocks.{Clock, views}
use Rattle.clock_laws.specs.ViewFloor.{known_access, view_limit, fences_knew, raises_view_floor, view_floor}
use Rattle.clock_laws.specs.Lemmas.Stands.{Stands, stands-ext}
use Rattle.clock_laws.specs.Lemmas.Tests.{same-test, known-test}
use Rattle.clock_laws.specs.Lemmas.SeqCstFences.{Joined, CorrectFences, fences-correct}

-- tests that are equal at each event
pub greatest-same : (test test' : ℕ → Event → Bool) (log : List Event) → ((i : ℕ) (e : Event) → event_at log i ≡ Some e → test i e ≡ test' i e) → greatest_position test log ≡ greatest_position test' log
greatest-same test test' [] h = refl
greatest-same test test' (e ∷ past) h = rw (h (length past) e (event-newest e past), greatest-same test test' past (λ i ei at. h i ei (event-kept e past i ei at))) refl

pub last-same : (test test' : ℕ → Event → Bool) (log : List Event) → ((i : ℕ) (e : Event) → event_at log i ≡ Some e → test i e ≡ test' i e) → last_number test log ≡ last_number test' log
last-same test test' [] h = refl
last-same test test' (e ∷ past) h = rw (h (length past) e (event-newest e past), last-same test test' past (λ i ei at. h i ei (event-kept e past i ei at))) refl

-- a fence accesses no cell
no-access-kind : (t : ℕ) (k : Kind) (c : CellId) → is_fence (record { thread = t; kind = k }) ≡ true → accesses c (record { thread = t; kind = k }) ≡ true → ⊥
no-access-kind t (Access m cell o q x) c f a = false≢true f
no-access-kind t (Fence o) c f a = false≢true a
no-access-kind t (NewStack o) c f a = false≢true a
no-access-kind t (NewThread o) c f a = false≢true a
no-access-kind t (Leave o) c f a = false≢true a
no-access-kind t (Enter o) c f a = false≢true a
no-access-kind t (Wake o n) c f a = false≢true a
no-access-kind t (Woken o) c f a = false≢true a

pub fence-no-access : (e : Event) (c : CellId) → is_fence e ≡ true → accesses c e ≡ true → ⊥
fence-no-access e c = no-access-kind e.thread e.kind c

module _ (rule : Rule) (right : List Event → CellId → ℕ → Scalar → Bool) (log : List Event) (form : has_form_by right log ≡ true) where
  limit-same : (t : ℕ) (o : Order) → view_limit (views rule log) log t o ≡ seq_cst_limit rule log t o
  limit-same t o = go (is_seq_cst o) refl
    where
      go : (b : Bool) → is_seq_cst o ≡ b → view_limit (views rule log) log t o ≡ seq_cst_limit rule log t o
      go true p = rw p refl
      go false p = rw p (last-same _ _ log (λ a ea at. ap (λ b. is_seq_cst_fence ea && b) (sym (known-test rule right log form t a ea at))))

  -- the fences before the limit
  pub fences-stand : (t : ℕ) (o : Order) (y : ℕ) (ey : Event) → event_at log y ≡ Some ey → Stands log (Joined rule log (seq_cst_limit rule log t o)) (fences_knew (views rule log) (seq_cst_limit rule log t o) o)
  fences-stand t o y ey at = go (is_seq_cst o) refl
    where
      fences : CorrectFences rule log (views rule log)
      fences = fences-correct rule right log form

      test : ℕ → Event → Bool
      test a ea = is_seq_cst_fence ea && is_known rule log t a

      below : last_number test log < length log
      below = elim (last-is test log) [ inl z ↦ (let l = event-below log y ey at in omega (arith, z)) | inr z ↦ (let l = event-below log z.0 z.1 z.2 in omega (arith, z.4)) ]

      go : (b : Bool) → is_seq_cst o ≡ b → Stands log (Joined rule log (seq_cst_limit rule log t o)) (fences_knew (views rule log) (seq_cst_limit rule log t o) o)
      go true p = rw p (stands-ext log _ (views rule log).joined _ (λ u. rw p refl) fences.of_joined)
      go false p = let x = event-exists log (last_number test log) below in rw p (stands-ext log _ ((views rule log).before (last_number test log)) _ (λ u. rw p refl) (fences.of_before (last_number test log) x.0 x.1))

  -- the third kind
  third-same : (t : ℕ) (c : CellId) (o : Order) (y : ℕ) (ey : Event) → event_at log y ≡ Some ey → known_access (fences_knew (views rule log) (seq_cst_limit rule log t o) o) c y ey ≡ third_kind rule log (seq_cst_limit rule log t o) c y ey
  third-same t c o y ey at = go (accesses c ey) refl
    where
      limit : ℕ
      limit = seq_cst_limit rule log t o

      test : ℕ → Event → Bool
      test b eb = is_seq_cst_fence eb && ltb b (seq_cst_limit rule log t o) && happens_before rule log y b

      clock : Clock
      clock = fences_knew (views rule log) (seq_cst_limit rule log t o) o

      joined : (any_event test log ≡ true) → Joined rule log (seq_cst_limit rule log t o) y
      joined h =
          let s = any-some test log h in
          let p = and_parts (is_seq_cst_fence s.1 && ltb s.0 (seq_cst_limit rule log t o)) _ s.3 in
          let q = and_parts (is_seq_cst_fence s.1) _ p.0 in
          record { b = s.0; eb = s.1; at_b = s.2; fence = q.0; less = ltb-true s.0 (seq_cst_limit rule log t o) q.1; rest = inr p.1 }

      some : accesses c ey ≡ true → Joined rule log (seq_cst_limit rule log t o) y → any_event test log ≡ true
      some a x = elim x.rest [
        | inl q ↦ (let z : event_at log y ≡ Some x.eb = rw q x.at_b in let same : x.eb ≡ ey = cc in absurd (fence-no-access ey c (rw same at (and_parts (is_fence x.eb) _ x.fence).0) a))
        | inr q ↦ any-from test log x.b x.eb x.at_b (and_from (is_seq_cst_fence x.eb && ltb x.b (seq_cst_limit rule log t o)) _ (and_from (is_seq_cst_fence x.eb) _ x.fence (lt-ltb x.b (seq_cst_limit rule log t o) x.less)) q)
      ]

      go : (b : Bool) → accesses c ey ≡ b → known_access (fences_knew (views rule log) (seq_cst_limit rule log t o) o) c y ey ≡ third_kind rule log (seq_cst_limit rule log t o) c y ey
      go false p = rw p refl
      go true p = rw p (same-test _ _
          (λ h. some p (((fences-stand t o y ey at).exact y ey at).1 (ltb-true y (clock ey.thread) h)))
          (λ h. lt-ltb y (clock ey.thread) (((fences-stand t o y ey at).exact y ey at).0 (joined h))))

  pub view_floor-is : (t : ℕ) (c : CellId) (o : Order) → view_floor rule log t c o ≡ floor rule log t c o
  unfolding view_floor floor
  view_floor-is t c o = rw (limit-same t o) (greatest-same (raises_view_floor (views rule log) (seq_cst_limit rule log t o) t c o) (raises_floor rule log (seq_cst_limit rule log t o) t c) log (λ y ey at.
      rw (third-same t c o y ey at, known-test rule right log form t y ey at) refl))
