-- Only the form of a log depends on values.
use Rattle.std.proofs.Common.{◌≡◌, ℕ, suc, ◌-◌, Bool, true, false, not, ◌&&◌, ◌||◌, eqb, ltb, List, [], ◌∷◌, map, length, refl, ap, ◌∙◌}
use Rattle.std.specs.Prelude.{Option, Some, None, if◌then◌else◌}
use Rattle.mu_base.specs.declared.order.Order.{Order}
use Rattle.mu_values.specs.declared.scalars.Scalar.{Scalar}
use Rattle.mu_values.specs.declared.scalars.Scalar.TheVariants.{Null}
use Rattle.mu_values.specs.declared.cells.CellId.{CellId}
use Rattle.mem_axioms.specs.Events.{is_fence, order_of, position_taken, position_of, modifies}
use Rattle.mem_axioms.specs.Logs.{any_event, each_event, least_event, each_where}
use Rattle.mem_axioms.specs.Synchronizes.{heads, released, released_to, fences, releases, synchronizes_by_release, synchronizes_by_stack, synchronizes_by_wake, makes_thread, gives_up, last_to_give_up}
use Rattle.mem_axioms.specs.HappensBefore.{precedes, happens_before}
use Rattle.mem_axioms.specs.Axioms.{is_coherent, is_seq_cst_ordered, reads_older, comes_first, is_or_fences, is_or_is_fenced, has_seq_cst}
use Rattle.mem_axioms.specs.Races.{may_race, races, race, is_race_free}
use Rattle.mem_axioms.specs.declared.types.Rule.{Rule}
use Rattle.mem_axioms.specs.declared.types.Mode.{Mode}
use Rattle.mem_axioms.specs.declared.types.Kind.{Kind}
use Rattle.mem_axioms.specs.declared.types.Kind.TheVariants as kinds
use Rattle.mem_axioms.specs.declared.types.Event.{Event}
use Rattle.verdicts.specs.Laws.{bare}

abbrev pub ev : ℕ → Kind → Event
ev t k = record { thread = t; kind = k }

abbrev pub Blind : {A : Type 0} → (Event → A) → Type 0
Blind {A} f = (t : ℕ) (m : Mode) (c : CellId) (o : Order) (p : ℕ) (v : Scalar) → f (ev t (kinds.Access m c o p Null)) ≡ f (ev t (kinds.Access m c o p v))

-- what does not depend on the value is the same of the bare event
pub blind : {A : Type 0} (f : Event → A) → Blind f → (e : Event) → f (bare e) ≡ f e
blind {A} f h e = go e.thread e.kind
  where
    go : (t : ℕ) (k : Kind) → f (bare (ev t k)) ≡ f (ev t k)
    go t (kinds.Access m c o p v) = h t m c o p v
    go t (kinds.Fence o) = refl
    go t (kinds.NewStack o) = refl
    go t (kinds.NewThread o) = refl
    go t (kinds.Leave o) = refl
    go t (kinds.Enter o) = refl
    go t (kinds.Wake c n) = refl
    go t (kinds.Woken o) = refl

-- ---- walks over logs

pub long : (log : List Event) → length (map bare log) ≡ length log
long [] = refl
long (e ∷ past) = ap suc (long past)

any-both : (test test' : ℕ → Event → Bool) (log : List Event) → ((k : ℕ) (e : Event) → test k (bare e) ≡ test' k e) → any_event test (map bare log) ≡ any_event test' log
any-both test test' [] h = refl
any-both test test' (e ∷ past) h = rw (long past, h (length past) e, any-both test test' past h) refl

each-both : (test test' : ℕ → Event → Bool) (log : List Event) → ((k : ℕ) (e : Event) → test k (bare e) ≡ test' k e) → each_event test (map bare log) ≡ each_event test' log
each-both test test' [] h = refl
each-both test test' (e ∷ past) h = rw (long past, h (length past) e, each-both test test' past h) refl

where-both : (which which' test test' : ℕ → Event → Bool) (log : List Event) → ((k : ℕ) (e : Event) → which k (bare e) ≡ which' k e) → ((k : ℕ) (e : Event) → test k (bare e) ≡ test' k e)
    → each_where which test (map bare log) ≡ each_where which' test' log
where-both which which' test test' log g h = each-both (λ i e. not (which i e) || test i e) (λ i e. not (which' i e) || test' i e) log (λ k e. rw (g k e, h k e) refl)

abbrev or_newest : Option ℕ → Bool → ℕ → Option ℕ
or_newest o b n = elim o [ Some i ↦ Some i | None ↦ if b then Some n else None ]

least-both : (test test' : ℕ → Event → Bool) (log : List Event) → ((k : ℕ) (e : Event) → test k (bare e) ≡ test' k e) → least_event test (map bare log) ≡ least_event test' log
least-both test test' [] h = refl
least-both test test' (e ∷ past) h = either (least_event test (map bare past)) (least_event test' past) (least-both test test' past h)
  where
    either : (o o' : Option ℕ) → o ≡ o' → or_newest o (test (length (map bare past)) (bare e)) (length (map bare past)) ≡ or_newest o' (test' (length past) e) (length past)
    either (Some i) o' q = rw (← q) refl
    either None o' q = rw (← q, long past, h (length past) e) refl

abbrev pick : Bool → Bool → Bool → Bool
pick b x y = elim b [ true ↦ x | false ↦ y ]

pick-same : (b x x' y y' : Bool) → x ≡ x' → y ≡ y' → pick b x y ≡ pick b x' y'
pick-same true x x' y y' p q = p
pick-same false x x' y y' p q = q

-- ---- happens-before

module _ (rule : Rule) where
  heads-bare : (log : List Event) (c : CellId) (p h : ℕ) (head : Event) → heads rule (map bare log) c p h (bare head) ≡ heads rule log c p h head
  heads-bare [] c p h head = refl
  heads-bare (e ∷ past) c p h head =
      blind (λ (x : Event). heads rule (x ∷ map bare past) c p h (bare head)) (λ t m d o q v. refl) e
      ∙ pick-same (modifies c e && eqb (position_of e) p) _ _ _ _ (rw (long past, heads-bare past c (p - 1) h head) refl) (heads-bare past c p h head)

  fences-bare : (i : ℕ) (ei : Event) (h : ℕ) (head : Event) → fences i (bare ei) h (bare head) ≡ fences i ei h head
  fences-bare i ei h head = blind (λ (x : Event). fences i x h head) (λ t m c o p v. refl) ei

  released-bare : (past : List Event) (c : CellId) (p i : ℕ) (ei : Event) → released rule (map bare past) c p i (bare ei) ≡ released rule past c p i ei
  released-bare past c p i ei =
      any-both (λ h head. heads rule (map bare past) c p h head && ((eqb i h && releases (order_of head)) || fences i (bare ei) h head))
      (λ h head. heads rule past c p h head && ((eqb i h && releases (order_of head)) || fences i ei h head)) past
      (λ h head. rw (heads-bare past c p h head, fences-bare i ei h head, blind order_of (λ t m c o p v. refl) head) refl)

  released_to-bare : (past : List Event) (e : Event) (i : ℕ) (ei : Event) → released_to rule (map bare past) (bare e) i (bare ei) ≡ released_to rule past e i ei
  released_to-bare past e i ei = blind (λ (x : Event). released_to rule (map bare past) x i (bare ei)) (λ t m c o p v. refl) e ∙ go e.thread e.kind
    where
      go : (t : ℕ) (k : Kind) → released_to rule (map bare past) (ev t k) i (bare ei) ≡ released_to rule past (ev t k) i ei
      go t (kinds.Access m c o p v) = rw (released-bare past c (position_taken (ev t (kinds.Access m c o p v))) i ei) refl
      go t (kinds.Fence o) = refl
      go t (kinds.NewStack o) = refl
      go t (kinds.NewThread o) = refl
      go t (kinds.Leave o) = refl
      go t (kinds.Enter o) = refl
      go t (kinds.Wake c n) = refl
      go t (kinds.Woken o) = refl

  last-bare : (past : List Event) (stack i : ℕ) → last_to_give_up (map bare past) stack i ≡ last_to_give_up past stack i
  last-bare [] stack i = refl
  last-bare (e ∷ past) stack i =
      blind (λ (x : Event). last_to_give_up (x ∷ map bare past) stack i) (λ t m c o p v. refl) e
      ∙ pick-same (gives_up stack e) _ _ _ _ (rw (long past) refl) (last-bare past stack i)

  stack-bare : (past : List Event) (i : ℕ) (e : Event) → synchronizes_by_stack (map bare past) i (bare e) ≡ synchronizes_by_stack past i e
  stack-bare past i e = blind (λ (x : Event). synchronizes_by_stack (map bare past) i x) (λ t m c o p v. refl) e ∙ go e.thread e.kind
    where
      go : (t : ℕ) (k : Kind) → synchronizes_by_stack (map bare past) i (ev t k) ≡ synchronizes_by_stack past i (ev t k)
      go t (kinds.Access m c o p v) = refl
      go t (kinds.Fence o) = refl
      go t (kinds.NewStack o) = refl
      go t (kinds.NewThread o) = refl
      go t (kinds.Leave o) = refl
      go t (kinds.Enter o) = last-bare past o i
      go t (kinds.Wake c n) = refl
      go t (kinds.Woken o) = refl

  release-bare : (past : List Event) (i : ℕ) (ei e : Event) → synchronizes_by_release rule (map bare past) i (bare ei) (bare e) ≡ synchronizes_by_release rule past i ei e
  release-bare past i ei e =
      rw (
        blind order_of (λ t m c o p v. refl) e,
        blind is_fence (λ t m c o p v. refl) e,
        released_to-bare past e i ei,
        any-both (λ r er. ltb i r && eqb er.thread e.thread && released_to rule (map bare past) er i (bare ei)) (λ r er. ltb i r && eqb er.thread e.thread && released_to rule past er i ei) past
            (λ r er. rw (released_to-bare past er i ei) refl),
      ) refl

  wake-bare : (i : ℕ) (ei e : Event) → synchronizes_by_wake i (bare ei) (bare e) ≡ synchronizes_by_wake i ei e
  wake-bare i ei e = blind (λ (x : Event). synchronizes_by_wake i x (bare e)) (λ t m c o p v. refl) ei ∙ blind (λ (x : Event). synchronizes_by_wake i ei x) (λ t m c o p v. refl) e

  precedes-bare : (past : List Event) (i : ℕ) (ei e : Event) → precedes rule (map bare past) i (bare ei) (bare e) ≡ precedes rule past i ei e
  precedes-bare past i ei e =
      rw (release-bare past i ei e, stack-bare past i e, wake-bare i ei e, blind (λ (x : Event). makes_thread e.thread x) (λ t m c o p v. refl) ei) refl

  abbrev last_step : List Event → Event → ℕ → ℕ → Event → Bool
  last_step past e i k ek = precedes rule past k ek e && (eqb k i || happens_before rule past i k)

  pub before-bare : (log : List Event) (i j : ℕ) → happens_before rule (map bare log) i j ≡ happens_before rule log i j
  unfolding happens_before
  before-bare [] i j = refl
  before-bare (e ∷ past) i j =
      rw (
        long past,
        any-both (last_step (map bare past) (bare e) i) (last_step past e i) past (λ k ek. rw (precedes-bare past k ek e, before-bare past i k) refl),
        before-bare past i j,
      ) refl

  -- ---- axioms and races

  older-bare : (ej ei : Event) → reads_older (bare ej) (bare ei) ≡ reads_older ej ei
  older-bare ej ei = blind (λ (x : Event). reads_older x (bare ei)) (λ t m c o p v. refl) ej ∙ blind (λ (x : Event). reads_older ej x) (λ t m c o p v. refl) ei

  first-bare : (ex ey : Event) → comes_first (bare ex) (bare ey) ≡ comes_first ex ey
  first-bare ex ey = blind (λ (x : Event). comes_first x (bare ey)) (λ t m c o p v. refl) ex ∙ blind (λ (y : Event). comes_first ex y) (λ t m c o p v. refl) ey

  pub coherent-bare : (log : List Event) → is_coherent rule (map bare log) ≡ is_coherent rule log
  unfolding is_coherent
  coherent-bare log =
      each-both (λ j ej. each_where (λ i ei. reads_older ej ei) (λ i ei. not (happens_before rule (map bare log) i j)) (map bare log))
      (λ j ej. each_where (λ i ei. reads_older ej ei) (λ i ei. not (happens_before rule log i j)) log) log
      (λ j ej. where-both (λ i ei. reads_older (bare ej) ei) (λ i ei. reads_older ej ei) (λ i ei. not (happens_before rule (map bare log) i j)) (λ i ei. not (happens_before rule log i j)) log
      (λ i ei. older-bare ej ei) (λ i ei. rw (before-bare log i j) refl))

  seq-bare : (b : ℕ) (eb : Event) → has_seq_cst b (bare eb) ≡ has_seq_cst b eb
  seq-bare b eb = blind (λ (x : Event). has_seq_cst b x) (λ t m c o p v. refl) eb

  fence-bare : (eb : Event) → is_fence (bare eb) ≡ is_fence eb
  fence-bare eb = blind is_fence (λ t m c o p v. refl) eb

  abbrev by_x : List Event → ℕ → Event → ℕ → Event → Bool
  by_x log b eb x ex = each_where (λ y ey. comes_first ex ey) (λ y ey. not (is_or_is_fenced rule log y b eb)) log

  abbrev by_b : List Event → ℕ → Event → ℕ → Event → Bool
  by_b log a ea b eb = each_where (λ x ex. is_or_fences rule log a ea x) (λ x ex. each_where (λ y ey. comes_first ex ey) (λ y ey. not (is_or_is_fenced rule log y b eb)) log) log

  abbrev by_a : List Event → ℕ → Event → Bool
  by_a log a ea = each_where (λ b eb. has_seq_cst b eb && not (ltb a b)) (λ b eb. each_where (λ x ex. is_or_fences rule log a ea x) (λ x ex. each_where (λ y ey. comes_first ex ey) (λ y ey. not (is_or_is_fenced rule log y b eb)) log) log) log

  pub ordered-bare : (log : List Event) → is_seq_cst_ordered rule (map bare log) ≡ is_seq_cst_ordered rule log
  unfolding is_seq_cst_ordered
  ordered-bare log =
      where-both has_seq_cst has_seq_cst (by_a (map bare log)) (by_a log) log seq-bare (λ a ea.
      where-both (λ b eb. has_seq_cst b eb && not (ltb a b)) (λ b eb. has_seq_cst b eb && not (ltb a b)) (by_b (map bare log) a (bare ea)) (by_b log a ea) log (λ b eb. rw (seq-bare b eb) refl) (λ b eb.
      where-both (λ x ex. is_or_fences rule (map bare log) a (bare ea) x) (λ x ex. is_or_fences rule log a ea x) (by_x (map bare log) b (bare eb)) (by_x log b eb) log (λ x ex. rw (fence-bare ea, before-bare log a x) refl) (λ x ex.
      where-both (λ y ey. comes_first (bare ex) ey) (λ y ey. comes_first ex ey) (λ y ey. not (is_or_is_fenced rule (map bare log) y b (bare eb))) (λ y ey. not (is_or_is_fenced rule log y b eb)) log
      (λ y ey. first-bare ex ey) (λ y ey. rw (fence-bare eb, before-bare log y b) refl))))

  may-bare : (ei e : Event) → may_race (bare ei) (bare e) ≡ may_race ei e
  may-bare ei e = blind (λ (x : Event). may_race x (bare e)) (λ t m c o p v. refl) ei ∙ blind (λ (x : Event). may_race ei x) (λ t m c o p v. refl) e

  race-bare : (past : List Event) (e : Event) → race rule (map bare past) (bare e) ≡ race rule past e
  unfolding race
  race-bare past e = least-both (races rule (map bare past) (bare e)) (races rule past e) past
      (λ i ei. rw (may-bare ei e, long past, before-bare (e ∷ past) i (length past)) refl)

  pub race_free-bare : (log : List Event) → is_race_free rule (map bare log) ≡ is_race_free rule log
  race_free-bare [] = refl
  race_free-bare (e ∷ past) = rw (race-bare past e, race_free-bare past) refl
