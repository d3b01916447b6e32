-- Clock tests.
use Rattle.std.proofs.Common.{◌≡◌, ℕ, Bool, true, false, ◌&&◌, ltb, List, [], ◌∷◌, length, Some, refl, sym, inl, inr, arith}
use Rattle.std.proofs.lemmas.Bool.{ne_eqb, eq-eqb, eqb-true, and_from, and_parts, false≢true, ltb-true, lt-ltb}
use Rattle.mu_values.specs.declared.scalars.Scalar.{Scalar}
use Rattle.mu_values.specs.declared.cells.CellId.{CellId}
use Rattle.mem_axioms.specs.Logs.{event_at}
use Rattle.mem_axioms.specs.Synchronizes.{last_to_give_up, gives_up}
use Rattle.mem_axioms.specs.HappensBefore.{happens_before}
use Rattle.mem_axioms.specs.Form.{fits_form_by, has_form_by}
use Rattle.mem_axioms.specs.Floor.{is_known}
use Rattle.mem_axioms.specs.declared.types.Event.{Event}
use Rattle.mem_axioms.specs.declared.types.Rule.{Rule}
use Rattle.mem_axioms.specs.Lemmas.Steps.{before-less}
use Rattle.clock_laws.specs.Clocks.{Clock, knew, views}
use Rattle.clock_laws.specs.Lemmas.Stands.{Stands, Upto}
use Rattle.clock_laws.specs.Lemmas.ClockTest.{knew-stands, give-below}
use Rattle.clock_laws.specs.Lemmas.Machine.{views-correct}

-- tests that hold together are equal
pub same-test : (a b : Bool) → (a ≡ true → b ≡ true) → (b ≡ true → a ≡ true) → a ≡ b
same-test true true there back = refl
same-test true false there back = sym (there refl)
same-test false true there back = back refl
same-test false false there back = refl

-- a set that a clock stands for, tested
pub stands-test : (log : List Event) (S : ℕ → Type 0) (K : Clock) (b : Bool) (i : ℕ) (ei : Event) → Stands log S K → event_at log i ≡ Some ei → (b ≡ true → S i) → (S i → b ≡ true) → b ≡ ltb i (K ei.thread)
stands-test log S K b i ei s at there back = same-test b (ltb i (K ei.thread))
    (λ h. lt-ltb i (K ei.thread) ((s.exact i ei at).0 (there h)))
    (λ h. back ((s.exact i ei at).1 (ltb-true i (K ei.thread) h)))

module _ (rule : Rule) (right : List Event → CellId → ℕ → Scalar → Bool) (log : List Event) (form : has_form_by right log ≡ true) where
  pub before-test : (i k : ℕ) (ei ek : Event) → event_at log i ≡ Some ei → event_at log k ≡ Some ek → happens_before rule log i k ≡ (ltb i k && ltb i ((views rule log).at k ei.thread))
  before-test i k ei ek at_i at_k = same-test _ _
      (λ h. and_from (ltb i k) _ (lt-ltb i k (before-less rule log i k h).0) (lt-ltb i ((views rule log).at k ei.thread) ((s.exact i ei at_i).0 (inr h))))
      (λ h. let p = and_parts (ltb i k) _ h in let l = ltb-true i k p.0 in elim ((s.exact i ei at_i).1 (ltb-true i ((views rule log).at k ei.thread) p.1)) [ inl q ↦ absurd (omega arith) | inr q ↦ q ])
    where
      s : Stands log (Upto rule log k) ((views rule log).at k)
      s = (views-correct rule right log form).of_event k ek at_k

  pub known-test : (t i : ℕ) (ei : Event) → event_at log i ≡ Some ei → is_known rule log t i ≡ ltb i ((views rule log).thread t ei.thread)
  known-test t i ei at = stands-test log (λ i. is_known rule log t i ≡ true) ((views rule log).thread t) (is_known rule log t i) i ei ((views-correct rule right log form).of_thread t) at (λ h. h) (λ h. h)

  pub next-test : (e : Event) → fits_form_by right log e ≡ true → (i : ℕ) (ei : Event) → event_at log i ≡ Some ei → happens_before rule (e ∷ log) i (length log) ≡ ltb i (knew (views rule log) e ei.thread)
  next-test e f i ei at = stands-test log (λ i. happens_before rule (e ∷ log) i (length log) ≡ true) (knew (views rule log) e) (happens_before rule (e ∷ log) i (length log)) i ei
      (knew-stands rule right log (views rule log) e (views-correct rule right log form) f) at (λ h. h) (λ h. h)

-- a left stack
pub left-clock : (rule : Rule) (log : List Event) (s k : ℕ) → last_to_give_up log s k ≡ true → (u : ℕ) → (views rule log).left s u ≡ (views rule log).at k u
left-clock rule [] s k h u = absurd (false≢true h)
left-clock rule (e ∷ past) s k h u = go (left-clock rule past s k) (gives_up s e) refl
  where
    go : (last_to_give_up past s k ≡ true → (u : ℕ) → (views rule past).left s u ≡ (views rule past).at k u) → (b : Bool) → gives_up s e ≡ b → (views rule (e ∷ past)).left s u ≡ (views rule (e ∷ past)).at k u
    go ih true p = rw (p, eq-eqb k (length past) (eqb-true k (length past) (rw (p, last_to_give_up) at h))) refl
    go ih false p =
        let older : last_to_give_up past s k ≡ true = rw (p, last_to_give_up) at h in
        let l = give-below past s k older in
        rw (p, ne_eqb k (length past) (λ z. omega arith)) (ih older u)
