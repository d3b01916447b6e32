-- What SEQ_CST fences knew.
use Rattle.std.proofs.Common.{◌≡◌, ℕ, suc, ◌<◌, ◌≤◌, Bool, true, false, List, [], ◌∷◌, length, Some, refl, sym, ◌∙◌, inl, inr, ◌⊎◌, ◌↔◌, arith}
use Rattle.std.proofs.lemmas.Bool.{ne_eqb, eq-eqb, cases_eq, and_parts, false≢true}
use Rattle.mu_values.specs.declared.scalars.Scalar.{Scalar}
use Rattle.mu_values.specs.declared.cells.CellId.{CellId}
use Rattle.mem_axioms.specs.Events.{is_seq_cst_fence}
use Rattle.mem_axioms.specs.Logs.{event_at}
use Rattle.mem_axioms.specs.Form.{fits_form_by, has_form_by}
use Rattle.mem_axioms.specs.declared.types.Event.{Event}
use Rattle.mem_axioms.specs.declared.types.Rule.{Rule}
use Rattle.mem_axioms.specs.Lemmas.Numbers.{event-below, event-kept, event-cases, event-newest}
use Rattle.clock_laws.specs.Clocks.{Clock, Views, join, knows, after, views}
use Rattle.clock_laws.specs.Lemmas.Stands.{Stands, Upto, upto-less, upto-older, stands-none, stands-same, stands-or, stands-ext, stands-older}
use Rattle.clock_laws.specs.Lemmas.ClockTest.{Correct}
use Rattle.clock_laws.specs.Lemmas.Sequences.{older-at}
use Rattle.clock_laws.specs.Lemmas.Machine.{own, views-correct}

module _ (rule : Rule) where
  -- event i is up to some SEQ_CST fence before event a
  pub record Joined (log : List Event) (a i : ℕ) : Type 0 where
    pub b : ℕ
    pub eb : Event
    pub at_b : event_at log b ≡ Some eb
    pub fence : is_seq_cst_fence eb ≡ true
    pub less : b < a
    pub rest : Upto rule log b i

  pub record CorrectFences (log : List Event) (v : Views) : Type 0 where
    pub of_joined : Stands log (Joined log (length log)) v.joined
    pub of_before : (a : ℕ) (ea : Event) → event_at log a ≡ Some ea → Stands log (Joined log a) (v.before a)

  module _ (right : List Event → CellId → ℕ → Scalar → Bool) (e : Event) (past : List Event) (v : Views) (cor : Correct rule past v) (form : has_form_by right past ≡ true) (f : fits_form_by right past e ≡ true) (fen : CorrectFences past v) where
    joined_older : (a i : ℕ) → a ≤ length past → (Joined (e ∷ past) a i ↔ Joined past a i)
    joined_older a i l = (
      λ x. (let z = x.less in let k : x.b < length past = omega arith in record { b = x.b; eb = x.eb; at_b = older-at rule e past x.b x.eb x.at_b k; fence = x.fence; less = x.less; rest = (upto-older rule e past x.b i k).0 x.rest }),
      λ x. record { b = x.b; eb = x.eb; at_b = event-kept e past x.b x.eb x.at_b; fence = x.fence; less = x.less; rest = (upto-older rule e past x.b i (event-below past x.b x.eb x.at_b)).1 x.rest },
    )

    joined_late : (a : ℕ) → a ≤ length past → Joined past a (length past) → ⊥
    joined_late a l x = let z = event-below past x.b x.eb x.at_b in let y = upto-less rule past x.b (length past) x.rest in omega arith

    kept_joined : (a : ℕ) (K : Clock) → a ≤ length past → Stands past (Joined past a) K → Stands (e ∷ past) (Joined (e ∷ past) a) K
    kept_joined a K l s = stands-older e past (Joined past a) (Joined (e ∷ past) a) K (λ i m. joined_older a i l) (λ x. joined_late a l ((joined_older a (length past) l).0 x)) s

    joined_after : Stands (e ∷ past) (Joined (e ∷ past) (suc (length past))) ((after rule v (length past) e).joined)
    joined_after = go (is_seq_cst_fence e) refl
      where
        go : (b : Bool) → is_seq_cst_fence e ≡ b → Stands (e ∷ past) (Joined (e ∷ past) (suc (length past))) ((after rule v (length past) e).joined)
        go true p = stands-ext (e ∷ past) _ (join v.joined (knows v (length past) e)) _ (λ u. rw p refl) (stands-same (e ∷ past) (λ i. Joined (e ∷ past) (length past) i ⊎ Upto rule (e ∷ past) (length past) i) (Joined (e ∷ past) (suc (length past))) _ (λ i ei at. (
          λ x. elim (cases_eq x.b (length past)) [ inl q ↦ inr (rw q at x.rest) | inr q ↦ inl (let z = x.less in record { b = x.b; eb = x.eb; at_b = x.at_b; fence = x.fence; less = omega arith; rest = x.rest }) ],
          λ x. elim x [
            | inl y ↦ (let z = y.less in record { b = y.b; eb = y.eb; at_b = y.at_b; fence = y.fence; less = omega arith; rest = y.rest })
            | inr y ↦ record { b = length past; eb = e; at_b = event-newest e past; fence = p; less = omega arith; rest = y }
          ],
        ))
            (stands-or (e ∷ past) _ _ _ _ (kept_joined (length past) v.joined (omega arith) fen.of_joined) (own rule right e past v cor form f)))
        go false p = stands-ext (e ∷ past) _ v.joined _ (λ u. rw p refl) (stands-same (e ∷ past) (Joined (e ∷ past) (length past)) (Joined (e ∷ past) (suc (length past))) _ (λ i ei at. (
          λ x. elim (cases_eq x.b (length past)) [
            | inl q ↦ (let z : event_at (e ∷ past) (length past) ≡ Some x.eb = rw q at x.at_b in let m = event-newest e past in let same : x.eb ≡ e = cc in absurd (false≢true (sym p ∙ (rw same at x.fence))))
            | inr q ↦ (let z = x.less in record { b = x.b; eb = x.eb; at_b = x.at_b; fence = x.fence; less = omega arith; rest = x.rest })
          ],
          λ y. (let z = y.less in record { b = y.b; eb = y.eb; at_b = y.at_b; fence = y.fence; less = omega arith; rest = y.rest }),
        ))
            (kept_joined (length past) v.joined (omega arith) fen.of_joined))

    before_after : (a : ℕ) (ea : Event) → event_at (e ∷ past) a ≡ Some ea → Stands (e ∷ past) (Joined (e ∷ past) a) ((after rule v (length past) e).before a)
    before_after a ea at = elim (event-cases e past a ea at) [
      | inl p ↦ stands-ext (e ∷ past) _ v.joined _ (λ u. rw (eq-eqb a (length past) p.0) refl) (rw p.0 (kept_joined (length past) v.joined (omega arith) fen.of_joined))
      | inr p ↦ (let l = p.0 in stands-ext (e ∷ past) _ (v.before a) _ (λ u. rw (ne_eqb a (length past) (λ z. omega arith)) refl) (kept_joined a (v.before a) (omega arith) (fen.of_before a ea p.1)))
    ]

  pub fences-correct : (right : List Event → CellId → ℕ → Scalar → Bool) (log : List Event) → has_form_by right log ≡ true → CorrectFences log (views rule log)
  fences-correct right [] h = record { of_joined = stands-none [] (Joined [] 0) (λ i x. (let l = event-below [] x.b x.eb x.at_b in omega arith)); of_before = λ a ea at. absurd (cc) }
  fences-correct right (e ∷ past) h =
      let p = and_parts (fits_form_by right past e) (has_form_by right past) h in
      let c = views-correct rule right past p.1 in
      let w = fences-correct right past p.1 in
      record { of_joined = joined_after right e past (views rule past) c p.1 p.0 w; of_before = before_after right e past (views rule past) c p.1 p.0 w }
