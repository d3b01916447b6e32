-- A run that ends otherwise than by its budget is the same run at each greater budget.
use Rattle.std.specs.Prelude.{◌≡◌, ◌≢◌, ◌≤◌, ℕ, zero, suc, ◌+◌, Bool, List, [], ◌∷◌, Option, Some, None, reverse, if◌then◌else◌, refl}
use Rattle.std.proofs.Common.{sym, ◌∙◌, ap, subst, arith}
use Rattle.std.proofs.lemmas.Bool.{eq-eqb, ne_eqb}
use Rattle.typed_heap.specs.Places.{with_some}
use Rattle.mu_model.specs.declared.lines.Line.{Line}
use Rattle.mu_model.specs.declared.endings.Ending.{Ending}
use Rattle.mu_model.specs.declared.endings.Ending.TheVariants as endings
use Rattle.mu_model.specs.Configuration.{Configuration}
use Rattle.mu_model.specs.Acts.{Program}
use Rattle.mu_model.specs.Outcomes.{Outcome, Next, End, Asks, Stuck}
use Rattle.mu_model.specs.Step.{threads_from, runnable, picking_thread, ends_or_picks}
use Rattle.mu_model.specs.Run.{Run, Ends, Breaks, Unfinished, Setting, behind, client_answers, goes_on, run, begins_in, run_from, program_run}
use Rattle.budget_laws.specs.Budgets.{with_more, EndedRunsStay}
use Rattle.budget_laws.proofs.Counts.{counted, recounted, picking_blind, told_blind}

-- an ending other than by the budget, and a run that has one
abbrev pub IsOther : Ending → Type 0
IsOther (endings.Budget n) = ⊥
IsOther e = Unit {0}

abbrev pub EndsOtherwise : Run → Type 0
EndsOtherwise (Ends steps lines e) = IsOther e
EndsOtherwise r = ⊥

-- where the first run has one, the second run is the same
abbrev pub Stays : Run → Run → Type 0
Stays r other = EndsOtherwise r → other ≡ r

ends_behind : (ls : List Line) (r : Run) → EndsOtherwise (behind ls r) → EndsOtherwise r
ends_behind ls (Ends steps lines e) h = h
ends_behind ls Breaks h = h
ends_behind ls Unfinished h = h

module _ (p : Program) where
  -- what comes of a step with these counts, and of one where a thread may be picked
  abbrev asked : ℕ × ℕ → Configuration → List ℕ → List ℕ → Outcome
  asked q c ts is = client_answers p c.client (ends_or_picks p (counted q c) ts is)

  abbrev tested : ℕ × ℕ → Configuration → List ℕ → Bool → Outcome
  tested q c is spent = client_answers p c.client (if spent then End [] (endings.Budget q.0) else picking_thread p (counted q c) is)

  stepped : (n b : ℕ) (c : Configuration) (t i : ℕ) (ts is : List ℕ) → (n ≡ b → ⊥) →
      asked (n, b) c (t ∷ ts) (i ∷ is) ≡ recounted (suc n, b) (client_answers p c.client (picking_thread p c (i ∷ is)))
  stepped n b c t i ts is h =
      ap (tested (n, b) c (i ∷ is)) (ne_eqb n b h)
      ∙ ap (client_answers p c.client) (picking_blind p n b c (i ∷ is))
      ∙ told_blind p c.client (suc n, b) (picking_thread p c (i ∷ is))

  -- after n steps, of which b may be made, and m are left; or B may be made, and M are left
  longer : (m M n b B : ℕ) (c : Configuration) → b ≡ n + m → B ≡ n + M → m ≤ M →
      Stays (run p (suc m) (counted (n, b) c)) (run p (suc M) (counted (n, B) c))
  longer zero M n b B c few many l = by (threads_from 0 c.threads) (runnable c)
    where
      by : (ts is : List ℕ) → Stays (goes_on (run p zero) (asked (n, b) c ts is)) (goes_on (run p M) (asked (n, B) c ts is))
      by [] is h = refl
      by (t ∷ ts) [] h = refl
      by (t ∷ ts) (i ∷ is) h = absurd (subst (λ x. EndsOtherwise (goes_on (run p zero) (tested (n, b) c (i ∷ is) x))) (eq-eqb n b (omega arith)) h)
  longer (suc m) zero n b B c few many l = absurd (omega arith)
  longer (suc m) (suc M) n b B c few many l =
      by (threads_from 0 c.threads) (runnable c) (λ d. longer m M (suc n) b B d (omega arith) (omega arith) (omega arith))
    where
      Later : Type 0
      Later = (d : Configuration) → Stays (run p (suc m) (counted (suc n, b) d)) (run p (suc M) (counted (suc n, B) d))

      more : (o : Outcome) → Later → Stays (goes_on (run p (suc m)) (recounted (suc n, b) o)) (goes_on (run p (suc M)) (recounted (suc n, B) o))
      more (Next d) later h = ap (behind (reverse d.lines)) (later d (ends_behind (reverse d.lines) (run p (suc m) (counted (suc n, b) d)) h))
      more (End ls e) later h = refl
      more (Asks view go) later h = refl
      more Stuck later h = refl

      by : (ts is : List ℕ) → Later → Stays (goes_on (run p (suc m)) (asked (n, b) c ts is)) (goes_on (run p (suc M)) (asked (n, B) c ts is))
      by [] is later h = refl
      by (t ∷ ts) [] later h = refl
      by (t ∷ ts) (i ∷ is) later h =
          let small = stepped n b c t i ts is (λ (e : n ≡ b). omega arith) in
          let large = stepped n B c t i ts is (λ (e : n ≡ B). omega arith) in
          ap (goes_on (run p (suc M))) large
          ∙ more (client_answers p c.client (picking_thread p c (i ∷ is))) later (subst (λ o. EndsOtherwise (goes_on (run p (suc m)) o)) small h)
          ∙ sym (ap (goes_on (run p (suc m))) small)

pub more_steps : (p : Program) (s : Setting) (f k : ℕ) → Stays (program_run p s f) (program_run p (with_more k s) f)
more_steps p s f k = by (p.body f)
  where
    from : Setting → Option (Option ℕ) → Run
    from s o = run_from p (with_some o (λ b. with_some b (λ block. Some (begins_in p s f block))))

    by : (o : Option (Option ℕ)) → Stays (from s o) (from (with_more k s) o)
    by None h = refl
    by (Some None) h = refl
    by (Some (Some block)) h =
        let more : ℕ = s.budget + k in
        longer p s.budget more 0 s.budget more (begins_in p s f block) (omega arith) (omega arith) (omega arith) h

is_other : (e : Ending) → ((n : ℕ) → e ≢ endings.Budget n) → IsOther e
is_other (endings.Budget n) h = absurd (h n refl)
is_other _ h = tt

pub ended_runs_stay : EndedRunsStay
ended_runs_stay p s f k steps lines e other is = more_steps p s f k (subst EndsOtherwise (sym is) (is_other e other)) ∙ is
