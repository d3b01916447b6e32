-- Well-typed configurations are what is asked of the configurations of a run.
use Rattle.std.specs.Prelude.{◌≡◌, ◌<◌, ℕ, suc, Bool, true, false, ◌==◌, not, List, [], ◌∷◌, Option, Some, None, filter, length, slice_get, if◌then◌else◌}
use Rattle.std.proofs.Common.{refl, sym, ◌∙◌, ap, subst, arith}
use Rattle.std.proofs.lemmas.Bool.{ne_eqb}
use Rattle.mu_threads.specs.Picks.{pick}
use Rattle.mu_model.specs.declared.lines.Line.{Line}
use Rattle.mu_model.specs.declared.endings.Ending.TheVariants as endings
use Rattle.mu_model.specs.Configuration.{Configuration}
use Rattle.mu_model.specs.Acts.{Program}
use Rattle.mu_model.specs.Outcomes.{Next, End, on}
use Rattle.mu_model.specs.Step.{threads_from, is_blocked, runnable, turns, picked, picking_thread, ends_or_picks, step}
use Rattle.mu_model.specs.Run.{client_answers}
use Rattle.model_laws.specs.Places.{Places}
use Rattle.model_laws.specs.Programs.{IsTyped}
use Rattle.model_laws.specs.LogFits.{LogFits}
use Rattle.model_laws.specs.WellTyped.{WellTyped, Settles}
use Rattle.model_laws.specs.Laws.{ClientsSettle, LogsMeetAxioms}
use Rattle.model_laws.specs.Bounds.{StepsStayInBounds}
use Rattle.search_laws.specs.Moved.{with_picks}
use Rattle.local_laws.specs.Lemmas.Forms.{on_some}
use Rattle.exchange_steps.specs.Made.{some-pick, slice-below}
use Rattle.sleep_laws.specs.Fits.{plain, Advances, Fits}

module _ (p : Program) (t : Places) where
  -- it does not matter which numbers are left, nor which lines there are
  again : (c : Configuration) (qs : List ℕ) (ls : List Line) → WellTyped p t c → WellTyped p t (record c { picks = qs; lines = ls })
  again c qs ls h = record {
    globals = h.globals;
    stacks = h.stacks;
    owners = h.owners;
    objects = h.objects;
    log = record { events = h.log.events; sound = h.log.sound; follows = h.log.follows; threads = h.log.threads };
    threads = h.threads;
    waiters = h.waiters;
    client = h.client;
    most = h.most;
    steps = h.steps;
  }

  -- the step of each thread that may run, by some numbers
  step_given : (c : Configuration) (j k : ℕ) (picks : List ℕ) → slice_get (runnable c) k ≡ Some j → c.steps < c.budget → (given : List ℕ) × (step p (with_picks given c) ≡ turns p (picked c picks) j)
  step_given c j k picks r room = by (threads_from 0 c.threads) (runnable c) refl r
    where
      by : (ts is : List ℕ) → filter (λ i. not (is_blocked c.waiters i)) ts ≡ is → slice_get is k ≡ Some j → (given : List ℕ) × (ends_or_picks p (with_picks given c) ts is ≡ turns p (picked c picks) j)
      by ts [] q r = let no : None ≡ Some j = r in absurd (cc)
      by [] (i ∷ is) q r = let no : [] ≡ i ∷ is = q in absurd (cc)
      by (t ∷ ts) (i ∷ is) q r =
          let g = some-pick (length (i ∷ is)) k picks (slice-below (i ∷ is) k j r) in (
            g.0,
            ap (λ (x : Bool). if x then End [] (endings.Budget c.steps) else picking_thread p (with_picks g.0 c) (i ∷ is)) (ne_eqb c.steps c.budget (λ e. omega (arith, room, e)))
                ∙ ap (λ (k : ℕ × List ℕ). on (slice_get (i ∷ is) k.0) (turns p (picked c k.1))) g.1
                ∙ on_some (slice_get (i ∷ is) k) j (turns p (picked c picks)) r,
          )

  pub typed_fits : ClientsSettle → LogsMeetAxioms → StepsStayInBounds → IsTyped p t → Fits p (WellTyped p t)
  typed_fits settle axioms bounds typed = record {
    meets = λ c h. axioms p t c h;
    goes = λ c d h a.
        let g = step_given c a.thread a.number a.picks a.runs a.room in
        let is : client_answers p c.client (step p (with_picks g.0 c)) ≡ Next d = ap (client_answers p c.client) g.1 ∙ a.made in
        subst (Settles p t) is (settle p t (with_picks g.0 c) typed (again c g.0 c.lines h));
    counts = λ c d h a.
        let g = step_given c a.thread a.number a.picks a.runs a.room in
        let is : client_answers p c.client (step p (with_picks g.0 c)) ≡ Next d = ap (client_answers p c.client) g.1 ∙ a.made in
        let b = bounds p t (with_picks g.0 c) d 0 typed (again c g.0 c.lines h) is in
        (b.steps, b.budget);
    alone = λ c h. again c [] [] h;
  }
