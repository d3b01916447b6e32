-- A step goes on by an answer of a way that fits, and counts.
use Rattle.std.specs.Prelude.{◌≡◌, ◌≤◌, ◌+◌, ℕ, suc, List, [], ◌∷◌, All}
use Rattle.std.proofs.Common.{arith, subst}
use Rattle.std.proofs.lemmas.List.Elements.{All-cons, All-nil, All-weaker}
use Rattle.mu_model.specs.Acts.{Program}
use Rattle.mu_model.specs.Clients.{Client}
use Rattle.mu_model.specs.Configuration.{Configuration, Stack}
use Rattle.mu_model.specs.Outcomes.{Outcome, Next, End, Asks, Stuck}
use Rattle.mu_model.specs.Run.{with_client}
use Rattle.mu_model.specs.Step.{picked, step}
use Rattle.model_laws.specs.Bounds.{depth}
use Rattle.model_laws.specs.ClientsFit.{ClientFits}
use Rattle.model_laws.specs.Places.{Places}
use Rattle.model_laws.specs.Programs.{IsTyped}
use Rattle.model_laws.specs.Values.{world}
use Rattle.model_laws.specs.WellTyped.{GoesWell, Settles, WellTyped}
use Rattle.model_laws.specs.Lemmas.Bounded.{step_done}
use Rattle.model_laws.specs.Lemmas.Counting.{Done, Every}
use Rattle.model_laws.specs.Lemmas.Proved.{steps_well}
use Rattle.client_hooks.specs.Ways.{Way, client_answers_by}
use Rattle.way_laws.specs.Runs.{WayFits}

-- ---- what follows is well typed

client_fits : (p : Program) (t : Places) (c : Configuration) (k : Client) → WellTyped p t c → ClientFits p.tables k → WellTyped p t (record c { client = k })
client_fits p t c k h fit = record {
  globals = h.globals;
  stacks = h.stacks;
  owners = h.owners;
  objects = h.objects;
  log = record { events = h.log.events; sound = h.log.sound; follows = h.log.follows; threads = h.log.threads };
  threads = h.threads;
  waiters = h.waiters;
  client = fit;
  most = h.most;
  steps = h.steps;
}

with_client_settles : (p : Program) (t : Places) (k : Client) (o : Outcome) → ClientFits p.tables k → Settles p t o → Settles p t (with_client k o)
with_client_settles p t k (Next c) fit h = client_fits p t c k h fit
with_client_settles p t k (End ls e) fit h = tt
with_client_settles p t k (Asks view go) fit h = absurd h
with_client_settles p t k Stuck fit h = absurd h

module _ (how : Way) (p : Program) (t : Places) (typed : IsTyped p t) (fits : WayFits p.tables how) (c : Configuration) (h : WellTyped p t c) where
  told_settles : (o : Outcome) → GoesWell p t (world p.tables c) o → Settles p t (client_answers_by how p c.client o)
  told_settles (Next d) k = k
  told_settles (End ls e) k = tt
  told_settles (Asks view go) k =
      with_client_settles p t (how.past c.client) (go (how.answer p.tables view c.client)) (fits.past c.client h.client)
      (k.1 (how.answer p.tables view c.client) (fits.answers (world p.tables c) h.globals view c.client k.0 h.client))
  told_settles Stuck k = absurd k

  pub settles : Settles p t (client_answers_by how p c.client (step p c))
  settles = told_settles (step p c) (steps_well p t c typed h)

-- ---- what follows has made one step more, with the same budget

deepest : (ss : List Stack) → (m : ℕ) × All (λ s. depth s ≤ m) ss
deepest [] = (0, All-nil (λ s. depth s ≤ 0))
deepest (s ∷ ss) =
    let r = deepest ss in
    let m : ℕ = depth s + r.0 in
    (m, All-cons (λ s. depth s ≤ m) s ss (omega arith) (All-weaker (λ s. depth s ≤ r.0) (λ s. depth s ≤ m) (λ s l. omega (arith, l)) ss r.1))

module _ (how : Way) (p : Program) (base : Configuration) (m : ℕ) where
  told_done : (k : Client) (o : Outcome) → Every (Done p base m) o → Every (Done p base m) (client_answers_by how p k o)
  told_done k (Next d) g = g
  told_done k (End ls e) g = g
  told_done k (Asks view go) g = by (go (how.answer p.tables view k)) (g (how.answer p.tables view k))
    where
      by : (o : Outcome) → Every (Done p base m) o → Every (Done p base m) (with_client (how.past k) o)
      by (Next d) g = g
      by (End ls e) g = g
      by (Asks view go) g = g
      by Stuck g = g
  told_done k Stuck g = g

pub record Counts (c d : Configuration) : Type 0 where
  pub steps : d.steps ≡ suc c.steps
  pub budget : d.budget ≡ c.budget

pub step_counts : (how : Way) (p : Program) (t : Places) (c d : Configuration) → WellTyped p t c → client_answers_by how p c.client (step p c) ≡ Next d → Counts c d
step_counts how p t c d h q =
    let r = deepest c.stacks in
    let base : Configuration = picked c c.picks in
    let k = subst (Every (Done p base (suc r.0))) q (told_done how p base (suc r.0) c.client (step p c) (step_done p t c h r.0 r.1)) in
    record { steps = k.0; budget = k.1 }
