-- A local step and a step of another thread come to the same configuration, either way round.
use Rattle.std.specs.Prelude.{◌≡◌, ◌≢◌, ◌<◌, ℕ, suc, List, [], ◌∷◌, Option, Some, None, length, slice_get, slice_set, find, refl}
use Rattle.std.proofs.Common.{sym, ◌∙◌, ap, subst, arith}
use Rattle.std.proofs.lemmas.Option.{slice_get_within}
use Rattle.mu_model.specs.declared.lines.Line.{Line}
use Rattle.mu_model.specs.declared.endings.Ending.{Ending}
use Rattle.mu_model.specs.Configuration.{Stack, Active, Configuration}
use Rattle.mu_model.specs.Acts.{Program}
use Rattle.mu_model.specs.Turns.{Turn, turn_of}
use Rattle.mu_model.specs.Outcomes.{Next, End, on}
use Rattle.futex.specs.Waiting.{is_of}
use Rattle.mu_model.specs.Step.{turned, turns, picked}
use Rattle.mu_model.specs.Run.{client_answers}
use Rattle.search_laws.specs.Local.{after, mapped, Stands, Awake, Acts, ToldTurnsCommute}
use Rattle.local_laws.specs.LocalSteps.{made, plain, Meet, LocalStepsMeet, LocalStepsLeaveEndings}
use Rattle.local_laws.proofs.Counting.{with_counts, counted, turns_counted, told_counted}
use Rattle.local_laws.proofs.Keeping.{NoEnds, IsCut, Has, Every, turned_has}
use Rattle.local_laws.proofs.Answering.{told_has}
use Rattle.local_laws.specs.Lemmas.Forms.{Effect, effect, thread_of, stack_of, result, is_shut, set_there, get_within, on_some, local_turns, turned_on, Locals, locals, locals_kept, acts_local}

-- ---- what a step of a thread makes of the counts

pub made_counts : (p : Program) (c e : Configuration) (j : ℕ) (picks : List ℕ) → made p c j picks ≡ Next e → (e.steps ≡ suc c.steps) × (e.budget ≡ c.budget)
made_counts p c e j picks q =
    let ps : ℕ × ℕ = (suc c.steps, c.budget) in
    let both : Next e ≡ Next (with_counts ps e) =
    sym q ∙ ap (client_answers p c.client) (turns_counted p ps (picked c picks) j) ∙ told_counted p ps c.client (turns p (picked c picks) j) ∙ ap (counted ps) q in
    let same : e ≡ with_counts ps e = cc in
    (ap (λ (c : Configuration). c.steps) same, ap (λ (c : Configuration). c.budget) same)

-- ---- what the step of another thread keeps

turns_has : (p : Program) (T S i j : ℕ) (c : Configuration) → j ≢ i → Has T S i c → Every T S i (turns p c j)
unfolding on
turns_has p T S i j c g h = by (turn_of p c j) refl
  where
    by : (o : Option Turn) → turn_of p c j ≡ o → Every T S i (on o (turned p c (find (is_of j) c.waiters)))
    by None q = tt
    by (Some u) q = turned_has T S i p c u (find (is_of j) c.waiters) (λ e. g (sym (turned_on p c j u q).own.0 ∙ e)) h

made_has : (p : Program) (i j : ℕ) (c : Configuration) (picks : List ℕ) → j ≢ i → Awake i c.waiters → Every (length c.threads) (length c.stacks) i (made p c j picks)
made_has p i j c picks g a =
    told_has (length c.threads) (length c.stacks) i p c.client (turns p (picked c picks) j) (turns_has p (length c.threads) (length c.stacks) i j (picked c picks) g (omega arith, omega arith, a, tt))

-- an ending that another thread gives cuts the run short
pub made_cuts : (p : Program) (i j : ℕ) (c : Configuration) (picks : List ℕ) (ls : List Line) (x : Ending) → j ≢ i → Awake i c.waiters → made p c j picks ≡ End ls x → IsCut x
made_cuts p i j c picks ls x g a q = subst (Every (length c.threads) (length c.stacks) i) q (made_has p i j c picks g a)

-- ---- the local step itself

pub local_made : (p : Program) (c : Configuration) (i : ℕ) (h : Locals p c i) (picks : List ℕ) → made p c i picks ≡ on (effect p h.u h.a) (λ e. Next (result i h.t e (picked c picks)))
unfolding on
local_made p c i h picks = ap (client_answers p c.client) (local_turns p (picked c picks) i h.t h.u h.a acts h.alone) ∙ by (effect p h.u h.a)
  where
    acts : Acts p (picked c picks) i h.t h.u h.a
    acts = record { thread = h.acts.thread; turn = h.acts.turn; awake = h.acts.awake; act = h.acts.act; own = h.acts.own }

    by : (o : Option Effect) → client_answers p c.client (on o (λ e. Next (result i h.t e (picked c picks)))) ≡ on o (λ e. Next (result i h.t e (picked c picks)))
    by None = refl
    by (Some e) = refl

-- where it goes on, it has an effect
pub record Went (p : Program) (c d : Configuration) (i : ℕ) (h : Locals p c i) (picks : List ℕ) : Type 0 where
  pub does : Effect
  pub is : effect p h.u h.a ≡ Some does
  pub comes : d ≡ result i h.t does (picked c picks)

pub went : (p : Program) (c d : Configuration) (i : ℕ) (h : Locals p c i) (picks : List ℕ) → made p c i picks ≡ Next d → Went p c d i h picks
unfolding on
went p c d i h picks e = by (effect p h.u h.a) refl (sym (local_made p c i h picks) ∙ e)
  where
    by : (o : Option Effect) → effect p h.u h.a ≡ o → on o (λ e. Next (result i h.t e (picked c picks))) ≡ Next d → Went p c d i h picks
    by None q e = cc
    by (Some x) q e = record { does = x; is = q; comes = cc }

-- ---- the two together

module _ (commutes : ToldTurnsCommute) (p : Program) (c : Configuration) (i j : ℕ) (other : j ≢ i) (h : Locals p c i) (picks : List ℕ) where
  frames : Stack
  frames = Active i (h.u.top ∷ h.u.below)

  stands : Stands i h.t.stack (picked c picks)
  stands = record { frames = h.u.top ∷ h.u.below; on = h.stack; there = slice_get_within c.threads i (Some h.t) h.acts.thread }

  -- behind the local step the other thread does the same
  pub behind_local : (x : Effect) → made p (result i h.t x (picked c [])) j picks ≡ counted (suc (suc c.steps), c.budget) (mapped (after i h.t.stack (thread_of h.t x) (stack_of i x)) (made p c j picks))
  behind_local x =
      let ps : ℕ × ℕ = (suc (suc c.steps), c.budget) in
      let far : Configuration → Configuration = after i h.t.stack (thread_of h.t x) (stack_of i x) in
      ap (client_answers p c.client) (turns_counted p ps (far (picked c picks)) j)
      ∙ told_counted p ps c.client (turns p (far (picked c picks)) j)
      ∙ ap (counted ps) (commutes p i h.t.stack (thread_of h.t x) (stack_of i x) (picked c picks) j (is_shut i x) stands h.awake other)

  -- and it leaves the thread as it was
  pub record Kept (e : Configuration) : Type 0 where
    pub thread : slice_get e.threads i ≡ Some (Some h.t)
    pub stack : slice_get e.stacks h.t.stack ≡ Some (Active i (h.u.top ∷ h.u.below))
    pub awake : Awake i e.waiters
    pub ends : NoEnds i e.lines

  pub kept : (e : Configuration) → made p c j picks ≡ Next e → Kept e
  kept e q =
      let has : Has (length c.threads) (length c.stacks) i e = subst (Every (length c.threads) (length c.stacks) i) q (made_has p i j c picks other h.awake) in
      let y : Stack = Active i (h.u.top ∷ h.u.below) in
      let k : ℕ = h.t.stack in
      let c1 : Configuration = picked c picks in
      let same : after i k (Some h.t) y c1 ≡ c1 =
      ap (λ ts. record c1 { threads = ts; stacks = slice_set c.stacks k y }) (set_there c.threads i (Some h.t) h.acts.thread)
      ∙ ap (λ ss. record c1 { stacks = ss }) (set_there c.stacks k y h.stack) in
      let both : Next e ≡ Next (after i k (Some h.t) y e) =
      sym q ∙ ap (λ (d : Configuration). client_answers p c.client (turns p d j)) (sym same) ∙ commutes p i k (Some h.t) y c1 j refl stands h.awake other ∙ ap (mapped (after i k (Some h.t) y)) q in
      let now : e ≡ after i k (Some h.t) y e = cc in
      let low : i < length e.threads = omega (arith, stands.there, has.0) in
      let deep : k < length e.stacks = omega (arith, slice_get_within c.stacks k y h.stack, has.1) in
      record {
        thread = ap (λ (c : Configuration). slice_get c.threads i) now ∙ get_within e.threads i (Some h.t) low;
        stack = ap (λ (c : Configuration). slice_get c.stacks k) now ∙ get_within e.stacks k y deep;
        awake = has.2;
        ends = has.3;
      }

  pub locals_there : (e : Configuration) → made p c j picks ≡ Next e → Locals p e i
  locals_there e q =
      let k = kept e q in
      record { t = h.t; u = h.u; a = h.a; acts = locals_kept p c e i h k.thread k.stack k.awake; alone = h.alone; stack = k.stack; awake = k.awake }

  meet_at : (x : Effect) (e : Configuration) → effect p h.u h.a ≡ Some x → made p c j picks ≡ Next e → Meet p i j picks (result i h.t x (picked c [])) e
  unfolding locals_there
  meet_at x e is q =
      let far : Configuration → Configuration = after i h.t.stack (thread_of h.t x) (stack_of i x) in
      let ps : ℕ × ℕ = (suc (suc c.steps), c.budget) in
      let n = made_counts p c e j picks q in
      let l : Locals p e i = locals_there e q in
      record {
        over = with_counts ps (far e);
        made_over = behind_local x ∙ ap (λ o. counted ps (mapped far o)) q;
        under = result i h.t x (picked e []);
        made_under = local_made p e i l [] ∙ on_some (effect p h.u h.a) x (λ x. Next (result i h.t x (picked e []))) is;
        same = ap (λ m. plain (with_counts (suc m, c.budget) (far e))) (sym n.0) ∙ ap (λ b. plain (with_counts (suc e.steps, b) (far e))) (sym n.1);
        lines_over = refl;
        lines_under = refl;
        local = acts_local p e i h.t h.u h.a l.acts h.alone;
      }

pub local_steps_meet : ToldTurnsCommute → LocalStepsMeet
local_steps_meet commutes p c d e i j picks l g q r =
    let h = locals p c i l in
    let w = went p c d i h [] q in
    subst (λ d. Meet p i j picks d e) (sym w.comes) (meet_at commutes p c i j g h picks w.does e w.is r)

pub local_steps_leave_endings : ToldTurnsCommute → LocalStepsLeaveEndings
local_steps_leave_endings commutes p c d i j picks ls x l g q r =
    let h = locals p c i l in
    let w = went p c d i h [] q in
    ap (λ d. made p d j picks) w.comes ∙ behind_local commutes p c i j g h picks w.does
    ∙ ap (λ o. counted (suc (suc c.steps), c.budget) (mapped (after i h.t.stack (thread_of h.t w.does) (stack_of i w.does)) o)) r
